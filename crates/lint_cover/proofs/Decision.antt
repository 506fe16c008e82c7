-- The decision by halves: every prefix is in one of the patterns.
use Rattle.std.proofs.Common.{◌≡◌, ℕ, zero, suc, ◌+◌, ◌-◌, ◌/◌, ◌^◌, ◌<◌, ◌≤◌, Bool, true, false, List, [], ◌∷◌, inl, inr, refl, ap, sym, subst, ◌∙◌, ⊎_elim, arith}
use Rattle.std.specs.Prelude.{◌↔◌, ◌⊎◌, IsTrue, ◌&&◌, nat_le, nat_lt, max, if◌then◌else◌}
use Rattle.std.proofs.lemmas.Bool.{eqb-true, ltb-true, leb-true, le-leb, lt-ltb, eq-eqb, and_parts, and_from, or_cases, or_left, or_right, cases_lt, false≢true}
use Rattle.net_base.specs.Prefixes.{PlainPrefix, PlainPattern, IsPrefix, IsPattern, is_inside, contains}
use Rattle.net_base.proofs.PrefixLemmas.{fewer_bits}
use Rattle.policy_base.specs.Governing.{some_contains}
use Rattle.lint_cover.specs.Covered.{IsCovered, depth_at, low_half, high_half, covered_below, covered}
use Rattle.lint_cover.proofs.Halves.{low_half-IsPrefix, high_half-IsPrefix, half_around, high_agree}

-- inside, in numbers
pub record Inside (a r : PlainPrefix) : Type 0 where
  pub least : a.len ≤ r.len
  pub agree : r.bits / 2 ^ (32 - a.len) ≡ a.bits / 2 ^ (32 - a.len)

pub inside_parts : (a r : PlainPrefix) → is_inside a r ≡ true → Inside a r
inside_parts a r h = let b = and_parts (nat_le a.len r.len) _ h in record { least = leb-true _ _ b.0; agree = eqb-true _ _ b.1 }

pub inside_whole : (a r : PlainPrefix) → Inside a r → is_inside a r ≡ true
inside_whole a r h = and_from (nat_le a.len r.len) _ (le-leb _ _ h.least) (eq-eqb _ _ h.agree)

pub inside_self : (p : PlainPrefix) → is_inside p p ≡ true
inside_self p = inside_whole p p (record { least = omega arith; agree = refl })

pub inside_inside : (a p r : PlainPrefix) → p.len ≤ 32 → is_inside a p ≡ true → is_inside p r ≡ true → is_inside a r ≡ true
inside_inside a p r within ha hp =
    let x = inside_parts a p ha in
    let y = inside_parts p r hp in
    inside_whole a r (record {
      least = omega (arith, x.least, y.least);
      agree = fewer_bits r.bits a.len p.len x.least within ∙ ap (λ n. n / 2 ^ (p.len - a.len)) y.agree ∙ sym (fewer_bits p.bits a.len p.len x.least within) ∙ x.agree;
    })

max_left : (l a b : ℕ) → l < a → l < max a b
max_left l a b h = omega arith

max_right : (l a b : ℕ) → l < b → l < max a b
max_right l a b h = omega arith

max_cases : (l a b : ℕ) → l < max a b → (l < a) ⊎ (l < b)
max_cases l a b h = ⊎_elim (λ x. inl x) (λ x. inr (omega arith)) (cases_lt l a)

-- the bases around a prefix are around all that is inside it
deeper : (qs : List PlainPattern) (p r : PlainPrefix) (l : ℕ) → p.len ≤ 32 → is_inside p r ≡ true → l < depth_at qs p → l < depth_at qs r
deeper [] p r l within inside h = h
deeper (q ∷ qs) p r l within inside h = by_base (is_inside q.base p) refl (deeper qs p r l within inside) h
  where
    by_base : (b : Bool) → is_inside q.base p ≡ b → (l < depth_at qs p → l < depth_at qs r) → l < max (if is_inside q.base p then suc q.upto else 0) (depth_at qs p) → l < depth_at (q ∷ qs) r
    by_base true is rest h =
        let at = rw is at h in
        rw (inside_inside q.base p r within is inside)
        (⊎_elim (λ x. max_left l (suc q.upto) (depth_at qs r) x) (λ x. max_right l (suc q.upto) (depth_at qs r) (rest x)) (max_cases l (suc q.upto) (depth_at qs p) at))
    by_base false is rest h =
        let at = rw is at h in
        max_right l (if is_inside q.base r then suc q.upto else 0) (depth_at qs r) (rest (omega arith))

-- a prefix is in some pattern exactly where the depth is below its length
pub in_some : (qs : List PlainPattern) (r : PlainPrefix) → r.len < depth_at qs r → some_contains qs r ≡ true
in_some [] r h = absurd (omega arith)
in_some (q ∷ qs) r h = by_base (is_inside q.base r) refl (in_some qs r) h
  where
    by_base : (b : Bool) → is_inside q.base r ≡ b → (r.len < depth_at qs r → some_contains qs r ≡ true)
        → r.len < max (if is_inside q.base r then suc q.upto else 0) (depth_at qs r) → some_contains (q ∷ qs) r ≡ true
    by_base true is rest h =
        let at = rw is at h in
        ⊎_elim (λ x. or_left (contains q r) (some_contains qs r) (and_from (is_inside q.base r) _ is (le-leb _ _ (omega arith))))
        (λ x. or_right (contains q r) (some_contains qs r) (rest x)) (max_cases r.len (suc q.upto) (depth_at qs r) at)
    by_base false is rest h =
        let at = rw is at h in
        or_right (contains q r) (some_contains qs r) (rest (omega arith))

pub some_in : (qs : List PlainPattern) (r : PlainPrefix) → some_contains qs r ≡ true → r.len < depth_at qs r
some_in [] r h = absurd (false≢true h)
some_in (q ∷ qs) r h = by_first (some_in qs r) (or_cases (contains q r) (some_contains qs r) h)
  where
    by_first : (some_contains qs r ≡ true → r.len < depth_at qs r) → (contains q r ≡ true) ⊎ (some_contains qs r ≡ true) → r.len < depth_at (q ∷ qs) r
    by_first rest (inl c) =
        let parts = and_parts (is_inside q.base r) (nat_le r.len q.upto) c in
        let le : r.len ≤ q.upto = leb-true _ _ parts.1 in
        rw parts.0 (max_left r.len (suc q.upto) (depth_at qs r) (omega arith))
    by_first rest (inr later) = max_right r.len (if is_inside q.base r then suc q.upto else 0) (depth_at qs r) (rest later)

abbrev at_most : PlainPrefix → ℕ → PlainPattern
at_most p more = record { base = p; upto = p.len + more }

contains_self : (p : PlainPrefix) (more : ℕ) → contains (at_most p more) p ≡ true
contains_self p more = and_from (is_inside p p) _ (inside_self p) (le-leb _ _ (omega arith))

-- where the decision says yes
pub sound : (qs : List PlainPattern) (p : PlainPrefix) (more : ℕ) → IsPrefix p → p.len + more ≤ 32 → covered_below qs p more ≡ true → IsCovered qs (at_most p more)
sound qs p zero lawful within h r fine c =
    let parts = and_parts (is_inside p r) (nat_le r.len (p.len + zero)) c in
    let deep : p.len < depth_at qs p = ltb-true _ _ h in
    let le : r.len ≤ p.len + zero = leb-true _ _ parts.1 in
    let deep_r = deeper qs p r p.len (omega arith) parts.0 deep in
    in_some qs r (omega (arith, deep_r, le))
sound qs p (suc more) lawful within h r fine c =
    let parts = and_parts (is_inside p r) (nat_le r.len (p.len + suc more)) c in
    let both = and_parts (nat_lt p.len (depth_at qs p)) _ h in
    let deep : p.len < depth_at qs p = ltb-true _ _ both.0 in
    let le : r.len ≤ p.len + suc more = leb-true _ _ parts.1 in
    by_depth parts.0 deep le
    (λ halves inside. sound qs (low_half p) more (low_half-IsPrefix p lawful (omega arith)) (omega arith) halves r fine (and_from (is_inside (low_half p) r) _ inside (le-leb _ _ (omega (arith, le)))))
    (λ halves inside. sound qs (high_half p) more (high_half-IsPrefix p lawful (omega arith)) (omega arith) halves r fine
    (and_from (is_inside (high_half p) r) _ inside (le-leb _ _ (omega (arith, le)))))
    (or_cases (nat_lt (p.len + suc more) (depth_at qs p)) _ both.1)
  where
    by_depth : is_inside p r ≡ true → p.len < depth_at qs p → r.len ≤ p.len + suc more
        → (covered_below qs (low_half p) more ≡ true → is_inside (low_half p) r ≡ true → some_contains qs r ≡ true)
        → (covered_below qs (high_half p) more ≡ true → is_inside (high_half p) r ≡ true → some_contains qs r ≡ true)
        → (nat_lt (p.len + suc more) (depth_at qs p) ≡ true) ⊎ ((covered_below qs (low_half p) more && covered_below qs (high_half p) more) ≡ true)
        → some_contains qs r ≡ true
    by_depth inside deep le low high (inl whole) =
        let far : p.len + suc more < depth_at qs p = ltb-true _ _ whole in
        let far_r = deeper qs p r (p.len + suc more) lawful.within inside far in
        in_some qs r (omega (arith, far_r, le))
    by_depth inside deep le low high (inr halves) =
        let two = and_parts (covered_below qs (low_half p) more) _ halves in
        by_length two (cases_lt p.len r.len)
      where
        by_length : (covered_below qs (low_half p) more ≡ true) × (covered_below qs (high_half p) more ≡ true) → (p.len < r.len) ⊎ (r.len ≤ p.len) → some_contains qs r ≡ true
        by_length two (inr short) =
            let deep_r = deeper qs p r p.len lawful.within inside deep in
            in_some qs r (omega (arith, deep_r, short))
        by_length two (inl longer) =
            ⊎_elim (λ e. low two.0 (inside_whole (low_half p) r (record { least = omega (arith, longer); agree = e })))
            (λ e. high two.1 (inside_whole (high_half p) r (record { least = omega (arith, longer); agree = e })))
            (half_around p r lawful (omega (arith, longer)) (omega (arith, longer, fine.within)) (inside_parts p r inside).agree)

in_low : (p r : PlainPrefix) (more : ℕ) → p.len + suc more ≤ 32 → contains (at_most (low_half p) more) r ≡ true → contains (at_most p (suc more)) r ≡ true
in_low p r more within c =
    let parts = and_parts (is_inside (low_half p) r) (nat_le r.len (p.len + 1 + more)) c in
    let le : r.len ≤ p.len + 1 + more = leb-true _ _ parts.1 in
    and_from (is_inside p r) _ (inside_inside p (low_half p) r (omega arith) (inside_whole p (low_half p) (record { least = omega arith; agree = refl })) parts.0) (le-leb _ _ (omega (arith, le)))

in_high : (p r : PlainPrefix) (more : ℕ) → IsPrefix p → p.len + suc more ≤ 32 → contains (at_most (high_half p) more) r ≡ true → contains (at_most p (suc more)) r ≡ true
in_high p r more lawful within c =
    let parts = and_parts (is_inside (high_half p) r) (nat_le r.len (p.len + 1 + more)) c in
    let le : r.len ≤ p.len + 1 + more = leb-true _ _ parts.1 in
    and_from (is_inside p r) _ (inside_inside p (high_half p) r (omega arith)
    (inside_whole p (high_half p) (record { least = omega arith; agree = high_agree p lawful (omega arith) })) parts.0)
    (le-leb _ _ (omega (arith, le)))

-- where every prefix is in one of them
pub complete : (qs : List PlainPattern) (p : PlainPrefix) (more : ℕ) → IsPrefix p → p.len + more ≤ 32 → IsCovered qs (at_most p more) → covered_below qs p more ≡ true
complete qs p zero lawful within all = lt-ltb _ _ (some_in qs p (all p lawful (contains_self p zero)))
complete qs p (suc more) lawful within all =
    and_from (nat_lt p.len (depth_at qs p)) _ (lt-ltb _ _ (some_in qs p (all p lawful (contains_self p (suc more)))))
    (or_right (nat_lt (p.len + suc more) (depth_at qs p)) _
    (and_from (covered_below qs (low_half p) more) _
    (complete qs (low_half p) more (low_half-IsPrefix p lawful (omega arith)) (omega arith) (λ r fine c. all r fine (in_low p r more within c)))
    (complete qs (high_half p) more (high_half-IsPrefix p lawful (omega arith)) (omega arith) (λ r fine c. all r fine (in_high p r more lawful within c)))))

pub covered-IsCovered : (qs : List PlainPattern) (q : PlainPattern) → IsPattern q → IsTrue (covered qs q) ↔ IsCovered qs q
covered-IsCovered qs q lawful =
    let e : q.base.len + (q.upto - q.base.len) ≡ q.upto = omega (arith, lawful.least) in
    let same : at_most q.base (q.upto - q.base.len) ≡ q = ap (λ n. record { base = q.base; upto = n }) e in
    let short : q.base.len + (q.upto - q.base.len) ≤ 32 = omega (arith, e, lawful.most) in (
      λ h. subst (IsCovered qs) same (sound qs q.base (q.upto - q.base.len) lawful.prefix short h),
      λ all. complete qs q.base (q.upto - q.base.len) lawful.prefix short (subst (IsCovered qs) (sym same) all),
    )
