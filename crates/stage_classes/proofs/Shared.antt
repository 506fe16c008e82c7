-- The patterns that two classes share have the prefixes that are in both.
use Rattle.std.proofs.Common.{◌≡◌, ◌/◌, ◌^◌, ◌<◌, ◌≤◌, Bool, true, false, List, [], ◌∷◌, Option, Some, None, min, inl, inr, refl, sym, ◌∙◌, arith}
use Rattle.std.specs.Prelude.{IsTrue, ◌||◌, nat_le}
use Rattle.std.specs.List.{list_any, flat_map}
use Rattle.std.proofs.Math.Nat.{div-eq_of_lt}
use Rattle.std.proofs.lemmas.Bool.{and_parts, false≢true, leb-true, or_cases, or_left, or_right}
use Rattle.std.proofs.lemmas.List.Folds.{list_any-append}
use Rattle.net_base.specs.Prefixes.{PlainPattern, PlainPrefix, IsPrefix, contains}
use Rattle.policy_base.specs.Governing.{some_contains}
use Rattle.route_maps.proofs.Bits.{fewer_agree}
use Rattle.route_maps.proofs.OverlapLaws.{Contains, contains_parts, contains_whole, overlap-from_both}
use Rattle.stage_classes.specs.Cells.{common, covers, everything, is_covered, narrowed, shared, uncovered}

-- a base inside a pattern is no longer than what is left of its own
pub base_fits : (q other : PlainPattern) → IsTrue (contains other q.base) → q.base.len ≤ q.upto → q.base.len ≤ min q.upto other.upto
base_fits q other h least = let c = contains_parts other q.base h in omega (arith, c.most, least)

-- the patterns of an option
abbrev pub listed : Option PlainPattern → List PlainPattern
listed None = []
listed (Some q) = q ∷ []

-- no pattern of the classes contains the prefix
abbrev pub IsNowhere : PlainPrefix → List (List PlainPattern) → Type 0
IsNowhere p classes = list_any (λ patterns. some_contains patterns p) classes ≡ false

module _ (p : PlainPrefix) (lawful : IsPrefix p) where
  in_everything : contains everything p ≡ true
  in_everything = contains_whole everything p (record { least = omega arith; agree = nothing_above; most = lawful.within })
    where
      nothing_above : p.bits / 2 ^ 32 ≡ 0 / 2 ^ 32
      nothing_above =
          let none : 0 < 2 ^ 32 = omega arith in
          div-eq_of_lt {n = p.bits} {m = 2 ^ 32} lawful.wide ∙ sym (div-eq_of_lt {n = 0} {m = 2 ^ 32} none)

  pub some_everything : some_contains (everything ∷ []) p ≡ true
  some_everything = or_left (contains everything p) false in_everything

  -- ---- two patterns

  in_narrowed : (q other : PlainPattern) → Contains q p → p.len ≤ other.upto → contains (narrowed q other) p ≡ true
  in_narrowed q other c short = contains_whole (narrowed q other) p (record { least = c.least; agree = c.agree; most = omega (arith, c.most, short) })

  of_narrowed : (q other : PlainPattern) → contains other q.base ≡ true → contains (narrowed q other) p ≡ true → (contains q p ≡ true) × (contains other p ≡ true)
  of_narrowed q other inside h =
      let c = contains_parts (narrowed q other) p h in
      let i = contains_parts other q.base inside in (
        contains_whole q p (record { least = c.least; agree = c.agree; most = omega (arith, c.most) }),
        contains_whole other p (record {
          least = omega (arith, i.least, c.least);
          agree = fewer_agree p.bits q.base.bits other.base.len q.base.len i.least (omega (arith, c.least, lawful.within)) c.agree ∙ i.agree;
          most = omega (arith, c.most);
        }),
      )

  shared_in : (a b : PlainPattern) → contains a p ≡ true → contains b p ≡ true → some_contains (listed (shared a b)) p ≡ true
  shared_in a b ha hb = by (contains a b.base) (contains b a.base) refl refl
    where
      ca : Contains a p
      ca = contains_parts a p ha

      cb : Contains b p
      cb = contains_parts b p hb

      by : (x y : Bool) → contains a b.base ≡ x → contains b a.base ≡ y → some_contains (listed (shared a b)) p ≡ true
      by true y hx hy = rw hx (or_left (contains (narrowed b a) p) false (in_narrowed b a cb ca.most))
      by false true hx hy = rw (hx, hy) (or_left (contains (narrowed a b) p) false (in_narrowed a b ca cb.most))
      by false false hx hy =
          let over = overlap-from_both a b p lawful.within ha hb in
          absurd (false≢true (sym (rw (hx, hy) refl) ∙ over))

  in_shared : (a b : PlainPattern) → some_contains (listed (shared a b)) p ≡ true → (contains a p ≡ true) × (contains b p ≡ true)
  in_shared a b h = by (contains a b.base) (contains b a.base) refl refl h
    where
      alone : (q : PlainPattern) → (contains q p || false) ≡ true → contains q p ≡ true
      alone q e = elim (or_cases (contains q p) false e) [ inl t ↦ t | inr f ↦ absurd (false≢true f) ]

      by : (x y : Bool) → contains a b.base ≡ x → contains b a.base ≡ y → some_contains (listed (shared a b)) p ≡ true → (contains a p ≡ true) × (contains b p ≡ true)
      by true y hx hy e = let n = of_narrowed b a hx (alone (narrowed b a) (rw hx at e)) in (n.1, n.0)
      by false true hx hy e = of_narrowed a b hy (alone (narrowed a b) (rw (hx, hy) at e))
      by false false hx hy e = absurd (false≢true (rw (hx, hy) at e))

  -- ---- what covers

  covered_in : (a q : PlainPattern) → covers a q ≡ true → contains q p ≡ true → contains a p ≡ true
  covered_in a q h hq =
      let both = and_parts (contains a q.base) (nat_le q.upto a.upto) h in
      let i = contains_parts a q.base both.0 in
      let c = contains_parts q p hq in
      contains_whole a p (record {
        least = omega (arith, i.least, c.least);
        agree = fewer_agree p.bits q.base.bits a.base.len q.base.len i.least (omega (arith, c.least, lawful.within)) c.agree ∙ i.agree;
        most = omega (arith, c.most, leb-true _ _ both.1);
      })

  class_covers : (patterns : List PlainPattern) (q : PlainPattern) → list_any (λ a. covers a q) patterns ≡ true → contains q p ≡ true → some_contains patterns p ≡ true
  class_covers [] q h hq = absurd (false≢true h)
  class_covers (a ∷ xs) q h hq = elim (or_cases (covers a q) (list_any (λ a. covers a q) xs) h) [
    | inl here ↦ or_left (contains a p) (some_contains xs p) (covered_in a q here hq)
    | inr later ↦ or_right (contains a p) (some_contains xs p) (class_covers xs q later hq)
  ]

  uncovered_of : (classes : List (List PlainPattern)) (q : PlainPattern) → IsNowhere p classes → contains q p ≡ true → is_covered classes q ≡ false
  uncovered_of [] q nowhere hq = refl
  uncovered_of (c ∷ cs) q nowhere hq = by (list_any (λ a. covers a q) c) refl (λ off. uncovered_of cs q off hq)
    where
      parts : (x y : Bool) → (x || y) ≡ false → (x ≡ false) × (y ≡ false)
      parts true y h = absurd (false≢true (sym h))
      parts false y h = (refl, h)

      off : (some_contains c p ≡ false) × (list_any (λ patterns. some_contains patterns p) cs ≡ false)
      off = parts (some_contains c p) (list_any (λ patterns. some_contains patterns p) cs) nowhere

      by : (b : Bool) → list_any (λ a. covers a q) c ≡ b → (IsNowhere p cs → is_covered cs q ≡ false) → is_covered (c ∷ cs) q ≡ false
      by true h later = absurd (false≢true (sym off.0 ∙ class_covers c q h hq))
      by false h later = rw h (later off.1)

  module _ (before seen : List (List PlainPattern)) where
    -- what is left shares what was there
    uncovered_in : (o : Option PlainPattern) → some_contains (uncovered before seen o) p ≡ true → some_contains (listed o) p ≡ true
    uncovered_in None h = h
    uncovered_in (Some q) h = by (is_covered before q || is_covered seen q) refl
      where
        by : (b : Bool) → (is_covered before q || is_covered seen q) ≡ b → some_contains (q ∷ []) p ≡ true
        by true e = absurd (false≢true (rw e at h))
        by false e = rw e at h

    -- ---- two classes

    of_class : (a : PlainPattern) (bs : List PlainPattern) → some_contains (flat_map (λ b. uncovered before seen (shared a b)) bs) p ≡ true
        → (contains a p ≡ true) × (some_contains bs p ≡ true)
    of_class a [] h = absurd (false≢true h)
    of_class a (b ∷ bs) h =
        let split = sym (list_any-append (λ q. contains q p) (uncovered before seen (shared a b)) (flat_map (λ b. uncovered before seen (shared a b)) bs)) ∙ h in
        elim (or_cases (some_contains (uncovered before seen (shared a b)) p) _ split) [
          | inl here ↦ (let both = in_shared a b (uncovered_in (shared a b) here) in (both.0, or_left (contains b p) (some_contains bs p) both.1))
          | inr later ↦ (let both = of_class a bs later in (both.0, or_right (contains b p) (some_contains bs p) both.1))
        ]

    pub of_common : (xs bs : List PlainPattern) → some_contains (common before seen xs bs) p ≡ true → (some_contains xs p ≡ true) × (some_contains bs p ≡ true)
    of_common [] bs h = absurd (false≢true h)
    of_common (a ∷ xs) bs h =
        let split = sym (list_any-append (λ q. contains q p) (flat_map (λ b. uncovered before seen (shared a b)) bs) (common before seen xs bs)) ∙ h in
        elim (or_cases (some_contains (flat_map (λ b. uncovered before seen (shared a b)) bs) p) _ split) [
          | inl here ↦ (let both = of_class a bs here in (or_left (contains a p) (some_contains xs p) both.0, both.1))
          | inr later ↦ (let both = of_common xs bs later in (or_right (contains a p) (some_contains xs p) both.0, both.1))
        ]

    -- and where no class before has the prefix, nothing of it is lost
    module _ (none_before : IsNowhere p before) (none_seen : IsNowhere p seen) where
      kept : (a b : PlainPattern) → contains a p ≡ true → contains b p ≡ true → some_contains (uncovered before seen (shared a b)) p ≡ true
      kept a b ha hb = by (shared a b) (shared_in a b ha hb)
        where
          alone : (q : PlainPattern) → (contains q p || false) ≡ true → contains q p ≡ true
          alone q e = elim (or_cases (contains q p) false e) [ inl t ↦ t | inr f ↦ absurd (false≢true f) ]

          by : (o : Option PlainPattern) → some_contains (listed o) p ≡ true → some_contains (uncovered before seen o) p ≡ true
          by None h = h
          by (Some q) h = rw (uncovered_of before q none_before (alone q h), uncovered_of seen q none_seen (alone q h)) h

      kept_class : (a : PlainPattern) (bs : List PlainPattern) → contains a p ≡ true → some_contains bs p ≡ true → some_contains (flat_map (λ b. uncovered before seen (shared a b)) bs) p ≡ true
      kept_class a [] ha h = absurd (false≢true h)
      kept_class a (b ∷ bs) ha h =
          list_any-append (λ q. contains q p) (uncovered before seen (shared a b)) (flat_map (λ b. uncovered before seen (shared a b)) bs)
          ∙ elim (or_cases (contains b p) (some_contains bs p) h) [
            | inl here ↦ or_left (some_contains (uncovered before seen (shared a b)) p) (some_contains (flat_map (λ b. uncovered before seen (shared a b)) bs) p) (kept a b ha here)
            | inr later ↦ or_right (some_contains (uncovered before seen (shared a b)) p) (some_contains (flat_map (λ b. uncovered before seen (shared a b)) bs) p) (kept_class a bs ha later)
          ]

      pub all_common : (xs bs : List PlainPattern) → some_contains xs p ≡ true → some_contains bs p ≡ true → some_contains (common before seen xs bs) p ≡ true
      all_common [] bs ha hb = absurd (false≢true ha)
      all_common (a ∷ xs) bs ha hb =
          list_any-append (λ q. contains q p) (flat_map (λ b. uncovered before seen (shared a b)) bs) (common before seen xs bs)
          ∙ elim (or_cases (contains a p) (some_contains xs p) ha) [
            | inl here ↦ or_left (some_contains (flat_map (λ b. uncovered before seen (shared a b)) bs) p) (some_contains (common before seen xs bs) p) (kept_class a bs here hb)
            | inr later ↦ or_right (some_contains (flat_map (λ b. uncovered before seen (shared a b)) bs) p) (some_contains (common before seen xs bs) p) (all_common xs bs later hb)
          ]
