-- The `originate` lines of a router in the cells of a stage.
use Rattle.std.proofs.Common.{◌≡◌, ℕ, zero, suc, ◌+◌, ◌<◌, ◌≤◌, Bool, true, false, List, [], ◌∷◌, length, map, filter, Some, IsTrue, inl, inr, refl, sym, ap, ◌∙◌, arith}
use Rattle.std.specs.Prelude.{◌&&◌, ◌==◌, option_map, slice_get}
use Rattle.std.specs.List.{AllByRecursion, find}
use Rattle.std.specs.Option.{option_or}
use Rattle.std.proofs.lemmas.Bool.{and_parts, cases_Bool, eq-eqb, eqb-true}
use Rattle.std.proofs.lemmas.List.Folds.{find-append}
use Rattle.list_law.proofs.Each.{AllByRecursion-append, AllByRecursion-filter, AllByRecursion-weaker}
use Rattle.list_law.proofs.Tests.{find-same}
use Rattle.net_base.specs.Numbers.{is_tag}
use Rattle.net_base.specs.Prefixes.{PlainPrefix, same_prefix}
use Rattle.policy_base.specs.Governing.{some_contains}
use Rattle.config_base.specs.declared.config.Origination.{Origination}
use Rattle.config_base.specs.Configs.{Ascend, IsBelow, IsOrigination, origination_key}
use Rattle.stage_classes.specs.declared.cell.Cell.{Cell}
use Rattle.stage_blocks.proofs.Ordered.{Ascend-append, Ascend-cons, each_below}
use Rattle.stage_blocks.proofs.Spreading.{find-map, find-filter, none_passes, or_none, other_number}
use Rattle.stage_maker.specs.Joined.{belongs, is_of_class, own_from, put_own}

pub same_prefix-is : (p q : PlainPrefix) → same_prefix p q ≡ true → p ≡ q
same_prefix-is p q h =
    let parts = and_parts (p.bits == q.bits) (p.len == q.len) h in
    λ i. record { bits = eqb-true p.bits q.bits parts.0 i; len = eqb-true p.len q.len parts.1 i }

module _ (cells : List Cell) where
  put_each : (P : Origination → Type 0) → ((n : ℕ) (o : Origination) → P o → P (put_own n o)) → (k : ℕ) (os : List Origination) → AllByRecursion P os
      → AllByRecursion (λ o. P o × (o.class ≡ k)) (map (put_own k) os)
  put_each P moves k [] all = tt
  put_each P moves k (o ∷ os) all = ((moves k o all.0, refl), put_each P moves k os all.1)

  pub own_each : (P : Origination → Type 0) → ((n : ℕ) (o : Origination) → P o → P (put_own n o)) → (k : ℕ) (cs : List Cell) (os : List Origination) → AllByRecursion P os
      → AllByRecursion (λ o. P o × (k ≤ o.class) × (o.class < k + length cs)) (own_from cells k cs os)
  own_each P moves k [] os all = tt
  own_each P moves k (c ∷ cs) os all =
      AllByRecursion-append (λ o. P o × (k ≤ o.class) × (o.class < k + suc (length cs))) (map (put_own k) (filter (belongs cells k c) os)) (own_from cells (k + 1) cs os)
      (AllByRecursion-weaker (λ o. P o × (o.class ≡ k)) (λ o. P o × (k ≤ o.class) × (o.class < k + suc (length cs))) (map (put_own k) (filter (belongs cells k c) os))
      (λ o h. (h.0, omega (arith, h.1), omega (arith, h.1))) (put_each P moves k (filter (belongs cells k c) os) (AllByRecursion-filter P (belongs cells k c) os all)))
      (AllByRecursion-weaker (λ o. P o × (k + 1 ≤ o.class) × (o.class < k + 1 + length cs)) (λ o. P o × (k ≤ o.class) × (o.class < k + suc (length cs))) (own_from cells (k + 1) cs os)
      (λ o h. (h.0, omega (arith, h.1), omega (arith, h.2))) (own_each P moves (k + 1) cs os all))

  abbrev Any : Origination → Type 0
  Any o = Unit {0}

  any_each : (os : List Origination) → AllByRecursion Any os
  any_each [] = tt
  any_each (o ∷ os) = (tt, any_each os)

  classes_from : (k : ℕ) (cs : List Cell) (os : List Origination) → AllByRecursion (λ o. k ≤ o.class) (own_from cells k cs os)
  classes_from k cs os =
      AllByRecursion-weaker (λ o. Any o × (k ≤ o.class) × (o.class < k + length cs)) (λ o. k ≤ o.class) (own_from cells k cs os) (λ o h. h.1) (own_each Any (λ n o h. tt) k cs os (any_each os))

  classes_here : (k : ℕ) (os : List Origination) → AllByRecursion (λ o. o.class ≡ k) (map (put_own k) os)
  classes_here k os = AllByRecursion-weaker (λ o. Any o × (o.class ≡ k)) (λ o. o.class ≡ k) (map (put_own k) os) (λ o h. h.1) (put_each Any (λ n o h. tt) k os (any_each os))

  -- ---- what is found

  module _ (p : PlainPrefix) where
    abbrev names : ℕ → Origination → Bool
    names class o = o.class == class && same_prefix o.prefix p

    module _ (k n : ℕ) (c : Cell) (same : n ≡ k) (on : some_contains c.patterns p ≡ true) (of_class : is_of_class cells k p ≡ true) where
      belonging : (o : Origination) → (belongs cells k c o && names n (put_own k o)) ≡ names c.first o
      belonging o = by (same_prefix o.prefix p) (o.class == c.first) refl refl
        where
          by : (x y : Bool) → same_prefix o.prefix p ≡ x → (o.class == c.first) ≡ y → (belongs cells k c o && names n (put_own k o)) ≡ names c.first o
          by true true e f =
              let is = same_prefix-is o.prefix p e in
              rw (e, f, ap (some_contains c.patterns) is ∙ on, ap (is_of_class cells k) is ∙ of_class, eq-eqb k n (sym same)) refl
          by true false e f = rw (e, f) refl
          by false true e f = rw (e, f) (off (some_contains c.patterns o.prefix && is_of_class cells k o.prefix) (k == n))
            where
              off : (x y : Bool) → (x && (y && false)) ≡ false
              off true true = refl
              off true false = refl
              off false y = refl
          by false false e f = rw (e, f) refl

    -- the line of the prefix in the stage is that of the first class of its cell
    pub own_found : (cs : List Cell) (k i n : ℕ) (c : Cell) (os : List Origination) → slice_get cs i ≡ Some c → n ≡ k + i → some_contains c.patterns p ≡ true → is_of_class cells n p ≡ true
        → find (names n) (own_from cells k cs os) ≡ option_map (put_own n) (find (names c.first) os)
    own_found [] k i n c os at is_n on of_class = absurd cc
    own_found (d ∷ cs) k zero n c os at is_n on of_class =
        let same : d ≡ c = cc in
        let here : n ≡ k = omega (arith, is_n) in
        find-append (names n) (map (put_own k) (filter (belongs cells k d) os)) (own_from cells (k + 1) cs os)
        ∙ ap (option_or (find (names n) (map (put_own k) (filter (belongs cells k d) os))))
        (none_passes (λ o. k + 1 ≤ o.class) (names n) (λ o low. rw (other_number o.class n (omega (arith, low, is_n))) refl) (own_from cells (k + 1) cs os) (classes_from (k + 1) cs os))
        ∙ or_none (find (names n) (map (put_own k) (filter (belongs cells k d) os)))
        ∙ find-map (names n) (put_own k) (filter (belongs cells k d) os)
        ∙ ap (option_map (put_own k)) (find-filter (belongs cells k d) (λ o. names n (put_own k o)) os
        ∙ find-same (λ o. belongs cells k d o && names n (put_own k o)) (names d.first)
        (belonging k n d here (ap (λ x. some_contains x.patterns p) same ∙ on) (ap (λ m. is_of_class cells m p) (sym here) ∙ of_class)) os)
        ∙ ap (λ m. option_map (put_own m) (find (names d.first) os)) (sym here)
        ∙ ap (λ x. option_map (put_own n) (find (names x.first) os)) same
    own_found (d ∷ cs) k (suc i) n c os at is_n on of_class =
        find-append (names n) (map (put_own k) (filter (belongs cells k d) os)) (own_from cells (k + 1) cs os)
        ∙ ap (λ o. option_or o (find (names n) (own_from cells (k + 1) cs os)))
        (none_passes (λ o. o.class ≡ k) (names n) (λ o here. rw (before o.class here) refl) (map (put_own k) (filter (belongs cells k d) os)) (classes_here k (filter (belongs cells k d) os)))
        ∙ own_found cs (k + 1) i n c os at (omega (arith, is_n)) on of_class
      where
        before : (m : ℕ) → m ≡ k → (m == n) ≡ false
        before m here = elim (cases_Bool (m == n)) [
          | inl same ↦ absurd (let e = eqb-true m n same in omega (arith, here, is_n, e))
          | inr other ↦ other
        ]

  -- ---- order

  in_class : (k : ℕ) (o x : Origination) → o.class ≡ x.class → IsBelow (origination_key o) (origination_key x) → IsBelow (origination_key (put_own k o)) (origination_key (put_own k x))
  in_class k o x same h = (omega arith, λ _. h.1 same)

  below_filtered : (k : ℕ) (c : Cell) (o : Origination) (os : List Origination) → o.class ≡ c.first → AllByRecursion (λ x. IsBelow (origination_key o) (origination_key x)) os
      → AllByRecursion (λ x. IsBelow (origination_key (put_own k o)) (origination_key x)) (map (put_own k) (filter (belongs cells k c) os))
  below_filtered k c o [] here all = tt
  below_filtered k c o (x ∷ xs) here all = by (belongs cells k c x) refl (below_filtered k c o xs here all.1)
    where
      by : (b : Bool) → belongs cells k c x ≡ b → AllByRecursion (λ x. IsBelow (origination_key (put_own k o)) (origination_key x)) (map (put_own k) (filter (belongs cells k c) xs))
          → AllByRecursion (λ x. IsBelow (origination_key (put_own k o)) (origination_key x)) (map (put_own k) (filter (belongs cells k c) (x ∷ xs)))
      by true e later =
          let there = eqb-true x.class c.first (and_parts (x.class == c.first) (some_contains c.patterns x.prefix && is_of_class cells k x.prefix) e).0 in
          rw e (in_class k o x (here ∙ sym there) all.0, later)
      by false e later = rw e later

  cell_ascends : (k : ℕ) (c : Cell) (os : List Origination) → Ascend (map origination_key os) → Ascend (map origination_key (map (put_own k) (filter (belongs cells k c) os)))
  cell_ascends k c [] up = tt
  cell_ascends k c (o ∷ os) up = by (belongs cells k c o) refl (cell_ascends k c os up.1)
    where
      by : (b : Bool) → belongs cells k c o ≡ b → Ascend (map origination_key (map (put_own k) (filter (belongs cells k c) os))) → Ascend (map origination_key (map (put_own k) (filter (belongs cells k c) (o ∷ os))))
      by true e later =
          let here = eqb-true o.class c.first (and_parts (o.class == c.first) (some_contains c.patterns o.prefix && is_of_class cells k o.prefix) e).0 in
          rw e
          (Ascend-cons origination_key (put_own k o) (map (put_own k) (filter (belongs cells k c) os)) (below_filtered k c o os here (each_below origination_key o os up)) later)
      by false e later = rw e later

  pub own_ascends : (k : ℕ) (cs : List Cell) (os : List Origination) → Ascend (map origination_key os) → Ascend (map origination_key (own_from cells k cs os))
  own_ascends k [] os up = tt
  own_ascends k (c ∷ cs) os up =
      Ascend-append origination_key (map (put_own k) (filter (belongs cells k c) os)) (own_from cells (k + 1) cs os) (cell_ascends k c os up) (own_ascends (k + 1) cs os up)
      (AllByRecursion-weaker (λ o. o.class ≡ k) (λ o. AllByRecursion (λ x. IsBelow (origination_key o) (origination_key x)) (own_from cells (k + 1) cs os)) (map (put_own k) (filter (belongs cells k c) os))
      (λ o here. AllByRecursion-weaker (λ x. k + 1 ≤ x.class) (λ x. IsBelow (origination_key o) (origination_key x)) (own_from cells (k + 1) cs os)
      (λ x low. (omega (arith, here, low), λ e. absurd (omega (arith, here, low, e)))) (classes_from (k + 1) cs os))
      (classes_here k (filter (belongs cells k c) os)))

  pub own_keep : (cs : List Cell) (os : List Origination) (n : ℕ) → AllByRecursion (IsOrigination n) os → AllByRecursion (IsOrigination (length cs)) (own_from cells 1 cs os)
  own_keep cs os n all =
      let P : Origination → Type 0 = λ o. IsTrue (is_tag o.tag) in
      AllByRecursion-weaker (λ o. P o × (1 ≤ o.class) × (o.class < 1 + length cs)) (IsOrigination (length cs)) (own_from cells 1 cs os) (λ o h. ((h.1, omega (arith, h.2)), h.0))
      (own_each P (λ k o h. h) 1 cs os (AllByRecursion-weaker (IsOrigination n) P os (λ o h. h.1) all))
