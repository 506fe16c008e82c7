-- What is kept while prefixes join, in order.
use Rattle.std.proofs.Common.{◌≡◌, ◌≢◌, ◌⊎◌, ℕ, zero, suc, ◌-◌, ◌%◌, ◌^◌, ◌<◌, ◌≤◌, Bool, true, false, List, [], ◌∷◌, ◌++◌, Option, Some, None, refl, sym, ap, ◌∙◌, subst, arith, inl, inr}
use Rattle.std.specs.Prelude.{◌==◌, nat_eq, nat_lt, slice_get, if◌then◌else◌}
use Rattle.std.specs.List.{list_any}
use Rattle.std.specs.List.Sorted.{IsStrictlySortedBy}
use Rattle.std.specs.Option.{option_eq}
use Rattle.std.specs.Ordering.{nat_cmp}
use Rattle.std.specs.declared.cmp.Ordering.TheVariants.{Less}
use Rattle.std.proofs.lemmas.Bool.{and_from, and_parts, cases_lt, eq-eqb, eqb-true, lt-ltb, ltb-true, or_cases, true≢false}
use Rattle.list_law.specs.Members.{IsIn}
use Rattle.list_law.proofs.Members.{AllByRecursion-IsIn, IsIn-append_left, IsIn-later, IsIn-nil, IsIn-push, IsIn-push_cases, list_any-from_IsIn, list_any_member}
use Rattle.list_law.proofs.Options.{is-option_eq, none_or_some, option_eq-is}
use Rattle.list_law.proofs.Orders.{nat_cmp-Less}
use Rattle.net_base.specs.Prefixes.{PlainPrefix, IsPrefix}
use Rattle.policy_base.specs.Policies.{PlainPolicy}
use Rattle.least_prefixes.specs.declared.asked.Class.{Class}
use Rattle.least_prefixes.specs.Bounds.{has}
use Rattle.least_prefixes.specs.Classes.{class_for, IsNoLater}
use Rattle.least_prefixes.specs.Least.{is_clean, is_of, joined, joined_at, joined_bound, joined_by, joined_if, joined_over, same_class}

-- ---- pairs of items

abbrev pub Pairs : {A : Type 0} → (A → A → Type 0) → List A → Type 0
Pairs {A} R xs = (i j : ℕ) (a b : A) → i < j → slice_get xs i ≡ Some a → slice_get xs j ≡ Some b → R a b

same_item : {A : Type 0} (x y : A) → Some x ≡ Some y → x ≡ y
same_item x y h = cc

pairs_push : {A : Type 0} (R : A → A → Type 0) (xs : List A) (p : A) → Pairs R xs → ((x : A) → IsIn xs x → R x p) → Pairs R (xs ++ p ∷ [])
pairs_push R [] p pairs last i zero a b less at_i at_j = absurd (omega (arith, less))
pairs_push R [] p pairs last i (suc j) a b less at_i at_j = absurd (cc)
pairs_push R (x ∷ xs) p pairs last i zero a b less at_i at_j = absurd (omega (arith, less))
pairs_push R (x ∷ xs) p pairs last zero (suc j) a b less at_i at_j = subst (λ y. R y b) (same_item x a at_i) (elim (IsIn-push_cases xs p b (j, at_j)) [
  | inl old ↦ pairs 0 (suc old.0) x b (omega arith) refl old.1
  | inr new ↦ subst (R x) new (last x (0, refl))
])
pairs_push R (x ∷ xs) p pairs last (suc i) (suc j) a b less at_i at_j =
    pairs_push R xs p (λ k l c d below at_k at_l. pairs (suc k) (suc l) c d (omega (arith, below)) at_k at_l) (λ y at. last y (IsIn-later x y xs at)) i j a b (omega (arith, less)) at_i at_j

-- ---- classes

class_is : (a b : Class) → same_class a b ≡ true → a ≡ b
class_is a b h =
    let parts = and_parts (option_eq nat_eq a.old b.old) (option_eq nat_eq a.new b.new) h in
    let old = option_eq-is a.old b.old parts.0 in
    let new = option_eq-is a.new b.new parts.1 in
    λ i. record { old = old i; new = new i }

is_class : (c : Class) → same_class c c ≡ true
is_class c = and_from (option_eq nat_eq c.old c.old) (option_eq nat_eq c.new c.new) (is-option_eq c.old c.old refl) (is-option_eq c.new c.new refl)

of_class : (c : Class) (o : Option Class) → is_of c o ≡ true → o ≡ Some c
of_class c None h = absurd (true≢false (sym h))
of_class c (Some d) h = ap Some (sym (class_is c d h))

module _ (old new : PlainPolicy) where
  abbrev pub Covered : List PlainPrefix → Class → PlainPrefix → Type 0
  Covered ps c q = (p : PlainPrefix) × IsIn ps p × (class_for old new p ≡ Some c) × IsNoLater p q

  abbrev Apart : PlainPrefix → PlainPrefix → Type 0
  Apart p q = class_for old new p ≢ class_for old new q

  -- prefixes of classes that differ, in order
  pub record AreSound (ps : List PlainPrefix) : Type 0 where
    pub each : (p : PlainPrefix) → IsIn ps p → IsPrefix p
    pub classed : (p : PlainPrefix) → IsIn ps p → (c : Class) × (class_for old new p ≡ Some c)
    pub apart : Pairs Apart ps
    pub order : Pairs IsNoLater ps

  -- before the prefix of this address and this length
  abbrev pub IsBefore : PlainPrefix → ℕ → ℕ → Type 0
  IsBefore p x n = (p.bits ≤ x) × (p.bits ≡ x → p.len < n)

  -- one more prefix joins
  pub record IsStep (ps rs : List PlainPrefix) (p : PlainPrefix) : Type 0 where
    pub sound : AreSound rs
    pub kept : (q : PlainPrefix) → IsIn ps q → IsIn rs q
    pub cases : (q : PlainPrefix) → IsIn rs q → IsIn ps q ⊎ (p ≡ q)
    pub covered : (c : Class) → class_for old new p ≡ Some c → Covered rs c p

  module _ (ps : List PlainPrefix) (p : PlainPrefix) (sound : AreSound ps) (before : (q : PlainPrefix) → IsIn ps q → IsBefore q p.bits p.len) (rules : IsPrefix p) where
    no_later : (q : PlainPrefix) → IsIn ps q → IsNoLater q p
    no_later q at = (let b = before q at in (b.0, λ same. (let less = b.1 same in omega (arith, less))))

    step_if : (c : Class) → class_for old new p ≡ Some c → (b : Bool) → list_any (λ q. is_of c (class_for old new q)) ps ≡ b → IsStep ps (if b then ps else ps ++ p ∷ []) p
    step_if c is true some = record {
      sound = sound;
      kept = λ q at. at;
      cases = λ q at. inl at;
      covered = λ d of_d. (
          let m = list_any_member (λ q. is_of c (class_for old new q)) ps some in
          (m.0, m.1, of_class c (class_for old new m.0) m.2 ∙ sym is ∙ of_d, no_later m.0 m.1));
    }
    step_if c is false none = record {
      sound = record {
        each = λ q at. elim (IsIn-push_cases ps p q at) [ inl there ↦ sound.each q there | inr here ↦ subst IsPrefix here rules ];
        classed = λ q at. elim (IsIn-push_cases ps p q at) [ inl there ↦ sound.classed q there | inr here ↦ (c, ap (class_for old new) (sym here) ∙ is) ];
        apart = pairs_push Apart ps p sound.apart (λ q at same. true≢false (
            sym (list_any-from_IsIn (λ x. is_of c (class_for old new x)) ps q at (ap (is_of c) (same ∙ is) ∙ is_class c)) ∙ none));
        order = pairs_push IsNoLater ps p sound.order no_later;
      };
      kept = λ q at. IsIn-append_left ps (p ∷ []) q at;
      cases = λ q at. IsIn-push_cases ps p q at;
      covered = λ d of_d. (p, IsIn-push ps p, of_d, (omega arith, λ same. omega arith));
    }

    step_by : (o : Option Class) → class_for old new p ≡ o → IsStep ps (joined_by old new ps p o) p
    step_by None is = record {
      sound = sound;
      kept = λ q at. at;
      cases = λ q at. inl at;
      covered = λ c of_c. absurd (none_or_some (class_for old new p) c is of_c);
    }
    step_by (Some c) is = step_if c is (list_any (λ q. is_of c (class_for old new q)) ps) refl

    pub step : IsStep ps (joined old new ps p) p
    step = step_by (class_for old new p) refl

  -- ---- the prefixes at one address

  pub record IsRun (ps rs : List PlainPrefix) (x n : ℕ) : Type 0 where
    pub sound : AreSound rs
    pub before : (p : PlainPrefix) → IsIn rs p → IsBefore p x n
    pub kept : (q : PlainPrefix) → IsIn ps q → IsIn rs q
    pub covered : (q : PlainPrefix) (c : Class) → q.bits ≡ x → q.len < n → IsPrefix q → class_for old new q ≡ Some c → Covered rs c q

  same_prefix_as : (q : PlainPrefix) (x n : ℕ) → q.bits ≡ x → q.len ≡ n → q ≡ record { bits = x; len = n }
  same_prefix_as q x n bits len = λ i. record { bits = bits i; len = len i }

  -- at an address with no such prefix
  skipped : (ps rs : List PlainPrefix) (x n : ℕ) → IsRun ps rs x n → is_clean x n ≡ false → IsRun ps rs x (suc n)
  skipped ps rs x n run off = record {
    sound = run.sound;
    before = λ p at. (let b = run.before p at in (b.0, λ same. (let less = b.1 same in omega (arith, less))));
    kept = run.kept;
    covered = λ q c bits len rules is. elim (cases_lt q.len n) [
      | inl shorter ↦ run.covered q c bits shorter rules is
      | inr other ↦
          let same : q.len ≡ n = omega (arith, other, len) in
          let clean : x % 2 ^ (32 - n) ≡ 0 = subst (λ b. b % 2 ^ (32 - n) ≡ 0) bits (subst (λ l. q.bits % 2 ^ (32 - l) ≡ 0) same rules.clean) in
          absurd (true≢false (sym (eq-eqb (x % 2 ^ (32 - n)) 0 clean) ∙ off))
    ];
  }

  taken : (ps rs : List PlainPrefix) (x n : ℕ) → IsRun ps rs x n → is_clean x n ≡ true → x < 2 ^ 32 → n ≤ 32 → IsRun ps (joined old new rs (record { bits = x; len = n })) x (suc n)
  taken ps rs x n run on wide within = record {
    sound = next.sound;
    before = λ q at. elim (next.cases q at) [
      | inl there ↦ (let b = run.before q there in (b.0, λ same. (let less = b.1 same in omega (arith, less))))
      | inr here ↦ subst (λ y. IsBefore y x (suc n)) here (omega arith, λ same. omega arith)
    ];
    kept = λ q at. next.kept q (run.kept q at);
    covered = λ q c bits len rules is. elim (cases_lt q.len n) [
      | inl shorter ↦ (let cover = run.covered q c bits shorter rules is in (cover.0, next.kept cover.0 cover.1, cover.2, cover.3))
      | inr other ↦
          let same : q ≡ record { bits = x; len = n } = same_prefix_as q x n bits (omega (arith, other, len)) in
          subst (Covered (joined old new rs (record { bits = x; len = n })) c) (sym same) (next.covered c (ap (class_for old new) (sym same) ∙ is))
    ];
  }
    where
      next : IsStep rs (joined old new rs (record { bits = x; len = n })) (record { bits = x; len = n })
      next =
          step rs (record { bits = x; len = n }) run.sound run.before
          (record { wide = wide; within = within; clean = eqb-true (x % 2 ^ (32 - n)) 0 on })

  next_run : (ps rs : List PlainPrefix) (x n : ℕ) → IsRun ps rs x n → x < 2 ^ 32 → n ≤ 32 → (b : Bool) → is_clean x n ≡ b
      → IsRun ps (joined_if old new b rs (record { bits = x; len = n })) x (suc n)
  next_run ps rs x n run wide within true on = taken ps rs x n run on wide within
  next_run ps rs x n run wide within false off = skipped ps rs x n run off

  pub run_at : (ps : List PlainPrefix) (x : ℕ) → AreSound ps → ((p : PlainPrefix) → IsIn ps p → p.bits < x) → x < 2 ^ 32 → (n : ℕ) → n ≤ 33 → IsRun ps (joined_at old new ps x n) x n
  run_at ps x sound under wide zero few = record {
    sound = sound;
    before = λ p at. (let less = under p at in (omega (arith, less), λ same. absurd (omega (arith, less, same))));
    kept = λ q at. at;
    covered = λ q c bits len rules is. absurd (omega (arith, len));
  }
  run_at ps x sound under wide (suc n) few = next_run ps (joined_at old new ps x n) x n (run_at ps x sound under wide n (omega (arith, few))) wide (omega (arith, few)) (is_clean x n) refl

  -- ---- the prefixes at all addresses

  pub record AreFound (ps rs : List PlainPrefix) (xs : List ℕ) : Type 0 where
    pub sound : AreSound rs
    pub kept : (q : PlainPrefix) → IsIn ps q → IsIn rs q
    pub covered : (q : PlainPrefix) (c : Class) → has xs q.bits ≡ true → IsPrefix q → class_for old new q ≡ Some c → Covered rs c q

  module _ (x : ℕ) (xs : List ℕ) (ps : List PlainPrefix) (later : (y : ℕ) → IsIn xs y → x < y)
      (more : (rs : List PlainPrefix) → AreSound rs → ((p : PlainPrefix) (y : ℕ) → IsIn rs p → IsIn xs y → p.bits < y) → AreFound rs (joined_over old new rs xs) xs) where
    found_rest : (rs : List PlainPrefix) → AreSound rs → ((p : PlainPrefix) → IsIn rs p → p.bits ≤ x) → ((q : PlainPrefix) → IsIn ps q → IsIn rs q)
        → ((q : PlainPrefix) (c : Class) → q.bits ≡ x → IsPrefix q → class_for old new q ≡ Some c → Covered rs c q) → AreFound ps (joined_over old new rs xs) (x ∷ xs)
    found_rest rs right within kept covers =
        let rest = more rs right (λ p y at in_rest. (let low = within p at in let high = later y in_rest in omega (arith, low, high))) in
        record {
          sound = rest.sound;
          kept = λ q at. rest.kept q (kept q at);
          covered = λ q c at rules is. elim (or_cases (x == q.bits) (has xs q.bits) at) [
            | inl here ↦ (let cover = covers q c (sym (eqb-true x q.bits here)) rules is in (cover.0, rest.kept cover.0 cover.1, cover.2, cover.3))
            | inr there ↦ rest.covered q c there rules is
          ];
        }

    found_first : AreSound ps → ((p : PlainPrefix) → IsIn ps p → p.bits < x) → (b : Bool) → nat_lt x 4294967296 ≡ b
        → AreFound ps (joined_over old new (joined_bound old new b ps x) xs) (x ∷ xs)
    found_first sound under true wide =
        let run = run_at ps x sound under (ltb-true x 4294967296 wide) 33 (omega arith) in
        found_rest (joined_at old new ps x 33) run.sound (λ p at. (run.before p at).0) run.kept
        (λ q c bits rules is. (let short = rules.within in run.covered q c bits (omega (arith, short)) rules is))
    found_first sound under false past =
        found_rest ps sound (λ p at. (let less = under p at in omega (arith, less))) (λ q at. at)
        (λ q c bits rules is. absurd (true≢false (sym (lt-ltb x 4294967296 (subst (λ b. b < 4294967296) bits rules.wide)) ∙ past)))

  found_over : (xs : List ℕ) (ps : List PlainPrefix) → IsStrictlySortedBy nat_cmp xs → AreSound ps → ((p : PlainPrefix) (x : ℕ) → IsIn ps p → IsIn xs x → p.bits < x)
      → AreFound ps (joined_over old new ps xs) xs
  unfolding IsStrictlySortedBy
  found_over [] ps order sound under = record { sound = sound; kept = λ q at. at; covered = λ q c at rules is. absurd (true≢false (sym at)) }
  found_over (x ∷ xs) ps order sound under =
      found_first x xs ps (λ y at. nat_cmp-Less x y (AllByRecursion-IsIn (λ z. nat_cmp x z ≡ Less) xs y order.0 at)) (λ rs right below. found_over xs rs order.1 right below)
      sound (λ p at. under p x at (0, refl)) (nat_lt x 4294967296) refl

  pub found : (xs : List ℕ) → IsStrictlySortedBy nat_cmp xs → AreFound [] (joined_over old new [] xs) xs
  found xs order = found_over xs [] order nothing (λ p x at in_xs. absurd (IsIn-nil p at))
    where
      nothing : AreSound []
      nothing = record {
        each = λ p at. absurd (IsIn-nil p at);
        classed = λ p at. absurd (IsIn-nil p at);
        apart = λ i j a b less at_i at_j. absurd (cc);
        order = λ i j a b less at_i at_j. absurd (cc);
      }
