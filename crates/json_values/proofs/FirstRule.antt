-- The fault that is told has the least number of a rule that is broken.
use Rattle.std.proofs.Common.{◌≡◌, ℕ, ◌+◌, ◌<◌, zero, suc, List, ◌∷◌, Result, Ok, Err, Bool, true, false, refl, arith, ltb-true, ltb-false}
use Rattle.std.specs.Prelude.{⊤, ◌==◌, nat_lt}
use lib.ListN.{length as count}
use Rattle.std.proofs.Math.ListN.{get_or-eq_default}
use Rattle.std.proofs.lemmas.Bool.{eqb-true, eqb-false}
use Rattle.json_values.specs.TextRules.{Keeps, KeepsBelow}

module _ (rules : List {1} (Type 0)) where
  -- the rules have the numbers from 3 up to this one
  abbrev pub past : ℕ
  past = count (⊤ ∷ ⊤ ∷ ⊤ ∷ rules)

  pub below_3 : KeepsBelow rules 3
  below_3 zero l = tt
  below_3 (suc zero) l = tt
  below_3 (suc (suc zero)) l = tt
  below_3 (suc (suc (suc k))) l = absurd (omega (arith, l))

  pub next : (n : ℕ) → KeepsBelow rules n → Keeps rules n → KeepsBelow rules (n + 1)
  next n below keeps k l = by (k == n) refl
    where
      by : (b : Bool) → (k == n) ≡ b → Keeps rules k
      by true e = rw (eqb-true k n e) keeps
      by false e = below k (omega (arith, l, eqb-false k n e))

  no_more : (k : ℕ) → (Keeps rules k → ⊥) → k < past
  no_more k breaks = by (nat_lt k past) refl
    where
      by : (b : Bool) → nat_lt k past ≡ b → k < past
      by true e = ltb-true k past e
      by false e = absurd (breaks (rw (get_or-eq_default (⊤ ∷ ⊤ ∷ ⊤ ∷ rules) ⊤ {n = k} (ltb-false k past e)) tt))

  lesser : (n k : ℕ) → KeepsBelow rules n → (Keeps rules n → ⊥) → KeepsBelow rules k → (Keeps rules k → ⊥) → (n ≡ k → ⊥) → ⊥
  lesser n k below_n breaks_n below_k breaks_k apart = by (nat_lt n k) refl
    where
      by : (b : Bool) → nat_lt n k ≡ b → ⊥
      by true e = breaks_n (below_k n (ltb-true n k e))
      by false e = breaks_k (below_n k (omega (arith, ltb-false n k e, apart)))

  module _ {A F : Type 0} (number_of : F → ℕ) where
    -- what an answer says of the rules
    abbrev pub Outcome : Result A F → Type 0
    Outcome (Ok x) = KeepsBelow rules past
    Outcome (Err e) = KeepsBelow rules (number_of e) × (Keeps rules (number_of e) → ⊥)

    pub broken : (k : ℕ) (y : Result A F) (e : F) → KeepsBelow rules k → (Keeps rules k → ⊥) × (number_of e ≡ k) → y ≡ Err e → Outcome y
    broken k y e below b same = rw same (rw b.1 (below, b.0))

    pub kept_ok : (r : Result A F) → Outcome r → KeepsBelow rules past → (x : A) × (r ≡ Ok x)
    kept_ok (Ok x) o keeps = (x, refl)
    kept_ok (Err e) o keeps = absurd (o.1 (keeps (number_of e) (no_more (number_of e) o.1)))

    pub broken_err : (r : Result A F) → Outcome r → (k : ℕ) → KeepsBelow rules k → (Keeps rules k → ⊥) → (e : F) × (r ≡ Err e) × (number_of e ≡ k)
    broken_err (Ok x) o k keeps breaks = absurd (breaks (o k (no_more k breaks)))
    broken_err (Err e) o k keeps breaks = (e, refl, by (number_of e == k) refl)
      where
        by : (b : Bool) → (number_of e == k) ≡ b → number_of e ≡ k
        by true h = eqb-true (number_of e) k h
        by false h = absurd (lesser (number_of e) k o.0 o.1 keeps breaks (eqb-false (number_of e) k h))
