-- Which locations a set holds that is made of others.
use Rattle.std.proofs.Common.{◌≡◌, ℕ, ◌/◌, ◌<◌, List, Bool, true, false, refl, sym, ap, ◌∙◌, arith, inl, inr}
use Rattle.std.specs.Prelude.{◌⊎◌, ◌==◌, ◌||◌, replicate}
use Rattle.std.proofs.lemmas.Bool.{eqb-true, cases_lt, or_cases, true≢false}
use Rattle.std.proofs.lemmas.List.{set_past}
use Rattle.net_base.specs.declared.loc.LocSet.{LocSet}
use Rattle.net_base.specs.Sets.{holds}
use Rattle.net_base.specs.SetOperations.{no_location, with_location, union_of}
use Rattle.net_base.proofs.SetLaws.{holds-none, holds-one_more, holds-union, holds_past}

-- each location of the set is below a number
abbrev pub AreBelow : ℕ → LocSet → Type 0
AreBelow n s = (l : ℕ) → holds s l ≡ true → l < n

holds-nothing : (l : ℕ) → holds no_location l ≡ false
holds-nothing l = elim (cases_lt l 768) [
  | inl low ↦ holds-none l low
  | inr high ↦ holds_past no_location l (omega (arith, high))
]

pub none_held : (l : ℕ) → holds no_location l ≡ true → ⊥
none_held l h = true≢false (sym h ∙ holds-nothing l)

-- one location alone
pub one_held : (l m : ℕ) → holds (with_location no_location l) m ≡ true → m ≡ l
one_held l m h = elim (cases_lt l 768) [
  | inl low ↦ eqb-true m l (sym (holds-one_more no_location l m low refl ∙ ap (λ (b : Bool). b || m == l) (holds-nothing m)) ∙ h)
  | inr high ↦ absurd (none_held m (sym (ap (λ (ws : List ℕ). let s : LocSet = record { words = ws } in holds s m) (set_past (replicate 12 0) (l / 64) _ (omega (arith, high)))) ∙ h))
]

-- a location of a union is one of either set
pub union_held : (s t : LocSet) (l : ℕ) → holds (union_of s t) l ≡ true → (holds s l ≡ true) ⊎ (holds t l ≡ true)
union_held s t l h = elim (cases_lt l 768) [
  | inl low ↦ or_cases (holds s l) (holds t l) (sym (holds-union s t l low) ∙ h)
  | inr high ↦ absurd (true≢false (sym h ∙ holds_past (union_of s t) l (omega (arith, high))))
]

pub union_below : (n : ℕ) (s t : LocSet) → AreBelow n s → AreBelow n t → AreBelow n (union_of s t)
union_below n s t a b l h = elim (union_held s t l h) [ inl here ↦ a l here | inr here ↦ b l here ]
