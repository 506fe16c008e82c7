-- A location is dead where the set of dead locations holds it.
use Rattle.std.proofs.Common.{◌≡◌, ℕ, zero, suc, ◌+◌, ◌*◌, ◌<◌, ◌≤◌, true, length, sym, ap, ◌∙◌, arith, inl, inr}
use Rattle.std.specs.Prelude.{◌&&◌, ◌||◌, ◌==◌}
use Rattle.std.specs.List.{list_any, range_with_len}
use Rattle.std.proofs.Math.Bool.{and-true}
use Rattle.std.proofs.lemmas.Bool.{eqb-true, cases_lt}
use Rattle.std.proofs.lemmas.Bool.Decides.{eqb_tells}
use Rattle.std.proofs.lemmas.Map.Views.{any-filter_same}
use Rattle.net_base.specs.declared.loc.LocSet.{LocSet}
use Rattle.net_base.specs.Sets.{holds}
use Rattle.net_base.proofs.SetLaws.{holds_past}
use Rattle.scenarios.specs.Scenarios.{members}

in_range : (a n l : ℕ) → a ≤ l → l < a + n → list_any (λ d. d == l) (range_with_len a n) ≡ true
in_range a zero l low high = absurd (omega arith)
in_range a (suc n) l low high = elim (eqb_tells a l) [
  | inl t ↦ ap (λ b. b || list_any (λ d. d == l) (range_with_len (a + 1) n)) t.0
  | inr t ↦ ap (λ b. b || list_any (λ d. d == l) (range_with_len (a + 1) n)) t.0 ∙ in_range (a + 1) n l (omega (arith, t.1)) (omega (arith, t.1))
]

only_itself : (s : LocSet) (l k : ℕ) → (k == l) ≡ true → holds s k ≡ holds s l
only_itself s l k same = ap (holds s) (eqb-true k l same)

-- a location is among the members of a set where the set holds it
pub any-members : (s : LocSet) (l : ℕ) → list_any (λ d. d == l) (members s) ≡ holds s l
unfolding members
any-members s l =
    any-filter_same (λ d. d == l) (holds s) (holds s l) (only_itself s l) (range_with_len 0 (64 * length s.words))
    ∙ elim (cases_lt l (64 * length s.words)) [
      | inl low ↦ ap (λ b. holds s l && b) (in_range 0 (64 * length s.words) l (omega arith) (omega arith)) ∙ and-true (holds s l)
      | inr high ↦ ap (λ b. b && list_any (λ d. d == l) (range_with_len 0 (64 * length s.words))) (holds_past s l high) ∙ sym (holds_past s l high)
    ]
