-- Raised numbers stand to one another as before.
use Rattle.std.proofs.Common.{◌≡◌, ℕ, ◌+◌, ◌≤◌, Bool, cond, List, map, Option, Some, None, refl, ap, ◌∙◌, arith, inl, inr}
use Rattle.std.specs.Prelude.{slice_get, option_map, unwrap_or}
use Rattle.std.proofs.lemmas.Bool.{cases_eq, ne_eqb}
use Rattle.std.proofs.lemmas.Option.{slice_get-map}
use Rattle.net_base.specs.Network.{PlainNet}
use Rattle.graph_base.specs.Graphs.{PlainGraph}
use Rattle.graph_base.specs.Preferences.{number_in}
use Rattle.graph_base.specs.Rules.{IsOver, MeetsRules}
use Rattle.evidence_renewal.specs.Renewed.{raised}

pub raised-some : (by n : ℕ) → 1 ≤ n → raised by n ≡ n + by
raised-some by n some =
    let other : n ≡ 0 → ⊥ = λ e. omega (arith, e, some) in
    ap {B = ℕ} (λ b. cond b 0 (n + by)) (ne_eqb n 0 other)

raised-none : (by n : ℕ) → n ≡ 0 → raised by n ≡ 0
raised-none by n none = ap (raised by) none

pub raised-up : (by a b : ℕ) → a ≤ b → raised by a ≤ raised by b
raised-up by a b less = elim (cases_eq a 0) [
  | inl none ↦ omega (arith, raised-none by a none)
  | inr some ↦ omega (arith, raised-some by a (omega (arith, some)), raised-some by b (omega (arith, some, less)), less)
]

pub raised-down : (by a b : ℕ) → raised by a ≤ raised by b → a ≤ b
raised-down by a b less = elim (cases_eq a 0) [
  | inl none ↦ omega (arith, none)
  | inr some ↦ elim (cases_eq b 0) [
    | inl none ↦ absurd (omega (arith, raised-some by a (omega (arith, some)), raised-none by b none, less, some))
    | inr more ↦ omega (arith, raised-some by a (omega (arith, some)), raised-some by b (omega (arith, more)), less)
  ]
]

-- the number of a node
of_option : (by : ℕ) (o : Option ℕ) → unwrap_or (option_map (raised by) o) 0 ≡ raised by (unwrap_or o 0)
of_option by None = refl
of_option by (Some n) = refl

pub raised-in : (by : ℕ) (old new : List ℕ) → new ≡ map (raised by) old → (n : ℕ) → number_in new n ≡ raised by (number_in old n)
raised-in by old new is n = ap (λ (ns : List ℕ). number_in ns n) is ∙ ap (λ (o : Option ℕ). unwrap_or o 0) (slice_get-map (raised by) old n) ∙ of_option by (slice_get old n)

module _ (net : PlainNet) (Claimed : ℕ → Type 0) (external : Bool) (g : PlainGraph) (old new : ℕ → ℕ)
    (up : (a b : ℕ) → old a ≤ old b → new a ≤ new b) (down : (a b : ℕ) → new a ≤ new b → old a ≤ old b) where
  over : (m n : ℕ) → IsOver net g new m n → IsOver net g old m n
  over m n is = record { better = is.better; worse = is.worse; place = is.place; router = is.router; numbers = down n m is.numbers }

  -- what keeps the rules keeps them with numbers that stand alike
  pub rules-alike : MeetsRules net Claimed external g old → MeetsRules net Claimed external g new
  rules-alike meets = record {
    rank = λ m n i is claimed rank. meets.rank m n i (over m n is) claimed rank;
    step = λ m n t is steps. let s = meets.step m n t (over m n is) steps in (s.0, s.1, s.2, up t s.0 s.3);
    loop = λ m n t k is steps within same reaches. up t k (meets.loop m n t k (over m n is) steps within same reaches);
    listener = λ m n t i inside is heard rank. meets.listener m n t i inside (over m n is) heard rank;
  }
