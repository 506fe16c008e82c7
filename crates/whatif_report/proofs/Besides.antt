-- Scenarios with a cut besides.
use Rattle.std.proofs.Common.{◌≡◌, ℕ, ◌||◌, ◌&&◌, List, sym, ap, ap₂, ◌∙◌, inl, inr}
use Rattle.std.specs.Prelude.{◌==◌}
use Rattle.std.specs.List.{list_any}
use Rattle.std.proofs.Math.Bool.{or_comm}
use Rattle.std.proofs.lemmas.Bool.{cases_Bool, eq-eqb, eqb-true}
use Rattle.net_base.specs.Network.{PlainNet, joins}
use Rattle.net_base.specs.Sets.{holds}
use Rattle.outcome_base.specs.Outcomes.{Failures}
use Rattle.scenarios.specs.Scenarios.{failures_of}
use Rattle.scenarios.specs.Surviving.{AreSurvivors}
use Rattle.scenarios.specs.declared.scenario.Scenario.{Scenario}
use Rattle.scenarios.specs.declared.survivors.Survivors.{Survivors}
use Rattle.scenarios.proofs.Members.{any-members}
use Rattle.impact_law.specs.Cuts.{with_cut}
use Rattle.impact_law.specs.declared.impact.Cut.TheVariants.{Router}
use Rattle.whatif_report.specs.Cutting.{AreSameFailures, IsWithCut}

turned : (a b : ℕ) → (a == b) ≡ (b == a)
turned a b = elim (cases_Bool (a == b)) [
  | inl same ↦ same ∙ sym (eq-eqb b a (sym (eqb-true a b same)))
  | inr other ↦ elim (cases_Bool (b == a)) [
    | inl back ↦ eq-eqb a b (sym (eqb-true b a back)) ∙ sym back
    | inr off ↦ other ∙ sym off
  ]
]

-- a router that is put into a set is as one in front of the set's
router_failures : (s t : Scenario) (r : ℕ) → ((l : ℕ) → holds t.dead l ≡ (holds s.dead l || l == r)) → t.dead_links ≡ s.dead_links → t.silent ≡ s.silent
    → AreSameFailures (failures_of t) (with_cut (Router r) (failures_of s))
router_failures s t r dead links silent = record {
  dead = λ l.
      any-members t.dead l ∙ dead l ∙ or_comm (holds s.dead l) (l == r) ∙ ap₂ (λ b o. b || o) (turned l r) (sym (any-members s.dead l));
  links = λ x y. ap (λ (es : List (ℕ × ℕ)). list_any (joins x y) es) links;
  silent = λ x y. ap (λ (es : List (ℕ × ℕ)). list_any (λ (e : ℕ × ℕ). e.0 == x && e.1 == y) es) silent;
}

pub router_besides : (s t : Scenario) (r : ℕ) → ((l : ℕ) → holds t.dead l ≡ (holds s.dead l || l == r)) → t.dead_links ≡ s.dead_links → t.silent ≡ s.silent → t.prefix ≡ s.prefix
    → IsWithCut s (Router r) t
router_besides s t r dead links silent prefix = record { prefix = prefix; failures = router_failures s t r dead links silent }

-- tables of the same failures are the same tables
pub same_survivors : (net : PlainNet) (f h : Failures) (s : Survivors) → AreSameFailures f h → AreSurvivors net f s → AreSurvivors net h s
same_survivors net f h s same are = record {
  dead = λ l. are.dead l ∙ same.dead l;
  cut = λ a b on. are.cut a b on ∙ same.links a b;
  silent = λ r p on peer. are.silent r p on peer ∙ same.silent r p;
}
