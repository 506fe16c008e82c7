-- The situation after a cut.
use Rattle.std.proofs.Common.{◌≡◌, ◌<◌, ℕ, true, length, sym, ap, ◌∙◌, inl, inr, subst, arith}
use Rattle.std.specs.Prelude.{not}
use Rattle.std.proofs.lemmas.Bool.{and_parts, cases_Bool, ltb-true, true≢false}
use Rattle.net_base.specs.declared.limits.TheConstants.{LOCATIONS}
use Rattle.net_base.specs.Network.{PlainNet, IsNet, is_router}
use Rattle.policy_base.specs.Policies.{policy_of}
use Rattle.scenarios.specs.Scenarios.{failures_of}
use Rattle.scenarios.specs.Situations.{IsSituation}
use Rattle.scenarios.specs.declared.scenario.Scenario.{Scenario}
use Rattle.scenarios.specs.declared.situation.Situation.{Situation}
use Rattle.impact_law.specs.Cuts.{is_cut, with_cut}
use Rattle.impact_law.specs.declared.impact.Cut.{Cut}
use Rattle.multipath_report.specs.Members.{member_in}
use Rattle.whatif_report.specs.Changing.{IsAfter, IsChange, shifts_in}
use Rattle.whatif_report.specs.Cutting.{AreSameFailures, IsWithCut}
use Rattle.whatif_report.specs.declared.shifting.Change.{Change}
use Rattle.whatif_report.proofs.Members.{differ_itself}

-- what is made of the same network with a scenario that has a cut besides is after the cut
pub follows : (s t : Situation) (cut : Cut) (scenario : Scenario) → IsSituation t → t.net.now ≡ s.net.now → t.policy.now ≡ s.policy.now → t.config.now ≡ s.config.now
    → t.scenario.now ≡ scenario → IsWithCut s.scenario.now cut scenario → length s.outcome.now.routes ≡ length s.net.now.routers → length t.outcome.now.routes ≡ length s.net.now.routers
    → IsAfter s t cut
follows s t cut scenario rules net policy config same besides size too = record {
  situation = rules;
  net = net;
  policy = ap policy_of policy;
  config = config;
  prefix = ap (λ (c : Scenario). c.prefix) same ∙ besides.prefix;
  failures = subst (λ (c : Scenario). AreSameFailures (failures_of c) (with_cut cut (failures_of s.scenario.now))) (sym same) besides.failures;
  before_size = size;
  size = too;
}

-- a member is one of a router
member_router : (s : Situation) (r z : ℕ) → member_in s r z ≡ true → is_router s.net.now r ≡ true
member_router s r z on = (and_parts (is_router s.net.now r) _ (and_parts _ _ on).0).0

-- so what is marked is a router
pub marked_low : (c : Change) → IsNet c.before.now.net.now → IsChange c → (z r : ℕ) → shifts_in c z r ≡ true → r < LOCATIONS
marked_low c rules is z r on =
    let there = ltb-true r (length c.before.now.net.now.routers) router in
    let few = rules.routers in
    omega (arith, there, few)
  where
    router : is_router c.before.now.net.now r ≡ true
    router = elim (cases_Bool (member_in c.before.now r z)) [
      | inl t ↦ member_router c.before.now r z t
      | inr t ↦ elim (cases_Bool (member_in c.after.now r z)) [
        | inl u ↦ subst (λ (n : PlainNet). is_router n r ≡ true) is.after.net (member_router c.after.now r z u)
        | inr u ↦ absurd (true≢false (sym (and_parts (not (is_cut c.cut r)) _ on).1 ∙ differ_itself (member_in c.before.now r z) (member_in c.after.now r z) (t ∙ sym u)))
      ]
    ]
