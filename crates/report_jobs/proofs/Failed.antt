-- What has failed in a world is a scenario that a text can spell.
use Rattle.std.proofs.Common.{◌≡◌, ℕ, List, ◌≤◌, false, true, inl, inr, sym, ◌∙◌, arith}
use Rattle.std.proofs.lemmas.Bool.{cases_Bool, cases_lt, ltb-true}
use Rattle.net_base.specs.Network.{PlainNet, IsNet, is_router}
use Rattle.net_base.specs.Prefixes.{PlainPrefix}
use Rattle.net_base.specs.Sets.{set_of}
use Rattle.net_base.proofs.SetOf.{holds-set_of, holds-set_of_past}
use Rattle.policy_base.specs.Policies.{PlainPolicy}
use Rattle.config_base.specs.Configs.{PlainConfig}
use Rattle.event_base.specs.declared.event.Event.{Event}
use Rattle.event_base.specs.Speaking.{speakers_of}
use Rattle.event_law.proofs.Downs.{run-down}
use Rattle.outcome_base.specs.Outcomes.{is_dead}
use Rattle.scenarios.proofs.Members.{any-members}
use Rattle.scenarios.specs.Scenarios.{failures_of}
use Rattle.event_law.proofs.Scenario.{worlds_have_scenarios}
use Rattle.event_law.specs.Laws.{world_after}
use Rattle.event_law.specs.Scenarios.{IsScenarioOf}
use Rattle.report_jobs.specs.Traced.{scenario_in}

module _ (net : PlainNet) (policy : PlainPolicy) (config : PlainConfig) (p : PlainPrefix) (es : List Event) (rules : IsNet net) where
  -- only routers are down, and there are at most 512
  none_past : (l : ℕ) → 768 ≤ l → (world_after net policy config p es).down l ≡ false
  none_past l high = elim (cases_Bool ((world_after net policy config p es).down l)) [
    | inl down ↦ absurd (
        let router : is_router net l ≡ true = run-down (speakers_of net policy config p) es l down in
        let low = ltb-true l _ router in
        omega (arith, low, rules.routers, high))
    | inr up ↦ up
  ]

  dead_is : (l : ℕ) → is_dead (failures_of (scenario_in net p (world_after net policy config p es))) l ≡ (world_after net policy config p es).down l
  dead_is l =
      let w = world_after net policy config p es in
      any-members (set_of w.down) l ∙ elim (cases_lt l 768) [
        | inl low ↦ holds-set_of w.down l low
        | inr high ↦ holds-set_of_past w.down l high ∙ sym (none_past l high)
      ]

  -- the scenario in a world is that of what has failed
  pub is_failed : IsScenarioOf net (world_after net policy config p es) (failures_of (scenario_in net p (world_after net policy config p es)))
  is_failed =
      let known = worlds_have_scenarios net policy config p es rules in
      record { dead = dead_is; links = known.links; silent = known.silent }
