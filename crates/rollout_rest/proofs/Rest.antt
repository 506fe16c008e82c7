-- Routers that read as one part does come to rest.
use Rattle.std.proofs.Common.{◌≡◌, ℕ, Bool, true, List, length, sym, ◌∙◌}
use Rattle.std.proofs.lemmas.Bool.{ltb-true}
use Rattle.net_base.specs.Network.{PlainNet, IsNet, linked}
use Rattle.net_base.specs.Prefixes.{PlainPrefix, IsPrefix}
use Rattle.policy_base.specs.Policies.{IsPolicyOf}
use Rattle.policy_base.specs.Governing.{is_origin}
use Rattle.config_base.specs.declared.route.Route.{Route}
use Rattle.evidence_base.specs.Made.{PlainCaseEvidence}
use Rattle.outcome_base.specs.Outcomes.{Failures}
use Rattle.evidence_law.specs.Passes.{Passes}
use Rattle.event_base.specs.Steps.{run}
use Rattle.event_base.specs.World.{Speakers, World}
use Rattle.event_law.specs.Kept.{AreSpeakers, IsKept}
use Rattle.event_law.specs.Kinds.{AreKinds}
use Rattle.event_law.specs.Scenarios.{IsScenarioOf}
use Rattle.event_law.proofs.Keeping.{opening-keeps, run-keeps}
use Rattle.event_law.proofs.KindsKept.{opening-kinds}
use Rattle.rest_law.specs.Laws.{Lists, each_round}
use Rattle.rest_law.specs.Rest.{IsAtRest, rounds_enough}
use Rattle.rest_law.specs.Rounds.{AreRounds, deliveries, stretch}
use Rattle.rest_law.specs.Ways.{each_way}
use Rattle.rest_law.proofs.Ended.{has_order, same_scenario, ways_listed}
use Rattle.rest_law.proofs.Ending.{trails_end}
use Rattle.rest_law.proofs.Failures.{same_run, same_self}
use Rattle.rest_law.proofs.Fair.{fair_rounds, rounds_before}
use Rattle.rest_law.proofs.Present.{rounds_go_on}
use Rattle.rest_law.proofs.Trails.{IsHolding, IsSaying}
use Rattle.rollout_base.specs.Mixtures.{Change, Mixture, Part, Running, after, begins, mixed}
use Rattle.rollout_law.proofs.Loading.{changes_keep}
use Rattle.rollout_law.proofs.Speaking.{are_speakers}
use Rattle.rollout_rest.specs.Laws.{AllRead, ReadersComeToRest, RestingReadersAreAtRest, RestingReadersAreSettled, RestsAs, stands_after}
use Rattle.rollout_rest.proofs.Mixed.{after_kinds, mixed_choosers, mixed_trails, taken_in}
use Rattle.rollout_rest.proofs.Readers.{at_rest_alike, order_of_readers, rests_alike}
use Rattle.rollout_rest.proofs.Settled.{readers_rest, readers_settle}

module _ (net : PlainNet) (says : ℕ → Bool) (p : PlainPrefix) (m : Mixture) (es : List Change) (rules : IsNet net) where
  abbrev stand : Running
  stand = after net says p es (begins net says p m)

  pub keeps : IsKept (mixed net says p stand.runs) stand.world
  keeps = changes_keep net says p es (begins net says p m) rules (opening-keeps (mixed net says p m) (are_speakers net says p m rules))

  pub holds_trails : AreKinds (IsHolding net) (IsSaying net) stand.world
  holds_trails =
      after_kinds net says p (IsHolding net) (IsSaying net) (mixed_trails net says p) es (begins net says p m)
      (opening-kinds (mixed net says p m) (IsHolding net) (IsSaying net) (mixed_trails net says p m))

pub resting_readers_are_at_rest : RestingReadersAreAtRest
resting_readers_are_at_rest net p x cs m es f rules lawful passes prefix reads scenario quiet =
    let says : ℕ → Bool = is_origin net x.policy p in
    readers_rest net p x rules (stand net says p m es rules).runs (stand net says p m es rules).world f reads scenario (keeps net says p m es rules) quiet cs lawful passes prefix

pub resting_readers_are_settled : RestingReadersAreSettled
resting_readers_are_settled net p x m es f rules reads scenario quiet =
    let says : ℕ → Bool = is_origin net x.policy p in
    readers_settle net p x rules (stand net says p m es rules).runs (stand net says p m es rules).world f reads scenario (keeps net says p m es rules) quiet

module _ (net : PlainNet) (p : PlainPrefix) (x : Part) (cs : List PlainCaseEvidence) (m : Mixture) (es : List Change) (f : Failures) (rules : IsNet net) (lawful : IsPolicyOf net x.policy)
    (passes : Passes net x.policy x.config cs) (prefix : IsPrefix p) (reads : AllRead net p x (stands_after net p x m es).runs) (scenario : IsScenarioOf net (stands_after net p x m es).world f) where
  abbrev says : ℕ → Bool
  says = is_origin net x.policy p

  abbrev runs : Mixture
  runs = (stands_after net p x m es).runs

  abbrev world : World Route
  world = (stands_after net p x m es).world

  abbrev S : Speakers Route
  S = mixed net says p runs

  speak : AreSpeakers S
  speak = are_speakers net says p runs rules

  kept : IsKept S world
  kept = keeps net says p m es rules

  rest_after : (ds : List (ℕ × ℕ)) → AreRounds S (rounds_enough net) world ds → IsAtRest net x.policy x.config p f (run S (deliveries ds) world)
  rest_after ds rounds =
      let has = has_order net x.policy x.config cs rules lawful passes p prefix world f scenario in
      let end =
      trails_end net S (taken_in net p runs) world has.0 has.1.routers ds speak (mixed_choosers net says p runs rules) (mixed_trails net says p runs) (λ r t. ltb-true r (length net.routers) t)
      kept (holds_trails net says p m es rules)
      (λ r t. has.1.rested r (sym (rests_alike net says p x runs reads world r) ∙ t) ∙ sym (at_rest_alike net says p x runs reads world r))
      (order_of_readers net says p x runs reads world has.0 has.1.rested has.1.routers has.1.order) rounds in
      readers_rest net p x rules runs (run S (deliveries ds) world) f reads (same_scenario net world (run S (deliveries ds) world) f (same_run S ds world world (same_self S world)) scenario)
      (run-keeps S speak (deliveries ds) world kept) end.0 cs lawful passes prefix

  listed : (a b : ℕ) → linked net a b ≡ true → Lists (each_way net.links) a b
  listed a b on = ways_listed net.links a b on

  pub rests_as : RestsAs net p x runs f world
  rests_as = record {
    rounds = rest_after;
    reached =
        let ds = each_round S (each_way net.links) (rounds_enough net) world in
        (ds, rest_after ds (rounds_go_on S speak (each_way net.links) listed (rounds_enough net) world kept));
    fair = λ schedule fair.
        let all = fair_rounds S speak schedule fair (each_way net.links) listed (rounds_enough net) world kept 0 in
        (all.0, λ k le. rest_after (stretch schedule 0 k) (rounds_before S schedule (rounds_enough net) all.0 k world le all.1));
  }

pub readers_come_to_rest : ReadersComeToRest
readers_come_to_rest net p x cs m es f rules lawful passes prefix reads scenario = rests_as net p x cs m es f rules lawful passes prefix reads scenario
