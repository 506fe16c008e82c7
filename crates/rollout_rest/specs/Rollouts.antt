-- What holds of a rollout from an old policy to a new one, from its first load to its last.
use Rattle.std.specs.Prelude.{◌≡◌, ℕ, Bool, IsTrue, List}
use Rattle.net_base.specs.Network.{PlainNet, IsNet, is_peer}
use Rattle.net_base.specs.Prefixes.{PlainPrefix, IsPrefix}
use Rattle.policy_base.specs.Policies.{IsPolicyOf}
use Rattle.policy_base.specs.Governing.{is_origin}
use Rattle.config_base.specs.Configs.{PlainConfig, IsConfig}
use Rattle.evidence_base.specs.Made.{PlainCaseEvidence}
use Rattle.outcome_base.specs.Outcomes.{Failures}
use Rattle.evidence_law.specs.Passes.{Passes}
use Rattle.event_base.specs.Speaking.{speakers_of}
use Rattle.event_base.specs.Steps.{IsQuiet, run}
use Rattle.event_law.specs.Laws.{world_after}
use Rattle.event_law.specs.Scenarios.{IsScenarioOf}
use Rattle.rest_law.specs.Rest.{IsAtRest}
use Rattle.rollout_base.specs.Mixtures.{Change, Loaded, Mixture, Part, after, begins, without_loads}
use Rattle.rollout_base.specs.Moments.{IsRightByEither}
use Rattle.rollout_base.specs.Stages.{AreStages, HasStartsOf, IsOfRollout}
use Rattle.rollout_rest.specs.Laws.{RestsAs, stands_after}

-- all routers run stage 2 or the new part
abbrev pub AllRunNew : Part → PlainConfig → Mixture → Type 0
AllRunNew new two m = (r : ℕ) → HasStartsOf new two (m r)

-- Of one prefix, whatever fails, comes back and waits meanwhile:
pub record IsSafeRollout (net : PlainNet) (p : PlainPrefix) (old new : Part) (one two : PlainConfig) : Type 0 where
  -- Whatever each router runs and loads of the four, in any order and at any time: at each moment each path that is held or heard the old policy or the
  -- new one lets be. Any peers may announce the prefix.
  pub safe : (says : ℕ → Bool) (m : Mixture) (es : List Change) → ((a : ℕ) → IsTrue (says a) → IsTrue (is_peer net a))
      → ((r : ℕ) → IsOfRollout old new one two (m r)) → Loaded (λ r part. IsOfRollout old new one two part) es
      → IsRightByEither net old.policy new.policy p (after net says p es (begins net says p m)).world
  -- As long as routers run and load the old part and stage 1 alone, the network is the old one, world by world, as if nobody loaded anything.
  pub first : (m : Mixture) (es : List Change) → ((r : ℕ) → HasStartsOf old one (m r)) → Loaded (λ r part. HasStartsOf old one part) es
      → (stands_after net p old m es).world ≡ world_after net old.policy old.config p (without_loads es)
  -- Once all run stage 2 or the new part, whatever was run and loaded before, the network comes to rest in the settled outcome of the new one under what has
  -- failed, after so many rounds of deliveries;
  pub ends : (m : Mixture) (es : List Change) (f : Failures) → AllRunNew new two (stands_after net p new m es).runs → IsScenarioOf net (stands_after net p new m es).world f
      → RestsAs net p new (stands_after net p new m es).runs f (stands_after net p new m es).world
  -- and where no message waits it is there.
  pub settled : (m : Mixture) (es : List Change) (f : Failures) → AllRunNew new two (stands_after net p new m es).runs → IsScenarioOf net (stands_after net p new m es).world f
      → IsQuiet (stands_after net p new m es).world → IsAtRest net new.policy new.config p f (stands_after net p new m es).world
  -- From there on loads of stage 2 and of the new part change nothing: the network goes on as the new one does.
  pub last : (m : Mixture) (es cs : List Change) → AllRunNew new two (stands_after net p new m es).runs → IsQuiet (stands_after net p new m es).world → Loaded (λ r part. HasStartsOf new two part) cs
      → (after net (is_origin net new.policy p) p cs (stands_after net p new m es)).world ≡ run (speakers_of net new.policy new.config p) (without_loads cs) (stands_after net p new m es).world

-- So it is where the evidence of both passes, and between them are stages.
abbrev pub RolloutsAreRight : Type 0
RolloutsAreRight =
    (net : PlainNet) (p : PlainPrefix) (old new : Part) (one two : PlainConfig) (cs ds : List PlainCaseEvidence) → IsNet net
    → IsPolicyOf net old.policy → Passes net old.policy old.config cs → IsConfig old.config → IsPolicyOf net new.policy → Passes net new.policy new.config ds
    → IsPrefix p → AreStages net p old new one two → IsSafeRollout net p old new one two

-- Stages serve both ways: the same two lead back.
abbrev pub StagesLeadBack : Type 0
StagesLeadBack = (net : PlainNet) (p : PlainPrefix) (old new : Part) (one two : PlainConfig) → AreStages net p old new one two → AreStages net p new old two one
