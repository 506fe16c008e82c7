-- The machine of events comes to rest as the one in motion does: each round of deliveries is a round of that.
use Rattle.std.specs.Prelude.{ℕ, List, ◌++◌}
use Rattle.net_base.specs.Network.{PlainNet, IsNet}
use Rattle.net_base.specs.Prefixes.{PlainPrefix}
use Rattle.policy_base.specs.Policies.{PlainPolicy, IsPolicyOf}
use Rattle.config_base.specs.Configs.{PlainConfig}
use Rattle.evidence_base.specs.Made.{PlainCaseEvidence}
use Rattle.evidence_law.specs.Passes.{Passes}
use Rattle.event_base.specs.declared.event.Event.{Event}
use Rattle.event_base.specs.Speaking.{speakers_of}
use Rattle.event_base.specs.Steps.{IsQuiet}
use Rattle.event_law.specs.Laws.{world_after}
use Rattle.motion_law.specs.Rounds.{IsCalm, Schedule, world_at}
use Rattle.motion_rest.specs.Rest.{AreRounds as AreRoundsIn, RestsInMotion, world_before}
use Rattle.event_motion.specs.Playing.{Corresponds, moves_for}
use Rattle.rest_law.specs.Rest.{AlwaysComesToRest, rounds_enough}
use Rattle.rest_law.specs.Rounds.{AreRounds, deliveries}

-- After whatever events, so many rounds of deliveries are as many rounds in motion, from the same world to the same one.
abbrev pub RoundsAreRounds : Type 0
RoundsAreRounds =
    (net : PlainNet) (policy : PlainPolicy) (config : PlainConfig) (p : PlainPrefix) (es : List Event) (k : ℕ) (ds : List (ℕ × ℕ)) → IsNet net
    → AreRounds (speakers_of net policy config p) k (world_after net policy config p es) ds
    → (s : Schedule) × (end : ℕ) × IsCalm s × AreRoundsIn net policy config p s (world_before net policy config p (moves_for net policy config p es)) k 0 end
    × Corresponds net policy config p (world_after net policy config p (es ++ deliveries ds)) (world_at net policy config p s (world_before net policy config p (moves_for net policy config p es)) end)

-- So where the network in motion comes to rest, no message waits after as many rounds of deliveries.
abbrev pub EventsEnd : Type 0
EventsEnd =
    (net : PlainNet) (policy : PlainPolicy) (config : PlainConfig) (p : PlainPrefix) (es : List Event) (ds : List (ℕ × ℕ)) → IsNet net → RestsInMotion net policy config p
    → AreRounds (speakers_of net policy config p) (rounds_enough net) (world_after net policy config p es) ds → IsQuiet (world_after net policy config p (es ++ deliveries ds))

-- And where the evidence passes the network comes to rest in its one settled outcome.
abbrev pub PassingEvidenceComesToRest : Type 0
PassingEvidenceComesToRest =
    (net : PlainNet) (policy : PlainPolicy) (config : PlainConfig) (cs : List PlainCaseEvidence) → IsNet net → IsPolicyOf net policy
    → Passes net policy config cs → AlwaysComesToRest net policy config
