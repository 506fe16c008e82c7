-- Every world that is reached is one of some scenario, and has a way to rest.
use Rattle.std.specs.Prelude.{◌≡◌, List, length}
use Rattle.net_base.specs.Network.{PlainNet, IsNet}
use Rattle.net_base.specs.Prefixes.{PlainPrefix, IsPrefix}
use Rattle.policy_base.specs.Policies.{PlainPolicy, IsPolicyOf}
use Rattle.config_base.specs.Configs.{PlainConfig}
use Rattle.evidence_base.specs.Made.{PlainCaseEvidence}
use Rattle.outcome_base.specs.Announcements.{FullOutcome}
use Rattle.outcome_base.specs.Outcomes.{Failures}
use Rattle.evidence_law.specs.Passes.{Passes}
use Rattle.motion_law.specs.Motion.{Motion, Move}
use Rattle.motion_law.specs.Rounds.{IsCalm, Schedule}
use Rattle.motion_rest.specs.Rest.{IsFair, IsScenarioIn, world_before}
use Rattle.named_rest.specs.Named.{IsFullyStableUnder, IsNamedSchedule}

-- Whatever has happened, lists of failures say what is down and cut.
abbrev pub EveryWorldHasAScenario : Type 0
EveryWorldHasAScenario = (net : PlainNet) (policy : PlainPolicy) (config : PlainConfig) (p : PlainPrefix) (before : List Move) → (f : Failures) × IsScenarioIn net (world_before net policy config p before) f

-- From each world some schedule goes on in which nothing fails, nobody is forgotten, and each choice names the neighbour with the lowest identifier.
abbrev pub FairSchedulesExist : Type 0
FairSchedulesExist = (net : PlainNet) (policy : PlainPolicy) (config : PlainConfig) (p : PlainPrefix) (w : Motion) → IsNet net
    → (s : Schedule) × IsCalm s × IsFair net s × IsNamedSchedule net policy config p s w

-- Where the evidence passes, each world has a fully stable outcome: of what is down and cut in it, while the peers say what they say in it.
abbrev pub EveryWorldHasAnOutcome : Type 0
EveryWorldHasAnOutcome =
    (net : PlainNet) (policy : PlainPolicy) (config : PlainConfig) (cs : List PlainCaseEvidence) → IsNet net → IsPolicyOf net policy → Passes net policy config cs
    → (p : PlainPrefix) → IsPrefix p → (before : List Move) (f : Failures) → IsScenarioIn net (world_before net policy config p before) f
    → (full : FullOutcome) × (length full ≡ length net.routers) × IsFullyStableUnder net policy config f (world_before net policy config p before).says p full
