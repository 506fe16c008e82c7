-- What holds of a change of policy while the network runs.
use Rattle.std.specs.Prelude.{◌≡◌, ℕ, Bool, List, Option}
use Rattle.net_base.specs.Network.{PlainNet, IsNet}
use Rattle.net_base.specs.Prefixes.{PlainPrefix, IsPrefix}
use Rattle.policy_base.specs.Policies.{IsPolicyOf}
use Rattle.config_base.specs.Configs.{IsConfig}
use Rattle.config_base.specs.declared.route.Route.{Route}
use Rattle.evidence_base.specs.Made.{PlainCaseEvidence}
use Rattle.evidence_law.specs.Passes.{Passes}
use Rattle.evidence_renewal.specs.Renewed.{IsRenewal}
use Rattle.event_base.specs.Steps.{IsQuiet}
use Rattle.event_law.specs.Scenarios.{IsScenarioOf}
use Rattle.outcome_base.specs.Outcomes.{Failures}
use Rattle.rollout_base.specs.Mixtures.{Change, Mixture, Part, Running, after, begins}
use Rattle.rollout_base.specs.Stages.{SayAlike}
use Rattle.rollout_mixtures.specs.Alike.{HoldTheirs}
use Rattle.rollout_mixtures.specs.Between.{IsBetween}
use Rattle.rollout_mixtures.specs.Laws.{ComesToAnEnd}
use Rattle.rollout_mixtures.specs.Layered.{AreLayers}
use Rattle.rollout_rest.specs.Rollouts.{IsSafeRollout}
use Rattle.stage_check.specs.declared.judging.Verdict.TheVariants.{MayMix}
use Rattle.stage_check.specs.Verdicts.{verdict}
use Rattle.renewal_law.specs.Change.{Announce, IsChange, ReplacesAll, StaysOrGoesOver, TakesOver}
use Rattle.renewal_law.specs.Phases.{AreIn, IsMarked, Phase, part_at, stage_one, stage_two}

-- how a network stands that began so, after a list of events and loads
abbrev pub stands : PlainNet → (ℕ → Bool) → PlainPrefix → Mixture → List Change → Running
stands net says p m es = after net says p es (begins net says p m)

-- ---- at every moment, and at the end

-- From its first load to its last a change is safe, for every prefix,
abbrev pub ChangesAreSafe : Type 0
ChangesAreSafe =
    (net : PlainNet) (p : PlainPrefix) (old new : Part) → IsChange net old new → IsPrefix p
    → IsSafeRollout net p old new (stage_one old new) (stage_two old new)

-- and so is the way back, over the same stages.
abbrev pub ChangesLeadBack : Type 0
ChangesLeadBack =
    (net : PlainNet) (p : PlainPrefix) (old new : Part) → IsChange net old new → IsPrefix p
    → IsSafeRollout net p new old (stage_two old new) (stage_one old new)

-- ---- in between

-- Between two configurations that `between` lets be mixed, each prefix stays, as both do the same with it; or the new one takes over for it.
abbrev pub PrefixesStayOrGoOver : Type 0
PrefixesStayOrGoOver =
    (net : PlainNet) (p : PlainPrefix) (old new : Part) → IsConfig old.config → IsConfig new.config → verdict old.config new.config ≡ MayMix → IsPrefix p
    → StaysOrGoesOver net p old new

-- Where everything is replaced, it takes over for each.
abbrev pub ReplacementsTakeOver : Type 0
ReplacementsTakeOver = (net : PlainNet) (p : PlainPrefix) (old new : Part) → IsChange net old new → ReplacesAll old new → TakesOver net p old new

-- The evidence of a renewed configuration passes, and it replaces everything.
abbrev pub RenewalsReplaceAll : Type 0
RenewalsReplaceAll =
    (net : PlainNet) (old new : Part) (ds : List PlainCaseEvidence) → IsNet net → IsPolicyOf net new.policy
    → IsRenewal net new.policy old.config new.config ds → Passes net new.policy new.config ds × ReplacesAll old new

-- Where it takes over, a router in each phase is between old and new, with the starts and the lines of its phase.
abbrev pub PhasesAreBetween : Type 0
PhasesAreBetween =
    (net : PlainNet) (p : PlainPrefix) (old new : Part) → IsChange net old new → TakesOver net p old new → IsPrefix p
    → (r : ℕ) (phase : Phase) → (is : IsBetween net p old new r (part_at old new phase)) × IsMarked phase is

-- Stay or go over: messages come to an end, whatever was run and loaded before, and in whichever phases the routers are now, as long as nobody loads any more.
abbrev pub ChangesComeToRest : Type 0
ChangesComeToRest =
    (net : PlainNet) (says : ℕ → Bool) (p : PlainPrefix) (old new : Part) (m : Mixture) (es : List Change) (phase : ℕ → Phase)
    → IsChange net old new → StaysOrGoesOver net p old new → IsPrefix p → Announce net p old new says → AreIn old new phase (stands net says p m es).runs
    → ComesToAnEnd net says p (stands net says p m es).runs (stands net says p m es).world

-- Of a prefix that stays each router then holds what it holds where all run what it runs: the outcomes of both policies are the same, but for the own routes
-- of who is an origin by one of them alone, and peers hear the same in both. It is so where no message waits, and f is what has failed.
abbrev pub RestingPrefixesStay : Type 0
RestingPrefixesStay =
    (net : PlainNet) (says : ℕ → Bool) (p : PlainPrefix) (old new : Part) (m : Mixture) (es : List Change) (phase : ℕ → Phase) (f : Failures)
    → IsChange net old new → SayAlike net p old.config new.config → IsPrefix p → Announce net p old new says → AreIn old new phase (stands net says p m es).runs
    → IsScenarioOf net (stands net says p m es).world f → IsQuiet (stands net says p m es).world
    → HoldTheirs net p old new (stands net says p m es).runs f (stands net says p m es).world

-- Of one for which the new configuration takes over, what routers hold, each in its phase, is of two layers: the settled outcome of the new side, and that of the old side.
pub record IsLayered (net : PlainNet) (p : PlainPrefix) (old new : Part) (phase : ℕ → Phase) (m : Mixture) (f : Failures)
    (routes : ℕ → Option Route) : Type 0 where
  pub between : (r : ℕ) → IsBetween net p old new r (m r)
  pub marked : (r : ℕ) → IsMarked (phase r) (between r)
  pub layers : AreLayers net p old new m between f routes

-- It is so in the same case.
abbrev pub RestingChangesAreLayered : Type 0
RestingChangesAreLayered =
    (net : PlainNet) (says : ℕ → Bool) (p : PlainPrefix) (old new : Part) (m : Mixture) (es : List Change) (phase : ℕ → Phase) (f : Failures)
    → IsChange net old new → TakesOver net p old new → IsPrefix p → Announce net p old new says → AreIn old new phase (stands net says p m es).runs
    → IsScenarioOf net (stands net says p m es).world f → IsQuiet (stands net says p m es).world
    → IsLayered net p old new phase (stands net says p m es).runs f (stands net says p m es).world.route
