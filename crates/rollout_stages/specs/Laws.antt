-- What holds on the way from an old configuration to a new one.
use Rattle.std.specs.Prelude.{◌≡◌, ℕ, Bool, IsTrue, List}
use Rattle.net_base.specs.Network.{PlainNet, IsNet, is_peer}
use Rattle.net_base.specs.Prefixes.{PlainPrefix, IsPrefix}
use Rattle.policy_base.specs.Policies.{IsPolicyOf}
use Rattle.config_base.specs.Configs.{PlainConfig, IsConfig}
use Rattle.evidence_base.specs.Made.{PlainCaseEvidence}
use Rattle.evidence_law.specs.Passes.{Passes}
use Rattle.event_base.specs.Steps.{opening, run}
use Rattle.event_law.specs.Kept.{IsKept}
use Rattle.rollout_base.specs.Lines.{ReadsAs, SaysNoMore}
use Rattle.rollout_base.specs.Mixtures.{Change, Loaded, Mixture, Part, Running, after, all_run, begins, mixed, without_loads}
use Rattle.rollout_base.specs.Moments.{IsRightByEither}
use Rattle.rollout_base.specs.Stages.{AreStages, HasStartsOf, IsOfRollout, IsRollout, IsStage, MayMix, staged}
use Rattle.rollout_law.specs.Laws.{HasTagsOf}

-- A stage says nothing that neither of its two configurations says.
abbrev pub StagesSayNoMore : Type 0
StagesSayNoMore =
    (net : PlainNet) (p : PlainPrefix) (start other : Part) (stage : PlainConfig) (r : ℕ) → IsStage net p start.config other.config stage
    → SaysNoMore net p start other r (staged start stage)

-- Where the two may mix, it does with the routes of its starts just what their own configuration does.
abbrev pub StagesReadAsStarts : Type 0
StagesReadAsStarts =
    (net : PlainNet) (p : PlainPrefix) (start other : Part) (stage : PlainConfig) (r : ℕ) → IsStage net p start.config other.config stage → MayMix net p start other
    → ReadsAs net p start r (staged start stage)

-- So the two stages of a rollout are stages.
abbrev pub RolloutsHaveStages : Type 0
RolloutsHaveStages = (net : PlainNet) (p : PlainPrefix) (old new : Part) (one two : PlainConfig) → IsRollout net p old new one two → AreStages net p old new one two

-- From the beginning on loads of the old configuration and of stage 1 change nothing, whatever happens: not one message.
abbrev pub FirstLoadsChangeNothing : Type 0
FirstLoadsChangeNothing =
    (net : PlainNet) (says : ℕ → Bool) (p : PlainPrefix) (old new : Part) (one two : PlainConfig) (cs : List Change) (m : Mixture) → IsNet net → AreStages net p old new one two
    → ((r : ℕ) → HasStartsOf old one (m r)) → Loaded (λ r part. HasStartsOf old one part) cs
    → (after net says p cs (begins net says p m)).world ≡ run (mixed net says p (all_run old)) (without_loads cs) (opening (mixed net says p (all_run old)))

-- Where each route has a tag of the new configuration, so it is of loads of stage 2 and of the new configuration, and each goes on to.
abbrev pub LastLoadsChangeNothing : Type 0
LastLoadsChangeNothing =
    (net : PlainNet) (says : ℕ → Bool) (p : PlainPrefix) (old new : Part) (one two : PlainConfig) (cs : List Change) (s : Running) → IsNet net → AreStages net p old new one two
    → IsKept (mixed net says p s.runs) s.world → HasTagsOf net p new s.world
    → ((r : ℕ) → HasStartsOf new two (s.runs r)) → Loaded (λ r part. HasStartsOf new two part) cs
    → ((after net says p cs s).world ≡ run (mixed net says p (all_run new)) (without_loads cs) s.world) × HasTagsOf net p new (after net says p cs s).world

-- Whatever each router runs and loads of the four, in any order: after each list of events and loads what is held and heard one of the two
-- policies lets be.
abbrev pub RolloutsAreSafe : Type 0
RolloutsAreSafe =
    (net : PlainNet) (p : PlainPrefix) (old new : Part) (one two : PlainConfig) (cs ds : List PlainCaseEvidence) → IsNet net
    → IsPolicyOf net old.policy → Passes net old.policy old.config cs → IsConfig old.config → IsPolicyOf net new.policy → Passes net new.policy new.config ds
    → IsPrefix p → AreStages net p old new one two
    → (says : ℕ → Bool) → ((a : ℕ) → IsTrue (says a) → IsTrue (is_peer net a))
    → (m : Mixture) → ((r : ℕ) → IsOfRollout old new one two (m r)) → (es : List Change) → Loaded (λ r part. IsOfRollout old new one two part) es
    → IsRightByEither net old.policy new.policy p (after net says p es (begins net says p m)).world
