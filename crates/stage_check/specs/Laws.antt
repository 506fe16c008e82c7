-- What follows from the verdict on two configurations.
use Rattle.std.specs.Prelude.{◌≡◌, ℕ, ◌<◌, ◌⊎◌}
use Rattle.std.specs.List.{AllByRecursion}
use Rattle.list_law.specs.Members.{IsIn}
use Rattle.net_base.specs.Network.{PlainNet}
use Rattle.net_base.specs.Prefixes.{PlainPrefix, IsPrefix}
use Rattle.policy_base.specs.Policies.{PlainPolicy}
use Rattle.config_base.specs.Configs.{PlainConfig, IsConfig}
use Rattle.rollout_base.specs.Mixtures.{Part}
use Rattle.rollout_base.specs.Stages.{IsRollout}
use Rattle.class_lines.specs.Marks.{prefs_in}
use Rattle.class_lines.specs.Tables.{by_class}
use Rattle.stage_classes.specs.declared.cell.Cell.{Cell}
use Rattle.stage_classes.specs.Cells.{cells}
use Rattle.stage_law.specs.Mixing.{HaveNoTagInCommon, SaySame}
use Rattle.stage_maker.specs.Laws.{MayJoin}
use Rattle.stage_check.specs.declared.judging.Verdict.TheVariants.{MayMix}
use Rattle.stage_check.specs.declared.which.Stage.TheVariants.{One, Two}
use Rattle.stage_check.specs.Stages.{stage_of}
use Rattle.stage_check.specs.Verdicts.{verdict}

-- what a router runs by a policy
abbrev pub run_by : PlainPolicy → PlainConfig → Part
run_by policy config = record { policy = policy; config = config }

-- For every network, every two policies and every prefix the two configurations and the two stages between them are a rollout.
abbrev pub AreRollouts : PlainConfig → PlainConfig → Type 0
AreRollouts old new = (net : PlainNet) (before after : PlainPolicy) (p : PlainPrefix) → IsPrefix p
    → IsRollout net p (run_by before old) (run_by after new) (stage_of One old new) (stage_of Two old new)

-- each preference in lines of the second class is above each in lines of the first one
abbrev pub AreOver : ℕ → ℕ → PlainConfig → PlainConfig → Type 0
AreOver m n old new = (i j : ℕ) → IsIn (prefs_in (by_class old m)) i → IsIn (prefs_in (by_class new n)) j → i < j

-- The classes of a cell have the same lines in every block, as far as they are about its prefixes; or no tag in common, and the preferences
-- of the new one are above.
abbrev pub StayOrGoOver : PlainConfig → PlainConfig → Cell → Type 0
StayOrGoOver old new c =
    SaySame c.patterns c.first c.second old.routers new.routers ⊎ (HaveNoTagInCommon c.first c.second old new × AreOver c.first c.second old new)

-- Where nothing is in the way each cell is so.
abbrev pub FreePairsStayOrGoOver : Type 0
FreePairsStayOrGoOver = (old new : PlainConfig) → verdict old new ≡ MayMix → AllByRecursion (StayOrGoOver old new) (cells old.classes new.classes)

-- Where nothing is in the way the cells serve for stages, and these make rollouts.
abbrev pub CellsServe : Type 0
CellsServe = (old new : PlainConfig) → IsConfig old → IsConfig new → verdict old new ≡ MayMix → MayJoin (cells old.classes new.classes) old new

abbrev pub StagesAreRollouts : Type 0
StagesAreRollouts = (old new : PlainConfig) → IsConfig old → IsConfig new → verdict old new ≡ MayMix → AreRollouts old new
