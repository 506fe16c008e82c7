-- Which of the four configurations of a change a router runs.
use Rattle.std.specs.Prelude.{◌≡◌, ℕ, Bool, true, false}
use Rattle.net_base.specs.Network.{PlainNet}
use Rattle.net_base.specs.Prefixes.{PlainPrefix}
use Rattle.config_base.specs.Configs.{PlainConfig}
use Rattle.rollout_base.specs.Mixtures.{Mixture, Part}
use Rattle.rollout_base.specs.Stages.{staged}
use Rattle.rollout_mixtures.specs.Between.{IsBetween}
use Rattle.stage_check.specs.declared.which.Stage.TheVariants.{One, Two}
use Rattle.stage_check.specs.Stages.{stage_of}

-- the stages that `between` writes
abbrev pub stage_one : Part → Part → PlainConfig
stage_one old new = stage_of One old.config new.config

abbrev pub stage_two : Part → Part → PlainConfig
stage_two old new = stage_of Two old.config new.config

-- A router runs the old configuration, one of the stages, or the new one.
pub data Phase : Type 0 where
  at_old : Phase
  at_one : Phase
  at_two : Phase
  at_new : Phase

abbrev pub part_at : Part → Part → Phase → Part
part_at old new at_old = old
part_at old new at_one = staged old (stage_one old new)
part_at old new at_two = staged new (stage_two old new)
part_at old new at_new = new

-- each router is in its phase
abbrev pub AreIn : Part → Part → (ℕ → Phase) → Mixture → Type 0
AreIn old new phase m = (r : ℕ) → m r ≡ part_at old new (phase r)

-- ---- what a router has in its phase

abbrev pub has_new_starts : Phase → Bool
has_new_starts at_old = false
has_new_starts at_one = false
has_new_starts at_two = true
has_new_starts at_new = true

abbrev pub has_old_lines : Phase → Bool
has_old_lines at_old = true
has_old_lines at_one = true
has_old_lines at_two = true
has_old_lines at_new = false

abbrev pub has_new_lines : Phase → Bool
has_new_lines at_old = false
has_new_lines at_one = true
has_new_lines at_two = true
has_new_lines at_new = true

-- What is said of a router between old and new is what it has in its phase.
pub record IsMarked {net : PlainNet} {p : PlainPrefix} {old new : Part} {r : ℕ} {part : Part} (phase : Phase)
    (is : IsBetween net p old new r part) : Type 0 where
  pub starts : is.flipped ≡ has_new_starts phase
  pub old_lines : is.has_old ≡ has_old_lines phase
  pub new_lines : is.has_new ≡ has_new_lines phase
