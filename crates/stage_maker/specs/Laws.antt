-- What is made is a stage.
use Rattle.std.specs.Prelude.{◌≡◌, ◌≢◌, ◌<◌, ◌^◌, List, [], length}
use Rattle.std.specs.List.{AllByRecursion}
use Rattle.std.specs.Option.{option_map}
use Rattle.net_base.specs.Network.{PlainNet}
use Rattle.net_base.specs.Prefixes.{PlainPrefix, IsPrefix}
use Rattle.config_base.specs.Configs.{PlainConfig, IsConfig}
use Rattle.rollout_base.specs.Stages.{IsStage}
use Rattle.stage_classes.specs.declared.cell.Cell.{Cell}
use Rattle.stage_classes.specs.Cells.{turned}
use Rattle.stage_classes.specs.Laws.{cell_of, pair_of}
use Rattle.stage_maker.specs.Alike.{AreAlike}
use Rattle.stage_maker.specs.Joined.{joined}

-- The first cell with a prefix is that of its classes in the two.
abbrev pub ArePairsOf : List Cell → PlainConfig → PlainConfig → Type 0
ArePairsOf cells start other = (p : PlainPrefix) → IsPrefix p → option_map (λ (c : Cell). (c.first, c.second)) (cell_of cells p) ≡ pair_of start.classes other.classes p

-- Two lawful configurations of the same routers, and cells that pair their classes.
pub record MayJoin (cells : List Cell) (start other : PlainConfig) : Type 0 where
  pub start_is : IsConfig start
  pub other_is : IsConfig other
  pub alike : AreAlike start.routers other.routers
  pub count : length cells < 2 ^ 32
  pub patterns : AllByRecursion (λ (c : Cell). c.patterns ≢ []) cells
  pub pairs : ArePairsOf cells start other

-- It keeps the rules of configurations.
abbrev pub StagesAreLawful : Type 0
StagesAreLawful = (cells : List Cell) (start other : PlainConfig) → MayJoin cells start other → IsConfig (joined cells start other)

-- It says of each prefix what a stage says.
abbrev pub StagesAreMade : Type 0
StagesAreMade = (net : PlainNet) (cells : List Cell) (start other : PlainConfig) (p : PlainPrefix) → MayJoin cells start other → IsPrefix p → IsStage net p start other (joined cells start other)

-- What serves for a stage with the starts of the one serves, turned round, for a stage with the starts of the other.
abbrev pub CellsTurn : Type 0
CellsTurn = (cells : List Cell) (start other : PlainConfig) → MayJoin cells start other → MayJoin (turned cells) other start
