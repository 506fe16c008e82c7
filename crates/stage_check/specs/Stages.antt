-- The stages between two configurations.
use Rattle.config_base.specs.Configs.{PlainConfig}
use Rattle.stage_classes.specs.Cells.{cells, turned}
use Rattle.stage_maker.specs.Joined.{joined}
use Rattle.stage_check.specs.declared.which.Stage.{Stage}
use Rattle.stage_check.specs.declared.which.Stage.TheVariants.{One, Two}

-- Stage 1 has the lines of both and the starts of the old one, and stage 2 the lines of both and the starts of the new one.
unfoldable pub stage_of : Stage → PlainConfig → PlainConfig → PlainConfig
stage_of One old new = joined (cells old.classes new.classes) old new
stage_of Two old new = joined (turned (cells old.classes new.classes)) new old
