use Rattle.map_reader.proofs.MapReadTexts.{what_is_read}
use Rattle.map_reader.proofs.MapTaken.{what_is_spelled}
use Rattle.map_reader.proofs.read.read_maps.Goals as goal

pub returns-clause-spells : goal.returns-clause-spells
returns-clause-spells c = what_is_read c.args.bytes.now c.read_text.result c.requires c.read_text.ensures

pub returns-clause-only : goal.returns-clause-only
returns-clause-only c = λ d s. what_is_spelled c.args.bytes.now d c.read_text.result c.requires s c.read_text.ensures
