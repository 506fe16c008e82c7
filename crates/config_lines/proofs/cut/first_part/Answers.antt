use Rattle.config_lines.proofs.CutParts.{split_there, split_nowhere}
use Rattle.config_lines.proofs.cut.first_part.Goals as goal

pub returns-in-Some : goal.returns-in-Some
returns-in-Some c = split_there c.args.sign c.args.bytes.now c.in-Some.part.now c.in-Some.rest.now c.in-Some.ensures

pub returns-in-None : goal.returns-in-None
returns-in-None c = split_nowhere c.args.sign c.args.bytes.now c.in-None.ensures
