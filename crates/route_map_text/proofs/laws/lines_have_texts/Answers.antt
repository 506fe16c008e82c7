use Rattle.route_map_text.proofs.MapForms.{map_lines_written}
use Rattle.route_map_text.proofs.laws.lines_have_texts.Goals as goal

pub returns : goal.returns
returns c = map_lines_written
