use Rattle.route_map_text.proofs.MapWritten.{map_lines_read}
use Rattle.route_map_text.proofs.laws.texts_are_lines.Goals as goal

pub returns : goal.returns
returns c = λ count l few is. (map_lines_read count l few is).0
