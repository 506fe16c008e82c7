use Rattle.map_reader.proofs.MapCuts.{line_placed}
use Rattle.map_reader.proofs.read.take_line.Goals as goal

pub returns : goal.returns
returns c =
    rw (line_placed c.args.number c.args.reading c.in_ok-reading.reading c.args.bytes.now c.as_slice.result.now c.in_ok-reading.line c.line_at.result
    c.as_slice.ensures c.line_at.ensures c.in_ok-reading.ensures.made c.in_ok-reading.ensures.value)
    c.after_at.ensures
