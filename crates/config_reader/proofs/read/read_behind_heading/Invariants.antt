use Rattle.std.proofs.Common.{◌+◌, ◌≤◌, length}
use Rattle.config_reader.specs.Reading.{opening}
use Rattle.config_lines.proofs.LineByLine.{IsTaken}
use Rattle.config_reader.specs.Text.{with_line}
use Rattle.config_reader.proofs.read.read_behind_heading.Given as goal

abbrev pub invariant-loop-line : goal.invariant-loop-line
invariant-loop-line l = record {
  classes : length l.reading.classes + 2 ≤ l.number;
  so_far : IsTaken (with_line l.edition) 2 opening l.bytes l.number l.reading l.rest;
}

abbrev pub decreases-loop-line : goal.decreases-loop-line
decreases-loop-line l = length l.rest
