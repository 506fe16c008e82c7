use Rattle.std.proofs.Common.{◌+◌, ◌≤◌, length}
use Rattle.config_lines.proofs.LineByLine.{IsTaken}
use Rattle.map_reader.specs.MapsReading.{opening}
use Rattle.map_reader.specs.MapsRead.{with_line}
use Rattle.map_reader.proofs.read.read_behind_heading.Given as goal

abbrev pub invariant-loop-line : goal.invariant-loop-line
invariant-loop-line l = record {
  lists : length l.reading.lists + 2 ≤ l.number;
  so_far : IsTaken with_line 2 opening l.bytes l.number l.reading l.rest;
}

abbrev pub decreases-loop-line : goal.decreases-loop-line
decreases-loop-line l = length l.rest
