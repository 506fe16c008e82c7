use Rattle.std.proofs.Common.{◌≡◌, drop}
use Rattle.route_maps.specs.Maps.{permits}
use Rattle.route_maps.proofs.entries.permits.Given as goal

abbrev pub invariant-loop-line : goal.invariant-loop-line
invariant-loop-line l = permits l.lines l.prefix ≡ permits (drop l.line-index l.lines) l.prefix
