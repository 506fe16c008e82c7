use Rattle.std.proofs.Common.{◌≡◌, drop}
use Rattle.table_reader.specs.Rules.{at_holders}
use Rattle.table_reader.proofs.judge.begin_at_holders.Given as goal

abbrev pub invariant-loop-i : goal.invariant-loop-i
invariant-loop-i l = at_holders l.i (drop l.i l.routes) ≡ at_holders 0 l.routes
