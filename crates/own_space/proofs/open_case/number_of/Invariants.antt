use Rattle.std.proofs.Common.{◌≡◌, drop}
use Rattle.own_space.specs.Open.{number_of}
use Rattle.own_space.proofs.open_case.number_of.Given as goal

abbrev pub invariant-loop-case : goal.invariant-loop-case
invariant-loop-case l = number_of l.cases l.statement ≡ number_of (drop l.case-index l.cases) l.statement
