use Rattle.std.proofs.Common.{◌≤◌, length}
use Rattle.policy_grammar.proofs.Fine.{IsSofar}
use Rattle.policy_grammar.proofs.deep.is_fine.Given as goal

abbrev pub invariant-loop-rest : goal.invariant-loop-rest
invariant-loop-rest l = record {
  so_far : IsSofar l.text l.count l.rest;
  fits : l.count ≤ 64;
}

abbrev pub decreases-loop-rest : goal.decreases-loop-rest
decreases-loop-rest l = length l.rest
