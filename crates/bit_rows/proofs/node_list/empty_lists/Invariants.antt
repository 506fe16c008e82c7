use Rattle.std.proofs.Common.{◌≡◌, [], replicate}
use Rattle.bit_rows.proofs.node_list.empty_lists.Given as goal

abbrev pub invariant-loop : goal.invariant-loop
invariant-loop l = l.lists.items ≡ replicate l.counter []
