use Rattle.std.proofs.Common.{◌≡◌, ℕ, get_or, length, take, if◌then◌else◌}
use Rattle.reach_prune.specs.Searches.{is_among}
use Rattle.node_quotient.proofs.partition.set_each.Given as goal

abbrev pub invariant-loop-place : goal.invariant-loop-place
invariant-loop-place g l = record {
  size : length l.items.items ≡ length l.initial.items.items;
  items : (d : g.row.T.Denot) (n : ℕ) → get_or l.items.items n d ≡ (if is_among (take l.place-index l.places) n then l.item else get_or l.initial.items.items n d);
}
