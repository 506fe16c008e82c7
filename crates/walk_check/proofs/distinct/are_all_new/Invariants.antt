use Rattle.std.proofs.Common.{◌≡◌, take}
use Rattle.std.specs.List.{IsDistinct}
use Rattle.graph_base.specs.Rules.{same_pair}
use Rattle.walk_check.proofs.distinct.are_all_new.Given as goal

abbrev pub invariant-loop-key : goal.invariant-loop-key
invariant-loop-key l = record {
  keys : l.seen.keys ≡ take l.key-index l.keys;
  apart : IsDistinct same_pair (take l.key-index l.keys);
}
