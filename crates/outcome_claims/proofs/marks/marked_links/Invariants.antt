use Rattle.std.proofs.Common.{◌≡◌, take}
use Rattle.std.specs.List.{items_where_true}
use Rattle.outcome_claims.proofs.marks.marked_links.Given as goal

abbrev pub invariant-loop-place : goal.invariant-loop-place
invariant-loop-place l = l.links ≡ items_where_true (take l.place l.marks) l.net.links
