use Rattle.std.proofs.Common.{◌+◌, length}
use Rattle.std.specs.Prelude.{is_some}
use Rattle.std.specs.List.{count_by}
use Rattle.settled_graph.proofs.Stages.{IsStage}
use Rattle.settled_graph.proofs.fronts.settle_graph.Given as goal

abbrev pub invariant-fronts : goal.invariant-fronts
invariant-fronts l = IsStage l.net l.graph l.numbers l.choosers l.routes.items l.wanted.items l.front.items

abbrev pub decreases-fronts : goal.decreases-fronts
decreases-fronts l = count_by is_some l.wanted.items + length l.front.items
