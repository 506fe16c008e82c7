use Rattle.std.proofs.Common.{◌<◌, ℕ, IsTrue}
use Rattle.std.specs.Option.{IfSome}
use Rattle.relation_law.specs.Relations.{Pair}
use Rattle.relation_refute.specs.Cells.{are_parted}
use Rattle.state_simulation.specs.Looked.{shown}
use Rattle.relation_refute.proofs.Firsts.{IsFirstBelow}
use Rattle.relation_refute.proofs.parted.first_parted.Given as goal

abbrev pub invariant-loop-n : goal.invariant-loop-n
invariant-loop-n l = record {
  under : IfSome l.first (λ f. f < l.n);
  some : IfSome l.first (λ f. (m : ℕ) × Pair (shown l.maps.graph.now) m f × IsTrue (are_parted l.cells m f));
  least : IsFirstBelow l.maps.graph.now (λ f. (m : ℕ) × Pair (shown l.maps.graph.now) m f × IsTrue (are_parted l.cells m f)) l.n l.first;
}
