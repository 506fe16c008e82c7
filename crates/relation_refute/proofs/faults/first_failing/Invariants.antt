use Rattle.std.proofs.Common.{◌≡◌, ◌<◌, true, length, take}
use Rattle.std.specs.Option.{IfSome}
use Rattle.std.specs.Prelude.{is_some}
use Rattle.bit_rows.specs.Tables.{has_at}
use Rattle.graph_base.specs.Runs.{has_step}
use Rattle.relation_law.specs.Reasons.{reason_at}
use Rattle.relation_refute.specs.Cells.{went}
use Rattle.state_simulation.specs.Looked.{shown}
use Rattle.relation_refute.proofs.Firsts.{IsFirstOf}
use Rattle.relation_refute.proofs.faults.first_failing.Given as goal

abbrev pub invariant-loop-t : goal.invariant-loop-t
invariant-loop-t l = record {
  within : IfSome l.first (λ f. f < length l.maps.graph.now.nodes);
  some : IfSome l.first (λ f. (has_step l.maps.graph.now l.n f ≡ true) × (is_some (reason_at (shown l.maps.graph.now) (has_at l.fallen.onwards) (went l.fallen l.round) l.m f) ≡ true));
  least : IsFirstOf l.maps.graph.now (λ u. is_some (reason_at (shown l.maps.graph.now) (has_at l.fallen.onwards) (went l.fallen l.round) l.m u)) (take l.t-index l.t-items) l.first;
}
