use Rattle.std.proofs.Common.{◌≡◌, false, take}
use Rattle.std.specs.Prelude.{◌==◌}
use Rattle.std.specs.List.{list_any}
use Rattle.graph_base.specs.Runs.{place_of}
use Rattle.cut_ranks.proofs.ranks.rank_at_peer.Given as goal

abbrev pub invariant-loop-next : goal.invariant-loop-next
invariant-loop-next l = list_any (λ n. place_of l.graph n == l.peer) (take l.next-index l.next-items) ≡ false
