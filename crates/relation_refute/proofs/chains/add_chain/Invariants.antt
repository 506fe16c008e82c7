use Rattle.std.proofs.Common.{ℕ}
use Rattle.std.specs.Option.{option_map_or}
use Rattle.relation_refute.specs.Cells.{round_in}
use Rattle.relation_refute.proofs.Linking.{IsLinked}
use Rattle.relation_refute.proofs.chains.add_chain.Given as goal

abbrev pub invariant-chain : goal.invariant-chain
invariant-chain l = IsLinked l.maps.graph.now l.claimed l.fallen l.m l.n l.initial.lines.items l.lines.items l.next

abbrev pub decreases-chain : goal.decreases-chain
decreases-chain l = option_map_or (λ (x : ℕ × ℕ). round_in l.fallen.cells x.0 x.1) l.next 0
