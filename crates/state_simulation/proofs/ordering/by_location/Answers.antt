use Rattle.std.proofs.Common.{ap, ◌∙◌}
use Rattle.state_simulation.specs.Looked.{is_keyed}
use Rattle.state_simulation.proofs.Locating.{in_order}
use Rattle.state_simulation.proofs.ordering.by_location.Goals as goal

pub returns : goal.returns
returns c =
    in_order c.args.graph.now c.in_ok-keyed.keyed.items c.sort_unstable.new.self.items c.in_ok-order.order.items c.sort_unstable.ensures.permutation c.in_ok-keyed.ensures
    (λ n. c.in_ok-order.ensures n ∙ ap (λ l. is_keyed l n) c.deref.ensures.value)
