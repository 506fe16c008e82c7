use Rattle.std.proofs.Common.{◌++◌, ap, sym, ◌∙◌, append_assoc, append-nil}
use Rattle.topology.proofs.links.in_order.Goals as goal

pub loop-link-preserved : goal.loop-link-preserved
loop-link-preserved c =
    rw c.in_ok-push.ensures.items
    (append_assoc c.loop-link.all.items _ c.next.new.self ∙ ap (λ rest. c.loop-link.all.items ++ rest) (sym c.in-Some.ensures.steps) ∙ c.loop-link.invariant)

pub returns-clause-items : goal.returns-clause-items
returns-clause-items c = sym (append-nil c.loop-link.all.items) ∙ rw c.in-None.ensures.steps.0 at c.loop-link.invariant
