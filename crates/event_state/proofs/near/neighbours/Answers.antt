use Rattle.std.proofs.Common.{◌≡◌, ◌++◌, ◌∷◌, ℕ, List, [], ap, sym, ◌∙◌}
use Rattle.net_base.specs.Network.{linked}
use Rattle.net_base.proofs.NumbersBelow.{filter_kept, filter_left}
use Rattle.event_state.proofs.near.neighbours.Goals as goal
use Rattle.event_state.proofs.near.neighbours.Goals.{then-linked+in_ok-push, else-linked}

pub loop-number-preserved : goal.loop-number-preserved
loop-number-preserved c =
    let p = linked c.args.net.now c.args.at in
    let n = c.loop-number.number in
    let here : p n ≡ c.linked.result = ap p (sym c.new-other.ensures) ∙ sym c.linked.ensures in
    elim c.if-linked.branch [
      | then-linked+in_ok-push w ↦
          w.found-is
          ∙ w.in_ok-push.ensures.ok
          ∙ ap (λ x. c.loop-number.found ++ x ∷ []) c.new-other.ensures
          ∙ ap (λ (ns : List ℕ). ns ++ n ∷ []) c.loop-number.invariant
          ∙ sym (filter_kept p n (here ∙ w.if-linked.true))
      | else-linked w ↦ w.found-is ∙ c.loop-number.invariant ∙ sym (filter_left p n (here ∙ w.if-linked.false))
    ]
