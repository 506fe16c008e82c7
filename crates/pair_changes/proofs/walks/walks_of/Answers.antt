use Rattle.std.proofs.Common.{◌≡◌, ◌∙◌, ◌+◌, ℕ, None, get_or, refl, subst, sym, take}
use Rattle.compare_base.specs.declared.rows.Row.{Row}
use Rattle.pair_changes.specs.Walks.{AreWalks, IsWalkFrom}
use Rattle.pair_changes.proofs.WalkLists.{get_or_within, walks_next}
use Rattle.pair_changes.proofs.walks.walks_of.Goals as goal

pub loop-place-preserved : goal.loop-place-preserved
loop-place-preserved c =
    let g = c.args.both.now.graph in
    let firsts = c.args.firsts.now in
    let peer = c.args.peer in
    let rows = c.args.rows.now in
    let i = c.loop-place.place in
    let walk = c.in_ok-walk_from.field-0 in
    let x = c.node_of-node.ensures in
    let row = x.0.row in
    let none : Row = record { old = None; new = None } in
    let read : row ≡ get_or rows i row = x.2 ∙ get_or_within rows i none row c.loop-place-test.true in
    subst (AreWalks g firsts peer (take (i + 1) rows)) (sym c.in_ok-push.ensures.ok)
    (walks_next g firsts peer rows i row c.loop-place.walks walk c.loop-place-test.true read c.loop-place.invariant
    (x.0, x.1, refl, subst (λ (n : ℕ). IsWalkFrom g peer n walk) (sym x.3) c.in_ok-walk_from.ensures))
