use Rattle.std.proofs.Common.{◌≡◌, ◌+◌, ℕ, length, sym, ap, ◌∙◌, arith, subst}
use Rattle.std.specs.Prelude.{◌==◌, ◌||◌}
use Rattle.net_base.specs.declared.loc.LocSet.{LocSet}
use Rattle.net_base.specs.Sets.{holds}
use Rattle.whatif_report.specs.Changing.{AreBelow}
use Rattle.whatif_report.specs.Moves.{is_moved}
use Rattle.whatif_report.proofs.Collecting.{none_more, one_more}
use Rattle.whatif_report.proofs.moving.moved_routers.Goals as goal
use Rattle.whatif_report.proofs.moving.moved_routers.Goals.{then-is_moved, else-is_moved}

pub loop-place-preserved : goal.loop-place-preserved
loop-place-preserved c =
    let n = c.loop-place.place in
    let old = c.loop-place.moved in
    let test = is_moved c.args.cut.now c.args.before.now.routes c.args.after.now.routes in
    let asked = ap test (sym c.new-router.ensures) ∙ sym c.is_moved.ensures in
    elim c.if-is_moved.branch [
      | then-is_moved w ↦
          one_more test n old c.loop-place.invariant c.if-is_moved.moved (asked ∙ w.if-is_moved.true)
          (λ l. ap (λ (set : LocSet). holds set l) w.moved-is ∙ w.insert.ensures l ∙ ap (λ (k : ℕ). holds old l || l == k) c.new-router.ensures)
      | else-is_moved w ↦ subst (AreBelow test (n + 1)) (sym w.moved-is) (none_more test n old c.loop-place.invariant (asked ∙ w.if-is_moved.false))
    ]

pub returns : goal.returns
returns c = λ r low.
    let all : c.loop-place.place ≡ length c.args.net.now.routers = omega (arith, c.loop-place-test.false, c.loop-place.auto.place-end, ap length c.routers.ensures.routers) in
    c.loop-place.invariant.here r (omega (arith, low, all))
