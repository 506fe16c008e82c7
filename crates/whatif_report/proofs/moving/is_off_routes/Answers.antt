use Rattle.std.proofs.Common.{◌≡◌, false, length, below_more, sym, ap, ◌∙◌, arith}
use Rattle.whatif_report.specs.Cutting.{passes_over}
use Rattle.whatif_report.proofs.Staying.{off_routes}
use Rattle.whatif_report.proofs.moving.is_off_routes.Goals as goal

pub loop-place-preserved : goal.loop-place-preserved
loop-place-preserved c =
    let test = passes_over c.args.cut.now c.args.outcome.now.routes in
    below_more (λ r. test r ≡ false) c.loop-place.place c.loop-place.invariant (ap test (sym c.new.ensures) ∙ sym c.passes.ensures ∙ c.if-passes.false)

pub returns : goal.returns
returns c = λ h.
    let all : c.loop-place.place ≡ length c.args.net.now.routers = omega (arith, c.loop-place-test.false, c.loop-place.auto.place-end, ap length c.routers.ensures.routers) in
    off_routes c.args.net.now c.args.outcome.now.routes c.args.cut.now (λ r low. c.loop-place.invariant r (omega (arith, low, all)))
