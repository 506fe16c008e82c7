use Rattle.std.proofs.Common.{◌≡◌, ◌+◌, suc, drop, sym, ap, ◌∙◌, arith}
use Rattle.std.specs.List.{position_or_len}
use Rattle.promises_report.specs.Groups.{fits}
use Rattle.promises_report.specs.declared.group.Group.{Group}
use Rattle.promises_report.proofs.Joining.{position_here, position_next}
use Rattle.promises_report.proofs.group.place_for.Goals as goal

pub loop-place-preserved : goal.loop-place-preserved
loop-place-preserved c =
    let x = c.args.group.now in
    let at = position_next (λ g. fits g x) c.args.groups.now c.loop-place.place c.index-groups-place.result c.loop-place-test.true
    (ap (λ (g : Group). fits g x) (sym c.index-groups-place.is) ∙ sym c.fits.ensures ∙ c.if-fits.false) in
    let next : suc c.loop-place.place ≡ c.loop-place.place + 1 = omega arith in
    let after = ap (λ n. position_or_len (λ g. fits g x) (drop n c.args.groups.now)) next in
    omega (arith, c.loop-place.invariant, at, after)

pub returns-then-fits : goal.returns-then-fits
returns-then-fits c =
    let x = c.args.group.now in
    let at = position_here (λ g. fits g x) c.args.groups.now c.loop-place.place c.index-groups-place.result c.loop-place-test.true
    (ap (λ (g : Group). fits g x) (sym c.index-groups-place.is) ∙ sym c.fits.ensures ∙ c.if-fits.true) in
    omega (arith, c.loop-place.invariant, at)
