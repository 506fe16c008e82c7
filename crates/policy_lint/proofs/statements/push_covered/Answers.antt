use Rattle.std.proofs.Common.{◌≡◌, ◌+◌, ◌-◌, refl, ap, arith}
use Rattle.policy_lint.specs.declared.finding.Finding.TheVariants.{Covered}
use Rattle.policy_lint.specs.Told.{marked}
use Rattle.policy_lint.proofs.Telling.{told_next}
use Rattle.policy_lint.proofs.statements.push_covered.Goals as goal

pub loop-place-preserved : goal.loop-place-preserved
loop-place-preserved c =
    let place = c.loop-place.place in
    let covered = c.args.covered.now in
    let here : place ≡ place + 1 - 1 = omega arith in
    told_next Covered (λ n. marked covered (n - 1)) place (place + 1) c.args.findings.now.items c.loop-place.findings.items c.push_if.new.findings.items (marked covered place) refl
    c.loop-place.invariant (ap (marked covered) here) c.in_ok-push_if.ensures
