use Rattle.std.proofs.Common.{◌+◌, refl}
use Rattle.std.specs.Prelude.{not}
use Rattle.policy_lint.specs.declared.finding.Finding.TheVariants.{Idle}
use Rattle.policy_lint.specs.Told.{marked}
use Rattle.policy_lint.proofs.Telling.{told_next}
use Rattle.policy_lint.proofs.statements.push_idle.Goals as goal

pub loop-place-preserved : goal.loop-place-preserved
loop-place-preserved c =
    let place = c.loop-place.place in
    let have = c.args.have.now in
    told_next Idle (λ n. not (marked have n)) place (place + 1) c.args.findings.now.items c.loop-place.findings.items c.push_if.new.findings.items (not (marked have (place + 1))) refl
    c.loop-place.invariant refl c.in_ok-push_if.ensures
