use Rattle.std.proofs.Common.{◌+◌, refl, ap}
use Rattle.std.specs.Prelude.{not}
use Rattle.bit_rows.specs.Tables.{has_at}
use Rattle.policy_lint.specs.declared.finding.Finding.TheVariants.{Unreached}
use Rattle.policy_lint.proofs.Telling.{told_next}
use Rattle.policy_lint.proofs.statements.push_unreached_of.Goals as goal

pub loop-place-preserved : goal.loop-place-preserved
loop-place-preserved c =
    let place = c.loop-place.place in
    told_next (Unreached c.args.number) (λ k. not (has_at c.args.ranks.now c.args.number k)) place (place + 1) c.args.findings.now.items c.loop-place.findings.items c.push_if.new.findings.items
    (not c.get-is_reached.result) refl c.loop-place.invariant (ap not c.get-is_reached.ensures) c.in_ok-push_if.ensures
