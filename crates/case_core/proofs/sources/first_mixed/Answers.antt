use Rattle.std.proofs.Common.{◌∙◌}
use Rattle.case_core.proofs.Table.{mixed_found}
use Rattle.case_core.proofs.sources.first_mixed.Goals as goal

pub returns-in-Some : goal.returns-in-Some
returns-in-Some c =
    mixed_found c.args.table.now c.loop-i.i c.in-Some.mixed c.loop-i.invariant c.loop-i-test.true
    (c.in-Some.ensures.0 ∙ c.new.ensures, c.in-Some.ensures.1, c.in-Some.ensures.2)
