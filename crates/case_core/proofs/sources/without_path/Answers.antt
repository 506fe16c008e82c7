use Rattle.std.proofs.Common.{◌≡◌, length, Some, true, false, ap, sym, ◌∙◌}
use Rattle.net_base.specs.Sets.{holds}
use Rattle.case_core.specs.Firsts.{lacks_path}
use Rattle.case_core.specs.Sources.{names}
use Rattle.case_core.proofs.Least.{least_found}
use Rattle.case_core.proofs.Table.{lacks_here}
use Rattle.case_core.proofs.sources.without_path.Goals as goal

pub returns-then-is_none : goal.returns-then-is_none
returns-then-is_none c =
    let named : names c.args.from.now c.loop-i.i ≡ true = ap (names c.args.from.now) (sym c.new-at.ensures) ∙ sym c.names.ensures ∙ c.if-names.true in
    let outside : holds c.args.origins.now c.loop-i.i ≡ false = ap (holds c.args.origins.now) (sym c.new-at.ensures) ∙ sym c.if-not-holds.ensures in
    let lacks = lacks_here c.args.from.now c.args.origins.now c.args.table.now c.loop-i.i named outside c.if-is_none.ensures in
    ap Some c.new-at.ensures ∙ sym (least_found (length c.args.table.now) (lacks_path c.args.from.now c.args.origins.now c.args.table.now) c.loop-i.i c.loop-i.invariant lacks c.loop-i-test.true)
