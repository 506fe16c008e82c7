use Rattle.std.proofs.Common.{◌≡◌, ◌∙◌}
use Rattle.class_lines.specs.Tables.{by_class, class_in}
use Rattle.stage_check.specs.Verdicts.{of_cells}
use Rattle.stage_check.proofs.Judged.{alike_tables, weaker}
use Rattle.stage_check.proofs.judging.tables_verdict.Goals as goal

pub returns : goal.returns
returns c =
    let one = class_in c.in_ok-new.field-0 in
    let two = class_in c.in_ok-new-2.field-0 in
    weaker (λ v. v ≡ of_cells one two c.args.cells.now) (λ v. v ≡ of_cells (by_class c.args.old.now) (by_class c.args.new.now) c.args.cells.now) c.cells_verdict.result
    (λ v is. is ∙ alike_tables one two (by_class c.args.old.now) (by_class c.args.new.now) c.args.cells.now c.in_ok-new.ensures c.in_ok-new-2.ensures) c.cells_verdict.ensures
