use Rattle.std.proofs.Common.{◌++◌, ◌∙◌, ap, arith}
use Rattle.std.specs.Fmt.{decimal}
use Rattle.std.proofs.lemmas.Result.{on_ok_weaker}
use Rattle.evidence_text.proofs.Items.{on_ok}
use Rattle.evidence_text.proofs.print.push_short.Goals as goal

pub returns-clause-text : goal.returns-clause-text
returns-clause-text c =
    on_ok_weaker c.push_number.result (λ pushed. pushed ∙ ap (λ n. c.args.text.now.items ++ decimal n) c.from.ensures) c.push_number.ensures

pub returns-clause-rules : goal.returns-clause-rules
returns-clause-rules c = on_ok _ c.push_number.result (omega (arith, c.ranges.number))
