use Rattle.std.proofs.Common.{◌++◌, ◌∙◌, List, ℕ, ap, get_or}
use Rattle.std.proofs.lemmas.List.{get_or_default}
use Rattle.std.proofs.lemmas.Result.{on_ok_weaker}
use Rattle.serde_json.specs.Written.{compact_text}
use Rattle.evidence_text.specs.Text.{step_data}
use Rattle.evidence_text.proofs.Items.{array_written, one_more}
use Rattle.evidence_text.proofs.print.push_steps.Goals as goal

pub loop-i-preserved : goal.loop-i-preserved
loop-i-preserved c =
    let steps = c.args.steps.now in
    let step = get_or steps c.loop-i.i (0, 0) in
    one_more step_data steps c.loop-i.i step c.loop-i-test.true (get_or_default steps c.loop-i.i (0, 0) step c.loop-i-test.true) c.loop-i.text.items c.push_numbers.new.text.items _
    (c.in_ok-push_numbers.ensures.text ∙ ap (λ (t : List ℕ). t ++ compact_text (step_data step)) c.in_ok-push_comma.ensures) c.loop-i.invariant

pub returns : goal.returns
returns c =
    on_ok_weaker c.push_bytes-2.result
    (array_written step_data c.args.steps.now c.loop-i.i c.loop-i-test.false c.args.text.now.items c.push_bytes.new.text.items c.loop-i.text.items _ c.in_ok-push_bytes.ensures c.loop-i.invariant)
    c.push_bytes-2.ensures
