use Rattle.std.proofs.Common.{subst, ◌++◌, ◌∙◌, List, ℕ, ap}
use Rattle.std.specs.List.{AllByRecursion}
use Rattle.std.proofs.lemmas.List.{take_all}
use Rattle.std.proofs.lemmas.Result.{on_ok_weaker}
use Rattle.serde_json.specs.Written.{compact_text}
use Rattle.evidence_text.specs.Text.{case_data}
use Rattle.evidence_text.specs.Writable.{IsWritable}
use Rattle.evidence_text.proofs.Items.{on_ok, array_written, one_kept, one_more}
use Rattle.evidence_text.proofs.print.push_cases.Goals as goal

pub loop-i-preserved : goal.loop-i-preserved
loop-i-preserved c =
    let cases = c.args.cases.now in
    let case = c.index-cases-i.result in (
      one_more case_data cases c.loop-i.i case c.loop-i-test.true c.index-cases-i.is c.loop-i.text.items c.push_case.new.text.items _
          (c.in_ok-push_case.ensures.text ∙ ap (λ (t : List ℕ). t ++ compact_text (case_data case)) c.in_ok-push_comma.ensures) c.loop-i.invariant.0,
      one_kept IsWritable cases c.loop-i.i case c.loop-i-test.true c.index-cases-i.is c.loop-i.invariant.1 c.in_ok-push_case.ensures.rules,
    )

pub returns-clause-text : goal.returns-clause-text
returns-clause-text c =
    on_ok_weaker c.push_bytes-2.result
    (array_written case_data c.args.cases.now c.loop-i.i c.loop-i-test.false c.args.text.now.items c.push_bytes.new.text.items c.loop-i.text.items _ c.in_ok-push_bytes.ensures c.loop-i.invariant.0)
    c.push_bytes-2.ensures

pub returns-clause-rules : goal.returns-clause-rules
returns-clause-rules c =
    on_ok _ c.push_bytes-2.result (subst (AllByRecursion IsWritable) (take_all c.loop-i.i c.args.cases.now c.loop-i-test.false) c.loop-i.invariant.1)
