use Rattle.std.proofs.Common.{◌++◌, ◌∙◌, List, ℕ, ap, arith, get_or}
use Rattle.std.specs.Fmt.{decimal}
use Rattle.std.proofs.lemmas.List.{get_or_default}
use Rattle.std.proofs.lemmas.Result.{on_ok_weaker}
use Rattle.serde_json.specs.Data.{number, unsigned}
use Rattle.evidence_text.proofs.Items.{all_short, array_written, on_ok, one_more}
use Rattle.evidence_text.proofs.print.push_numbers.Goals as goal

pub loop-i-preserved : goal.loop-i-preserved
loop-i-preserved c =
    let numbers = c.args.numbers.now in
    let n = get_or numbers c.loop-i.i 0 in
    one_more (λ k. number (unsigned k)) numbers c.loop-i.i n c.loop-i-test.true (get_or_default numbers c.loop-i.i 0 n c.loop-i-test.true) c.loop-i.text.items c.push_short.new.text.items _
    (c.in_ok-push_short.ensures.text ∙ ap (λ (t : List ℕ). t ++ decimal n) c.in_ok-push_comma.ensures) c.loop-i.invariant

pub returns-clause-text : goal.returns-clause-text
returns-clause-text c =
    on_ok_weaker c.push_bytes-2.result
    (array_written (λ k. number (unsigned k)) c.args.numbers.now c.loop-i.i c.loop-i-test.false c.args.text.now.items c.push_bytes.new.text.items c.loop-i.text.items _
    c.in_ok-push_bytes.ensures c.loop-i.invariant)
    c.push_bytes-2.ensures

pub returns-clause-rules : goal.returns-clause-rules
returns-clause-rules c = on_ok _ c.push_bytes-2.result (all_short c.args.numbers.now (λ i. omega (arith, c.type_inv.numbers i)))
