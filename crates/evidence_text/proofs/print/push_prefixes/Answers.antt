use Rattle.std.proofs.Common.{subst, ◌++◌, ◌∙◌, List, ℕ, ap, sym}
use Rattle.std.specs.List.{AllByRecursion}
use Rattle.std.proofs.lemmas.List.{take_all}
use Rattle.std.proofs.lemmas.Result.{on_ok_weaker}
use Rattle.serde_json.specs.Data.{Data}
use Rattle.serde_json.specs.Written.{compact_text}
use Rattle.json_values.specs.Json.{array_of}
use Rattle.net_base.specs.Prefixes.{IsPrefix}
use Rattle.evidence_text.proofs.Items.{on_ok, array_written, one_kept, one_more, prefix_data, texts-prefixes}
use Rattle.evidence_text.proofs.print.push_prefixes.Goals as goal

pub loop-i-preserved : goal.loop-i-preserved
loop-i-preserved c =
    let prefixes = c.args.prefixes.now in
    let prefix = c.index-prefixes-i.result in (
      one_more prefix_data prefixes c.loop-i.i prefix c.loop-i-test.true c.index-prefixes-i.is c.loop-i.text.items c.push_prefix_text.new.text.items _
          (c.in_ok-push_prefix_text.ensures.text ∙ ap (λ (t : List ℕ). t ++ compact_text (prefix_data prefix)) c.in_ok-push_comma.ensures) c.loop-i.invariant.0,
      one_kept IsPrefix prefixes c.loop-i.i prefix c.loop-i-test.true c.index-prefixes-i.is c.loop-i.invariant.1 c.push_prefix_text.ensures.rules,
    )

pub returns-clause-text : goal.returns-clause-text
returns-clause-text c =
    let prefixes = c.args.prefixes.now in
    on_ok_weaker c.push_bytes-2.result
    (λ last.
    array_written prefix_data prefixes c.loop-i.i c.loop-i-test.false c.args.text.now.items c.push_bytes.new.text.items c.loop-i.text.items _ c.in_ok-push_bytes.ensures c.loop-i.invariant.0 last
    ∙ ap (λ (ds : List Data). c.args.text.now.items ++ compact_text (array_of ds)) (sym (texts-prefixes prefixes)))
    c.push_bytes-2.ensures

pub returns-clause-rules : goal.returns-clause-rules
returns-clause-rules c =
    on_ok _ c.push_bytes-2.result (subst (AllByRecursion IsPrefix) (take_all c.loop-i.i c.args.prefixes.now c.loop-i-test.false) c.loop-i.invariant.1)
