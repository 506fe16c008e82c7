use Rattle.std.proofs.Common.{◌++◌, ◌∙◌, List, ℕ, ap, map, subst}
use Rattle.std.specs.List.{AllByRecursion}
use Rattle.std.specs.Prelude.{codes}
use Rattle.evidence_base.specs.Made.{PlainCaseEvidence}
use Rattle.serde_json.specs.Written.{compact_text}
use Rattle.json_values.specs.Json.{array_of}
use Rattle.evidence_text.specs.Text.{case_data}
use Rattle.evidence_text.specs.Spelled.{spelled}
use Rattle.evidence_text.specs.Writable.{IsWritable}
use Rattle.evidence_text.proofs.Items.{whole_pushed}
use Rattle.evidence_text.proofs.Rewritten.{read_again}
use Rattle.evidence_text.proofs.print.print_evidence.Goals as goal

pub returns : goal.returns
returns c =
    let text = whole_pushed c.args.evidence.now.cases c.push_bytes.new.text.items c.push_cases.new.text.items c.push_bytes-2.new.text.items
    (c.in_ok-push_bytes.ensures ∙ ap (λ (t : List ℕ). t ++ codes "{\"cases\":") c.in_ok-text.ensures.items)
    (c.in_ok-push_cases.ensures.text ∙ ap (λ (cs : List PlainCaseEvidence). c.push_bytes.new.text.items ++ compact_text (array_of (map case_data cs))) c.as_slice-cases.ensures)
    c.in_ok-push_bytes-2.ensures in
    record {
      text = text;
      read = ap spelled text ∙ read_again c.args.evidence.now.cases (subst (AllByRecursion IsWritable) c.as_slice-cases.ensures c.in_ok-push_cases.ensures.rules);
    }
