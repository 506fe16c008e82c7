use Rattle.std.proofs.Common.{◌++◌, ◌∷◌, [], ◌∙◌, ap, map, subst}
use Rattle.std.specs.Prelude.{codes}
use Rattle.std.specs.Fmt.{decimal}
use Rattle.std.proofs.lemmas.Result.{on_ok_weaker}
use Rattle.serde_json.specs.Written.{compact_text}
use Rattle.json_values.specs.Json.{array_of, numbers_data}
use Rattle.policy_base.specs.declared.case.Case.{Case}
use Rattle.graph_base.specs.Graphs.{PlainGraph}
use Rattle.evidence_text.specs.Text.{step_data}
use Rattle.evidence_text.specs.Writable.{IsShort}
use Rattle.list_law.proofs.Pieces.{written}
use Rattle.evidence_text.proofs.Items.{on_ok, ways_as}
use Rattle.evidence_text.proofs.print.push_ways.Goals as goal

pub returns-clause-text : goal.returns-clause-text
returns-clause-text c =
    let of = c.case.ensures.case in
    let graph = c.graph-graph.ensures.graph in
    let starts = c.starts.result.now in
    let statement = c.case.result.now.statement in
    let steps = c.steps.result.now in
    on_ok_weaker c.push_bytes-4.result
    (λ last.
    written c.args.text.now.items
    ((codes ",\"starts\":", c.push_bytes.new.text.items) ∷
    (compact_text (numbers_data starts), c.push_numbers.new.text.items) ∷
    (codes ",\"statement\":", c.push_bytes-2.new.text.items) ∷
    (decimal statement, c.push_short.new.text.items) ∷
    (codes ",\"steps\":", c.push_bytes-3.new.text.items) ∷
    (compact_text (array_of (map step_data steps)), c.push_steps.new.text.items) ∷
    (codes "}", c.push_bytes-4.new.text.items) ∷ []) (
      c.in_ok-push_bytes.ensures,
      (c.in_ok-push_numbers.ensures.text, (c.in_ok-push_bytes-2.ensures, (c.in_ok-push_short.ensures.text, (c.in_ok-push_bytes-3.ensures, (c.in_ok-push_steps.ensures, (last, tt)))))),
    )
    ∙ ap (λ t. c.args.text.now.items ++ t)
    (ways_as c.args.case.now starts statement steps (c.starts.ensures.starts ∙ ap (λ (g : PlainGraph). g.starts) graph)
    (ap (λ (k : Case). k.statement) of) (c.steps.ensures.steps ∙ ap (λ (g : PlainGraph). g.steps) graph)))
    c.push_bytes-4.ensures

pub returns-clause-rules : goal.returns-clause-rules
returns-clause-rules c = on_ok _ c.push_bytes-4.result (subst IsShort (ap (λ (k : Case). k.statement) c.case.ensures.case) c.in_ok-push_short.ensures.rules)
