use Rattle.std.proofs.Common.{◌++◌, ◌∷◌, [], ◌∙◌, ap, map, subst}
use Rattle.std.specs.List.{AllByRecursion}
use Rattle.net_base.specs.Prefixes.{IsPrefix}
use Rattle.net_base.specs.Sets.{IsWords}
use Rattle.std.specs.Prelude.{codes}
use Rattle.std.proofs.lemmas.Result.{on_ok_weaker}
use Rattle.serde_json.specs.Data.{boolean}
use Rattle.serde_json.specs.Written.{compact_text}
use Rattle.json_values.specs.Json.{array_of, numbers_data, texts_data}
use Rattle.text_parts.specs.Texts.{prefix_text}
use Rattle.policy_base.specs.declared.case.Case.{Case}
use Rattle.graph_base.specs.Graphs.{IsGraph, PlainGraph}
use Rattle.evidence_text.specs.Text.{members, nodes_data}
use Rattle.evidence_text.specs.Writable.{HasShortRank, IsShort, IsShortTag}
use Rattle.list_law.proofs.Pieces.{written}
use Rattle.evidence_text.proofs.Items.{places_as}
use Rattle.evidence_text.proofs.print.push_places.Goals as goal

pub returns-clause-text : goal.returns-clause-text
returns-clause-text c =
    let of = c.case-of.ensures.case in
    let graph = c.graph.ensures.graph in
    let external = c.case-of.result.now.external in
    let nodes = c.nodes.result.now in
    let numbers = c.prefs.result.now in
    let tags = c.tags.result.now in
    let origins = members c.case-of.result.now.origins in
    let prefixes = c.as_slice.result.now in
    on_ok_weaker c.push_prefixes.result
    (λ last.
    written c.args.text.now.items
    ((codes "{\"external\":", c.push_bytes.new.text.items) ∷
    (compact_text (boolean external), c.push_truth.new.text.items) ∷
    (codes ",\"nodes\":", c.push_bytes-2.new.text.items) ∷
    (compact_text (array_of (nodes_data nodes numbers tags)), c.push_nodes.new.text.items) ∷
    (codes ",\"origins\":", c.push_bytes-3.new.text.items) ∷
    (compact_text (numbers_data origins), c.push_locations.new.text.items) ∷
    (codes ",\"prefixes\":", c.push_bytes-4.new.text.items) ∷
    (compact_text (texts_data (map prefix_text prefixes)), c.push_prefixes.new.text.items) ∷ []) (
      c.in_ok-push_bytes.ensures,
      (
        c.in_ok-push_truth.ensures,
        (c.in_ok-push_bytes-2.ensures, (c.in_ok-push_nodes.ensures.text, (c.in_ok-push_bytes-3.ensures, (c.in_ok-push_locations.ensures.text, (c.in_ok-push_bytes-4.ensures, (last, tt)))))),
      ),
    )
    ∙ ap (λ t. c.args.text.now.items ++ t)
    (places_as c.args.case.now external nodes numbers tags origins prefixes
    (ap (λ (k : Case). k.external) of) (c.nodes.ensures.nodes ∙ ap (λ (g : PlainGraph). g.nodes) graph) c.prefs.ensures c.tags.ensures
    (ap (λ (k : Case). members k.origins) of)
    (c.as_slice.ensures ∙ ap (λ (k : Case). k.prefixes) of)))
    c.push_prefixes.ensures.text

pub returns-clause-rules : goal.returns-clause-rules
returns-clause-rules c =
    let of = c.case-of.ensures.case in
    let graph = c.graph.ensures.graph in
    on_ok_weaker c.push_prefixes.result
    (λ prefixes. λ short. record {
      rules = c.case-of.ensures.rules;
      graph = subst IsGraph graph c.nodes.ensures.rules;
      origins = subst IsWords (ap (λ (k : Case). k.origins) of) c.in_ok-push_locations.ensures.rules;
      prefixes = subst (AllByRecursion IsPrefix) (c.as_slice.ensures ∙ ap (λ (k : Case). k.prefixes) of) prefixes;
      statement = short;
      ranks = subst (AllByRecursion HasShortRank) (c.nodes.ensures.nodes ∙ ap (λ (g : PlainGraph). g.nodes) graph) c.in_ok-push_nodes.ensures.ranks;
      numbers = subst (AllByRecursion IsShort) c.prefs.ensures c.in_ok-push_nodes.ensures.numbers;
      tags = subst (AllByRecursion IsShortTag) c.tags.ensures c.in_ok-push_nodes.ensures.tags;
    })
    c.push_prefixes.ensures.rules
