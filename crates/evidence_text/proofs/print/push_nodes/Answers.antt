use Rattle.std.proofs.Common.{◌≡◌, ◌+◌, ◌<◌, ◌++◌, ◌∷◌, ◌∙◌, ap, arith, drop, get_or, length, refl, subst, sym}
use Rattle.std.specs.List.{AllByRecursion}
use Rattle.std.proofs.lemmas.List.{get_or_default, take_all}
use Rattle.net_base.specs.declared.numbers.Tag.{Tag}
use Rattle.serde_json.specs.Written.{compact_text}
use Rattle.json_values.proofs.ItemsRead.{drop_here}
use Rattle.evidence_text.specs.Text.{node_data, nodes_data}
use Rattle.evidence_text.specs.Writable.{HasShortRank, IsShort, IsShortTag}
use Rattle.evidence_text.proofs.Items.{on_ok, one_kept, rest_text, rest_text-cons}
use Rattle.evidence_text.proofs.print.push_nodes.Goals as goal

pub loop-i-preserved : goal.loop-i-preserved
loop-i-preserved c =
    let nodes = c.args.nodes.now in
    let numbers = c.args.numbers.now in
    let tags = c.args.tags.now in
    let i = c.loop-i.i in
    let none : Tag = record { asn = 0; value = 0 } in
    let node = c.index-nodes-i.result in
    let number = get_or numbers i 0 in
    let tag = get_or tags i none in
    let in_numbers : i < length numbers = omega (arith, c.loop-i-test.true, c.requires.numbers) in
    let in_tags : i < length tags = omega (arith, c.loop-i-test.true, c.requires.tags) in
    let number_is = get_or_default numbers i 0 number in_numbers in
    let tag_is = get_or_default tags i none tag in_tags in
    let said = node_data node number tag in
    let rest = nodes_data (drop (i + 1) nodes) (drop (i + 1) numbers) (drop (i + 1) tags) in
    let here : nodes_data (drop i nodes) (drop i numbers) (drop i tags) ≡ said ∷ rest =
    rw (drop_here nodes i node c.loop-i-test.true c.index-nodes-i.is, drop_here numbers i number in_numbers number_is, drop_here tags i tag in_tags tag_is) refl in (
      ap (λ t. t ++ rest_text (i + 1) rest) (c.in_ok-push_node.ensures.text ∙ ap (λ t. t ++ compact_text said) c.in_ok-push_comma.ensures)
          ∙ rest_text-cons i said rest c.loop-i.text.items
          ∙ ap (λ ds. c.loop-i.text.items ++ rest_text i ds) (sym here)
          ∙ c.loop-i.invariant.0,
      one_kept HasShortRank nodes i node c.loop-i-test.true c.index-nodes-i.is c.loop-i.invariant.1 c.in_ok-push_node.ensures.rules.0,
      one_kept IsShort numbers i number in_numbers number_is c.loop-i.invariant.2 c.in_ok-push_node.ensures.rules.1,
      one_kept IsShortTag tags i tag in_tags tag_is c.loop-i.invariant.3 c.in_ok-push_node.ensures.rules.2,
    )

pub returns-clause-ranks : goal.returns-clause-ranks
returns-clause-ranks c =
    on_ok _ c.push_bytes-2.result (subst (AllByRecursion HasShortRank) (take_all c.loop-i.i c.args.nodes.now c.loop-i-test.false) c.loop-i.invariant.1)

pub returns-clause-numbers : goal.returns-clause-numbers
returns-clause-numbers c =
    let all = take_all c.loop-i.i c.args.numbers.now (omega (arith, c.loop-i-test.false, c.requires.numbers)) in
    on_ok _ c.push_bytes-2.result (subst (AllByRecursion IsShort) all c.loop-i.invariant.2)

pub returns-clause-tags : goal.returns-clause-tags
returns-clause-tags c =
    let all = take_all c.loop-i.i c.args.tags.now (omega (arith, c.loop-i-test.false, c.requires.tags)) in
    on_ok _ c.push_bytes-2.result (subst (AllByRecursion IsShortTag) all c.loop-i.invariant.3)
