use Rattle.std.proofs.Common.{◌≡◌, Some, true, set, sym, ap, ◌∙◌, subst, arith}
use Rattle.std.proofs.lemmas.Bool.{both_ways}
use Rattle.graph_base.specs.Runs.{place_of}
use Rattle.graph_base.specs.Preferences.{number_in}
use Rattle.settled_graph.specs.Best.{entry_at}
use Rattle.settled_graph.specs.Offers.{AreLowest, is_lower}
use Rattle.settled_graph.proofs.Lowest.{lowest_kept, lowest_there, more, of_nodes_there}
use Rattle.settled_graph.proofs.Tables.{entry_read, entry_there, number_read, place_low}
use Rattle.settled_graph.proofs.offers.visit.Goals as goal
use Rattle.settled_graph.proofs.offers.visit.Goals.{else-waits_for-via-then-waits_for+else-comes_before, else-waits_for-via-else-waits_for}

pub comes_before-requires-clause-offer : goal.comes_before-requires-clause-offer
comes_before-requires-clause-offer c = λ o e.
    let low = place_low c.args.graph.now c.args.step.to c.requires.places c.requires.to in
    let read = entry_read c.args.offers.now.items c.number-at.result c.index.result.now (omega (arith, low, c.number-at.ensures, c.location.ensures, c.requires.size)) c.index.ensures in
    c.requires.nodes c.number-at.result o (sym read ∙ e)

pub returns-then-comes_before-clause-nodes : goal.returns-then-comes_before-clause-nodes
returns-then-comes_before-clause-nodes c =
    let g = c.args.graph.now in
    let low = place_low g c.args.step.to c.requires.places c.requires.to in
    of_nodes_there g c.args.offers.now.items c.number-at.result c.args.step.from c.args.step.to (omega (arith, low, c.number-at.ensures, c.location.ensures, c.requires.size))
    c.requires.from c.requires.nodes

pub returns-then-comes_before-clause-lowest : goal.returns-then-comes_before-clause-lowest
returns-then-comes_before-clause-lowest c = λ passes are.
    let net = c.args.net.now in
    let g = c.args.graph.now in
    let numbers = c.args.numbers.now in
    let wanted = c.args.wanted.now in
    let from = c.args.step.from in
    let to = c.args.step.to in
    let offers = c.args.offers.now.items in
    let at : c.number-at.result ≡ place_of g to = c.number-at.ensures ∙ c.location.ensures in
    let low = place_low g to c.requires.places c.requires.to in
    let read = entry_there g offers to c.number-at.result c.index.result.now c.requires.places c.requires.to c.requires.size at c.index.ensures in
    let wants : entry_at wanted (place_of g to) ≡ Some (number_in numbers to) = ap (entry_at wanted) (sym at) ∙ c.waits_for.ensures.0 c.if-waits_for.true ∙ ap Some (number_read numbers to) in
    let lower : is_lower net g from (entry_at offers (place_of g to)) ≡ true = ap (is_lower net g from) (sym read) ∙ sym c.comes_before.ensures ∙ c.if-comes_before.true in
    subst (λ l. AreLowest net g numbers wanted (more passes from to) (set offers l (Some c.args.step))) (sym at) (lowest_there net g numbers wanted passes from to offers wants lower low are)

pub returns-else-waits_for-clause-lowest : goal.returns-else-waits_for-clause-lowest
returns-else-waits_for-clause-lowest c = λ passes are.
    let net = c.args.net.now in
    let g = c.args.graph.now in
    let numbers = c.args.numbers.now in
    let wanted = c.args.wanted.now in
    let from = c.args.step.from in
    let to = c.args.step.to in
    let offers = c.args.offers.now.items in
    let at : c.number-at.result ≡ place_of g to = c.number-at.ensures ∙ c.location.ensures in
    lowest_kept net g numbers wanted passes from to offers (elim c.else-waits_for.branch [
      | else-waits_for-via-then-waits_for+else-comes_before w ↦ (λ (_ : entry_at wanted (place_of g to) ≡ Some (number_in numbers to)).
          let read = entry_there g offers to c.number-at.result w.index.result.now c.requires.places c.requires.to c.requires.size at w.index.ensures in
          ap (is_lower net g from) (sym read) ∙ sym w.comes_before.ensures ∙ w.if-comes_before.false)
      | else-waits_for-via-else-waits_for w ↦ (λ (wants : entry_at wanted (place_of g to) ≡ Some (number_in numbers to)).
          absurd (both_ways _ w.if-waits_for.false (c.waits_for.ensures.1 (ap (entry_at wanted) at ∙ wants ∙ ap Some (sym (number_read numbers to))))))
    ]) are
