use Rattle.std.proofs.Common.{◌<◌, ap, sym, subst, ◌∙◌, arith, length, false}
use Rattle.std.proofs.lemmas.List.{get_or_read}
use Rattle.graph_base.specs.Preferences.{number_in}
use Rattle.preference_check.specs.FirstPair.{IsFirstOrNone}
use Rattle.preference_check.specs.Offers.{KeepsOffers}
use Rattle.preference_check.proofs.FirstPairs.{first_of_both, keeps_more}
use Rattle.preference_check.proofs.faults.first_pair.Goals as goal
use Rattle.preference_check.proofs.faults.first_pair.Goals.{then-not-index+in_ok-second+in_default, else-not-index}

pub returns-in-Some : goal.returns-in-Some
returns-in-Some c =
    let Keeps = KeepsOffers c.args.net.now c.args.graph.now (number_in c.args.numbers.now) c.args.offers.now in
    first_of_both Keeps c.loop-first.first c.in-Some.second c.loop-first.invariant (subst (IsFirstOrNone (Keeps c.loop-first.first)) c.in-Some.is c.in_ok-second.ensures)

pub loop-first-preserved : goal.loop-first-preserved
loop-first-preserved c =
    let Keeps = KeepsOffers c.args.net.now c.args.graph.now (number_in c.args.numbers.now) c.args.offers.now in
    let first = c.loop-first.first in
    let matching = c.in_ok-matching.matching.items in
    let within : first < length matching = omega (arith, c.loop-first-test.true, c.in_ok-matching.ensures.size, ap length c.nodes.ensures.nodes) in
    keeps_more Keeps first c.loop-first.invariant (elim c.if-not-index.branch [
      | then-not-index+in_ok-second+in_default w ↦ subst (IsFirstOrNone (Keeps first)) w.in_default.is w.in_ok-second.ensures
      | else-not-index w ↦ λ q. c.in_ok-matching.ensures.marks first q (sym (get_or_read matching first _ within c.index.ensures false) ∙ w.if-not-index.false)
    ])

pub returns : goal.returns
returns c = λ m n over. c.loop-first.invariant m n (omega (arith, over.better, c.loop-first-test.false, ap length c.nodes.ensures.nodes)) over
