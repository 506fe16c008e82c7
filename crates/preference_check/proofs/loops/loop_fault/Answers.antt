use Rattle.std.proofs.Common.{◌<◌, ap, sym, subst, ◌∙◌, arith, length, false}
use Rattle.std.proofs.lemmas.List.{get_or_read}
use Rattle.graph_base.specs.Rules.{KeepsLoop}
use Rattle.graph_base.specs.Preferences.{number_in}
use Rattle.preference_check.specs.FirstPair.{IsFirstOrNone}
use Rattle.preference_check.proofs.FirstPairs.{first_of_both, keeps_more}
use Rattle.preference_check.proofs.Looping.{keeps_all}
use Rattle.preference_check.proofs.OneNumber.{keeps_with_one_number}
use Rattle.preference_check.proofs.loops.loop_fault.Goals as goal
use Rattle.preference_check.proofs.loops.loop_fault.Goals.{then-index+in_ok-second+in_default, else-index}

pub returns-then-branch : goal.returns-then-branch
returns-then-branch c =
    keeps_with_one_number c.args.net.now c.args.graph.now (number_in c.args.numbers.now) c.have_one_number.ensures.rules (c.in_ok-have_one_number.ensures.one c.if-branch.true)

pub returns-in-Some : goal.returns-in-Some
returns-in-Some c =
    let Keeps = KeepsLoop c.args.net.now c.args.graph.now (number_in c.args.numbers.now) in
    first_of_both Keeps c.loop-first.first c.in-Some.second c.loop-first.invariant (subst (IsFirstOrNone (Keeps c.loop-first.first)) c.in-Some.is c.in_ok-second.ensures)

pub loop-first-preserved : goal.loop-first-preserved
loop-first-preserved c =
    let g = c.args.graph.now in
    let net = c.args.net.now in
    let number = number_in c.args.numbers.now in
    let first = c.loop-first.first in
    let suspects = c.in_ok-suspects.suspects.items in
    let within : first < length suspects = omega (arith, c.loop-first-test.true, c.in_ok-suspects.ensures.size, ap length c.nodes.ensures.nodes) in
    keeps_more (KeepsLoop net g number) first c.loop-first.invariant (elim c.if-index.branch [
      | then-index+in_ok-second+in_default w ↦ subst (IsFirstOrNone (KeepsLoop net g number first)) w.in_default.is w.in_ok-second.ensures
      | else-index w ↦ λ q.
          keeps_all net g number suspects c.in_ok-suspects.ensures.rule c.requires.routers c.requires.step first q (sym (get_or_read suspects first _ within c.index.ensures false) ∙ w.if-index.false)
    ])

pub returns : goal.returns
returns c = λ m n t k over. c.loop-first.invariant m n (omega (arith, over.better, c.loop-first-test.false, ap length c.nodes.ensures.nodes)) t k over
