use Rattle.std.proofs.Common.{◌≡◌, ◌<◌, [], ap, sym, subst, inl, inr, ◌∙◌, arith, length}
use Rattle.std.proofs.lemmas.Bool.{both_ways, cases_lt}
use Rattle.std.proofs.lemmas.List.{get_or_read}
use Rattle.graph_base.specs.Preferences.{number_in}
use Rattle.preference_check.specs.Offers.{KeepsOffers, is_offered}
use Rattle.preference_check.proofs.faults.first_unmet.Goals as goal
use Rattle.preference_check.proofs.faults.first_unmet.Goals.{else-is_over-via-then-is_over+else-not-meets, else-is_over-via-else-is_over}

pub returns-then-not-meets : goal.returns-then-not-meets
returns-then-not-meets c =
    let offers = c.args.offers.now in
    let other = c.loop-other.other in
    let within : other < length offers = omega (arith, c.loop-other-test.true, c.loop-other.auto.other-end, ap length c.nodes.ensures.nodes, c.requires.offers) in
    let theirs = c.as_slice.ensures ∙ get_or_read offers _ _ within c.index-offers-other.is [] in
    record {
      fails = λ keeps. both_ways _ c.if-not-meets.true (c.meets.ensures.1 (λ at cost h.
          c.requires.own at cost ∙ keeps (c.is_over.ensures.0 c.if-is_over.true) at cost (sym (ap (λ l. is_offered l at cost) theirs) ∙ h)));
      before = c.loop-other.invariant;
    }

pub loop-other-preserved : goal.loop-other-preserved
loop-other-preserved c = λ q lt.
    let offers = c.args.offers.now in
    let other = c.loop-other.other in
    let Keeps = KeepsOffers c.args.net.now c.args.graph.now (number_in c.args.numbers.now) offers c.args.node in
    elim (cases_lt q other) [
      | inl less ↦ c.loop-other.invariant q less
      | inr past ↦ (
          let same : other ≡ q = omega arith in
          subst Keeps same (elim c.else-is_over.branch [
            | else-is_over-via-then-is_over+else-not-meets w ↦ λ over at cost h. (
                let within : other < length offers = omega (arith, c.loop-other-test.true, c.loop-other.auto.other-end, ap length c.nodes.ensures.nodes, c.requires.offers) in
                let theirs = w.as_slice.ensures ∙ get_or_read offers _ _ within w.index-offers-other.is [] in
                sym (c.requires.own at cost) ∙ w.meets.ensures.0 w.if-not-meets.false at cost (ap (λ l. is_offered l at cost) theirs ∙ h))
            | else-is_over-via-else-is_over w ↦ λ over. absurd (both_ways _ w.if-is_over.false (c.is_over.ensures.1 over))
          ]))
    ]

pub returns : goal.returns
returns c = λ n over. c.loop-other.invariant n (omega (arith, over.worse, c.loop-other-test.false, ap length c.nodes.ensures.nodes)) over
