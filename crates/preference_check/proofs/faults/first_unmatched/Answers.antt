use Rattle.std.proofs.Common.{◌<◌, ◌||◌, [], ap, ◌∙◌, arith, length}
use Rattle.std.proofs.lemmas.Bool.{both_ways}
use Rattle.std.proofs.lemmas.List.{get_or_read}
use Rattle.net_base.specs.Network.{is_router}
use Rattle.preference_check.specs.Offers.{is_offered}
use Rattle.preference_check.proofs.faults.first_unmatched.Goals as goal

pub returns-then-not-is_router : goal.returns-then-not-is_router
returns-then-not-is_router c = λ n over. absurd (both_ways _ c.if-not-is_router.true (c.is_router.ensures ∙ ap (is_router c.args.net.now) (c.location.ensures ∙ over.place) ∙ over.router))

pub first_unmet-requires-clause-own : goal.first_unmet-requires-clause-own
first_unmet-requires-clause-own c = λ at cost.
    let offers = c.args.offers.now in
    let node : c.args.node < length offers = omega (arith, c.requires.node, c.requires.offers) in
    let own = c.as_slice.ensures ∙ get_or_read offers _ _ node c.index-offers-node.is [] in
    c.in_ok-take_in.ensures at cost ∙ ap (λ z. z || is_offered c.as_slice.result.now at cost) (c.new-own.ensures at cost) ∙ ap (λ l. is_offered l at cost) own

pub returns : goal.returns
returns c = c.first_unmet.ensures
