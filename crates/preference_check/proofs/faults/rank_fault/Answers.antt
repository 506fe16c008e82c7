use Rattle.std.proofs.Common.{IsTrue, ap, ◌∙◌}
use Rattle.std.proofs.lemmas.Result.{IfOk-weaker}
use Rattle.net_base.specs.Sets.{holds}
use Rattle.graph_base.specs.Rules.{KeepsRank}
use Rattle.graph_base.specs.Preferences.{number_in}
use Rattle.preference_check.specs.Offers.{KeepsOffers, is_offered, offers_of}
use Rattle.preference_check.proofs.FirstPairs.{first_pair_along}
use Rattle.preference_check.proofs.Offered.{ranks_match}
use Rattle.preference_check.proofs.faults.rank_fault.Goals as goal

pub returns : goal.returns
returns c =
    let net = c.args.net.now in
    let g = c.args.graph.now in
    let numbers = c.args.numbers.now in
    let claimed = c.args.claimed.now in
    let offers = c.deref.result.now in
    IfOk-weaker c.first_pair.result _ _ (λ o h. first_pair_along (KeepsOffers net g (number_in numbers) offers) (KeepsRank net (λ l. IsTrue (holds claimed l)) g (number_in numbers))
    (ranks_match net g numbers claimed offers
    (λ n at cost lt. ap (λ x. is_offered (offers_of x n) at cost) c.deref.ensures.value ∙ c.in_ok-offers.ensures.offers n at cost lt)) o
    h) c.first_pair.ensures
