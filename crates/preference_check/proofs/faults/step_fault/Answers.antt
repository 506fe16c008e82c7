use Rattle.std.proofs.Common.{ap, ◌∙◌, arith}
use Rattle.std.proofs.lemmas.Result.{IfOk-weaker}
use Rattle.graph_base.specs.Rules.{KeepsStep}
use Rattle.graph_base.specs.Preferences.{number_in}
use Rattle.preference_check.specs.Offers.{KeepsOffers, is_offered, offers_of}
use Rattle.preference_check.proofs.FirstPairs.{first_pair_along}
use Rattle.preference_check.proofs.Offered.{number_read, steps_match}
use Rattle.preference_check.proofs.faults.step_fault.Goals as goal

pub returns : goal.returns
returns c =
    let net = c.args.net.now in
    let g = c.args.graph.now in
    let numbers = c.args.numbers.now in
    let offers = c.deref.result.now in
    IfOk-weaker c.first_pair.result _ _ (λ o h. first_pair_along (KeepsOffers net g (number_in numbers) offers) (KeepsStep net g (number_in numbers))
    (steps_match net g numbers offers (λ k. omega (arith, number_read numbers k, c.type_inv.numbers k))
    (λ n at cost. ap (λ x. is_offered (offers_of x n) at cost) c.deref.ensures.value ∙ c.in_ok-offers.ensures.offers n at cost)) o
    h) c.first_pair.ensures
