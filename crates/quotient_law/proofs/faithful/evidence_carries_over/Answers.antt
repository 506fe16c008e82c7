use Rattle.std.proofs.Common.{◌≡◌, true, length}
use Rattle.net_base.specs.Sets.{holds}
use Rattle.graph_base.specs.Rules.{MeetsRules}
use Rattle.evidence_law.specs.Passes.{IsClaimed}
use Rattle.relation_law.specs.Evidence.{at_routers}
use Rattle.relation_law.specs.Numbers.{number_of}
use Rattle.relation_law.specs.Views.{view_of}
use Rattle.relation_law.proofs.Bridge.{numbers_meet_rules, rules_at_routers, rules_give_numbers}
use Rattle.relation_law.proofs.Counts.{counts_are_numbers}
use Rattle.quotient_law.proofs.Each.{total_on_each}
use Rattle.evidence_law.proofs.Listeners.{listeners_ranked}
use Rattle.quotient_law.proofs.Claims.{rules_claimed}
use Rattle.quotient_law.proofs.faithful.evidence_carries_over.Goals as goal

pub returns : goal.returns
returns c = λ net s case g q claimed reach number r gg qq fg fq claims exact greatest rules.
    let held : MeetsRules net (λ l. holds claimed l ≡ true) case.external g number =
    rules_claimed net (IsClaimed net s case) (λ l. holds claimed l ≡ true) case.external g number (λ l h. (claims l).0 h) rules in
    let are = rules_give_numbers net (holds case.origins) case.external g fg.formed gg claimed (λ l h. ((claims l).0 h).at_router)
    (listeners_ranked net s (holds case.origins) case.external g gg fg) number held in
    let total = total_on_each net s (holds case.origins) case.external g q claimed reach number r gg qq fg fq exact are greatest in
    let counts = number_of (length q.nodes) r in (
      total,
      rules_claimed net (λ l. holds claimed l ≡ true) (IsClaimed net s case) case.external q (at_routers net q counts) (λ l h. (claims l).1 h)
          (rules_at_routers net claimed case.external q counts (numbers_meet_rules net claimed case.external q counts qq (counts_are_numbers (view_of q claimed) r greatest total))),
    )
