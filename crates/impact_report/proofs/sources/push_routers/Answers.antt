use Rattle.std.proofs.Common.{◌++◌, ◌∷◌, [], List, ap, sym, ◌∙◌}
use Rattle.std.proofs.lemmas.List.{append_assoc}
use Rattle.net_base.specs.Sets.{holds}
use Rattle.impact_report.specs.declared.sources.Source.{Source}
use Rattle.impact_report.specs.Sources.{router_source, router_sources}
use Rattle.impact_report.proofs.Claiming.{router_more, router_same}
use Rattle.impact_report.proofs.sources.push_routers.Goals.{then-holds+in_ok-push, else-holds}
use Rattle.impact_report.proofs.sources.push_routers.Goals as goal

pub loop-place-preserved : goal.loop-place-preserved
loop-place-preserved c =
    let claimed = holds c.args.routers.now in
    let n = c.loop-place.place in
    let old = c.args.sources.now.items in
    let asked = ap claimed (sym c.new-router.ensures) ∙ sym c.holds.ensures in
    elim c.if-holds.branch [
      | then-holds+in_ok-push w ↦ rw w.sources-is (
          w.in_ok-push.ensures.items ∙ ap (λ (r : _). c.loop-place.sources.items ++ router_source r ∷ []) c.new-router.ensures
          ∙ ap (λ (xs : List Source). xs ++ router_source n ∷ []) c.loop-place.invariant
          ∙ append_assoc old (router_sources claimed n) (router_source n ∷ []) ∙ ap (λ (xs : List Source). old ++ xs) (sym (router_more claimed n (asked ∙ w.if-holds.true))))
      | else-holds w ↦ rw w.sources-is (c.loop-place.invariant ∙ ap (λ (xs : List Source). old ++ xs) (sym (router_same claimed n (asked ∙ w.if-holds.false))))
    ]
