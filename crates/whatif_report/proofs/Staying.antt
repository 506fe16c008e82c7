-- A cut over which no other router's route goes moves none.
use Rattle.std.proofs.Common.{◌≡◌, ℕ, ◌<◌, false, length, sym, ap, ◌∙◌, ltb-true}
use Rattle.std.specs.Prelude.{not, if◌then◌else◌}
use Rattle.std.proofs.lemmas.Bool.{and_parts, not-true}
use Rattle.net_base.specs.Network.{PlainNet, is_router}
use Rattle.outcome_base.specs.Outcomes.{Outcome, route_at}
use Rattle.drain_report.specs.Uses.{IsOffRoutes}
use Rattle.impact_law.specs.Cuts.{is_cut}
use Rattle.impact_law.specs.declared.impact.Cut.{Cut}
use Rattle.whatif_report.specs.Cutting.{passes_over, route_over}

-- what passes over no cut, router by router
pub off_routes : (net : PlainNet) (outcome : Outcome) (cut : Cut) → ((r : ℕ) → r < length net.routers → passes_over cut outcome r ≡ false) → IsOffRoutes net outcome cut
off_routes net outcome cut none r h other at =
    let parts = and_parts (is_router net r) (not (is_cut cut r)) other in
    let apart = not-true (is_cut cut r) parts.1 in
    let passes = none r (ltb-true r (length net.routers) parts.0) in
    ap (route_over cut) (sym at) ∙ sym (ap (λ b. if b then false else route_over cut (route_at outcome r)) apart) ∙ passes
