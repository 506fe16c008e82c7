-- Whom a cut moves, if nothing settles anew or one outcome stands for another.
use Rattle.std.proofs.Common.{◌≡◌, ℕ, false, length, sym, ap, ◌∙◌, inl, inr}
use Rattle.std.specs.Prelude.{◌&&◌, not}
use Rattle.std.specs.List.{count_by, list_any}
use Rattle.std.specs.Option.{option_map_or}
use Rattle.std.proofs.lemmas.Bool.{cases_Bool}
use Rattle.net_base.specs.Locations.{numbers_below}
use Rattle.net_base.specs.Network.{IsNet}
use Rattle.policy_base.specs.Policies.{policy_of}
use Rattle.outcome_base.specs.Outcomes.{Outcome, route_at}
use Rattle.scenarios.specs.Scenarios.{failures_of}
use Rattle.scenarios.specs.Tests.{far_end}
use Rattle.scenarios.specs.declared.situation.Situation.{Situation}
use Rattle.impact_law.specs.Cuts.{is_cut, with_cut}
use Rattle.impact_law.specs.declared.impact.Cut.{Cut}
use Rattle.multipath_report.specs.Members.{is_member}
use Rattle.whatif_report.specs.Moves.{is_moved, same_held}
use Rattle.whatif_report.specs.Settling.{moves_in}
use Rattle.whatif_report.specs.Shifting.{differ}
use Rattle.whatif_report.proofs.Counting.{count_alike}
use Rattle.whatif_report.proofs.StandIn.{members_same, no_others}
use Rattle.whatif_report.proofs.Touching.{alive_uncut}

-- outcomes in which all routers but a cut one hold the same
module _ (s : Situation) (rules : IsNet s.net.now) (cut : Cut) (one other : Outcome) (agree : (r : ℕ) → is_cut cut r ≡ false → route_at other r ≡ route_at one r) where
  moved_alike : (before : Outcome) (r : ℕ) → is_moved cut before one r ≡ is_moved cut before other r
  moved_alike before r = elim (cases_Bool (is_cut cut r)) [
    | inl gone ↦ (
        let first : is_moved cut before one r ≡ false = ap (λ b. not b && not (same_held (route_at before r) (route_at one r))) gone in
        let second : is_moved cut before other r ≡ false = ap (λ b. not b && not (same_held (route_at before r) (route_at other r))) gone in
        first ∙ sym second)
    | inr off ↦ ap (λ o. not (is_cut cut r) && not (same_held (route_at before r) o)) (sym (agree r off))
  ]

  pub moves_alike : moves_in s cut one ≡ moves_in s cut other
  moves_alike =
      let net = s.net.now in
      let before = s.outcome.now.routes in
      let f = failures_of s.scenario.now in
      let h = with_cut cut f in
      let routes = count_alike (is_moved cut before one) (is_moved cut before other) (length net.routers) (λ r low. moved_alike before r) in
      let members = members_same net (policy_of s.policy.now) s.config.now h h s.scenario.now.prefix one other rules (no_others h) (λ u alive. agree u (alive_uncut cut f u alive)) in
      λ i. record {
        routes = routes i;
        sets = count_by (λ r. not (is_cut cut r)
            && not (not (list_any (λ link. option_map_or (λ z. differ (is_member net (policy_of s.policy.now) s.config.now f s.scenario.now.prefix before r z) (members r z i)) (far_end r link) false) net.links)))
            (numbers_below (length net.routers));
      }
