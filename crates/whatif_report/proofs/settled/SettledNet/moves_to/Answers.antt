use Rattle.std.proofs.Common.{◌≡◌, ℕ, List, length, sym, ◌∙◌, subst}
use Rattle.std.specs.Prelude.{◌&&◌, not}
use Rattle.net_base.specs.Sets.{holds}
use Rattle.policy_base.specs.Policies.{policy_of}
use Rattle.scenarios.specs.Scenarios.{failures_of}
use Rattle.impact_law.specs.Cuts.{is_cut, with_cut}
use Rattle.whatif_report.specs.Moves.{is_moved, moved as moved_by, shifted as shifted_by}
use Rattle.whatif_report.specs.Shifting.{Covers, keeps_set}
use Rattle.whatif_report.proofs.Counting.{count_alike}
use Rattle.whatif_report.proofs.Marking.{marks_tell}
use Rattle.whatif_report.proofs.settled.SettledNet.moves_to.Goals as goal

pub shifted-shifted-requires : goal.shifted-shifted-requires
shifted-shifted-requires c = record { before = c.requires.settled.situation; after = c.requires.after }

pub returns : goal.returns
returns c =
    let s = c.args.self.now.situation.now in
    let t = c.args.after.now in
    let cut = c.args.cut.now in
    let moved = c.args.moved.now in
    let net = s.net.now in
    let f = failures_of s.scenario.now in
    let before = s.outcome.now.routes in
    let after = t.outcome.now.routes in
    let kept : ℕ → _ = keeps_set net (policy_of s.policy.now) s.config.now f (with_cut cut f) s.scenario.now.prefix before after in
    let covers : Covers net cut moved c.as_slice.result.now = subst (λ (links : List (ℕ × ℕ)). Covers net cut moved links) (sym c.as_slice.ensures) c.in_ok-links.ensures in
    let routes : c.count_routers-routes.result ≡ moved_by net cut before after =
    c.count_routers-routes.ensures ∙ count_alike (holds moved) (is_moved cut before after) (length net.routers) c.requires.moved in
    let sets : c.count_routers-sets.result ≡ shifted_by net cut kept =
    c.count_routers-sets.ensures
    ∙ count_alike (holds c.shifted-shifted.result) (λ r. not (is_cut cut r) && not (kept r)) (length net.routers)
    (λ r low. c.shifted-shifted.ensures r ∙ marks_tell s t cut c.known_net.ensures c.requires.after moved c.requires.moved c.as_slice.result.now covers r low) in
    λ i. record { routes = routes i; sets = sets i }
