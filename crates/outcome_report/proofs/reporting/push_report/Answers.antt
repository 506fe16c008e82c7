use Rattle.std.proofs.Common.{◌++◌, append_assoc, length, refl, ap, ◌∙◌}
use Rattle.std.specs.List.{flat_map}
use Rattle.net_base.specs.Locations.{numbers_below}
use Rattle.policy_base.specs.Policies.{policy_of}
use Rattle.outcome_claims.specs.Claims.{sources_of, statement_in}
use Rattle.outcome_report.specs.Lines.{head_lines, lines_by, router_line, session_line}
use Rattle.outcome_report.proofs.Texts.{whole}
use Rattle.outcome_report.proofs.reporting.push_report.Goals as goal

pub returns : goal.returns
returns g c = λ config passes.
    let net = c.args.net.now in
    let policy = policy_of c.args.policy.now in
    let p = c.args.prefix in
    let claims = c.in_ok-claims.claims in
    let shown = g.S.Scene.shown c.args.scene.now in
    let old = c.args.text.now.items in
    let head = head_lines config p in
    let routers = flat_map (router_line net policy p (statement_in claims) (sources_of claims) shown) (numbers_below (length net.routers)) in
    let sessions = flat_map (session_line net (statement_in claims) shown) claims.sessions in
    let added =
    c.in_ok-push_sessions.ensures
    ∙ ap (λ t. t ++ sessions) (c.in_ok-push_routers.ensures ∙ ap (λ t. t ++ routers) (c.in_ok-push_head.ensures config (c.class_of.ensures net config passes.made.lines))) in (
      lines_by net policy config p (statement_in claims) (sources_of claims) shown,
      whole net policy config p claims shown (lines_by net policy config p (statement_in claims) (sources_of claims) shown) c.in_ok-claims.ensures refl,
      added ∙ ap (λ t. t ++ sessions) (append_assoc old head routers) ∙ append_assoc old (head ++ routers) sessions,
    )
