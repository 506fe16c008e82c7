use Rattle.std.proofs.Common.{◌++◌, ◌∙◌, ℕ, List, ap, length}
use Rattle.std.specs.List.{flat_map}
use Rattle.net_base.specs.Locations.{numbers_below}
use Rattle.net_base.specs.declared.loc.LocSet.{LocSet}
use Rattle.location_names.specs.Neighbours.{is_held}
use Rattle.policy_base.specs.Policies.{policy_of}
use Rattle.scenarios.specs.Scenarios.{failures_of}
use Rattle.outcome_claims.specs.Claims.{sources_of, statement_in}
use Rattle.outcome_report.specs.Lines.{head_lines}
use Rattle.multipath_report.specs.Texts.{count_line, idle_line, lines_by, router_line, session_line}
use Rattle.multipath_report.specs.Told.{shown_in}
use Rattle.multipath_report.proofs.Telling.{five, whole}
use Rattle.multipath_report.proofs.text.multipath_text.Goals as goal

pub claims_of-requires-clause-passes : goal.claims_of-requires-clause-passes
claims_of-requires-clause-passes c = (c.args.situation.now.config.now, c.requires.passes)

pub push_routers-requires : goal.push_routers-requires
push_routers-requires c = record { situation = c.requires.situation; limits = c.in_ok-claims.ensures.limits }

pub push_sessions-requires : goal.push_sessions-requires
push_sessions-requires c = record { situation = c.requires.situation; limits = c.in_ok-claims.ensures.limits }

pub returns : goal.returns
returns c =
    let s = c.args.situation.now in
    let net = s.net.now in
    let policy = policy_of s.policy.now in
    let config = s.config.now in
    let p = s.scenario.now.prefix in
    let m = c.args.multipath.now in
    let claims = c.in_ok-claims.claims in
    let shown = shown_in s in
    let head = head_lines config p in
    let routers : List LocSet → List ℕ = λ sets. flat_map (router_line net policy p (statement_in claims) (sources_of claims) shown (is_held sets)) (numbers_below (length net.routers)) in
    let sessions = flat_map (session_line net (statement_in claims) shown) claims.sessions in
    let idle : List (ℕ × ℕ) → List ℕ = λ links. flat_map (idle_line net) links in
    let first = c.push_head.new.text.items in
    let second = c.push_routers.new.text.items in
    let third = c.push_sessions.new.text.items in
    let fourth = c.push_idle.new.text.items in
    whole net policy config (failures_of s.scenario.now) p s.outcome.now.routes m claims c.push_count.new.text.items c.in_ok-claims.ensures
    (five head (routers m.sets) sessions (idle m.idle) (count_line (length m.idle) m.live) first second third fourth c.push_count.new.text.items
    (c.in_ok-push_head.ensures config (c.class_of.ensures net config c.requires.passes.made.lines) ∙ ap (λ t. t ++ head) c.new-text.ensures.items)
    (c.in_ok-push_routers.ensures ∙ ap (λ sets. first ++ routers sets) c.as_slice-sets.ensures)
    c.in_ok-push_sessions.ensures
    (c.in_ok-push_idle.ensures ∙ ap (λ links. third ++ idle links) c.as_slice-idle.ensures)
    (c.in_ok-push_count.ensures ∙ ap (λ links. fourth ++ count_line (length links) m.live) c.as_slice-idle.ensures))
