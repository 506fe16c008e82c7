use Rattle.std.proofs.Common.{◌++◌, ◌∷◌, ℕ, List, [], ap, flat_map, sym, take, ◌∙◌}
use Rattle.std.proofs.lemmas.List.{flat_map_more, take_all, take_more}
use Rattle.outcome_claims.specs.Claims.{statement_in}
use Rattle.outcome_report.specs.Lines.{session_line}
use Rattle.outcome_report.proofs.reporting.push_sessions.Goals as goal

pub loop-session-preserved : goal.loop-session-preserved
loop-session-preserved g c =
    let subject = c.args.subject.now in
    let line = session_line subject.net.now (statement_in subject.claims) (g.S.Scene.shown c.args.scene.now) in
    let first = c.args.text.now.items in
    let sessions = c.as_slice-session-items.result.now in
    let i = c.loop-session.session-index in
    let session = c.session-item.result in
    c.in_ok-push_session.ensures
    ∙ ap (λ (t : List ℕ). t ++ line session) c.loop-session.invariant
    ∙ flat_map_more line first (take i sessions) session
    ∙ ap (λ (s : ℕ × ℕ). first ++ flat_map line (take i sessions ++ s ∷ [])) c.session-item.is
    ∙ ap (λ ss. first ++ flat_map line ss) (sym (take_more sessions i session c.loop-session-test.true))

pub returns : goal.returns
returns g c =
    let subject = c.args.subject.now in
    let line = session_line subject.net.now (statement_in subject.claims) (g.S.Scene.shown c.args.scene.now) in
    c.loop-session.invariant
    ∙ ap (λ ss. c.args.text.now.items ++ flat_map line ss)
    (take_all c.loop-session.session-index c.as_slice-session-items.result.now c.loop-session-test.false ∙ c.as_slice-session-items.ensures)
