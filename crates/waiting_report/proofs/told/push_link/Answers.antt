use Rattle.std.proofs.Common.{◌≡◌, ◌++◌, ℕ, List, ap, ap₂, append_assoc, ◌∙◌}
use Rattle.std.proofs.lemmas.Result.{on_ok_weaker}
use Rattle.net_base.specs.Network.{PlainNet}
use Rattle.config_base.specs.declared.route.Route.{Route}
use Rattle.event_base.specs.World.{World}
use Rattle.event_state.specs.States.{state}
use Rattle.waiting_report.specs.Lines.{way_lines}
use Rattle.waiting_report.proofs.Draining.{back_lines}
use Rattle.waiting_report.proofs.told.push_link.Goals as goal

pub returns-clause-text : goal.returns-clause-text
returns-clause-text c =
    let net = c.args.world.now.net.now in
    let w : World Route = state c.args.world.now in
    let a = c.args.link.0 in
    let b = c.args.link.1 in
    let text = c.args.text.now.items in
    let same = ap (λ s. s.0) c.push_way.ensures.setting in
    let back : way_lines c.push_way.new.world.net.now (state c.push_way.new.world) b a ≡ way_lines net w b a =
    ap₂ (λ (n : PlainNet) (v : World Route). way_lines n v b a) same c.push_way.ensures.world ∙ back_lines net w a b c.requires.apart in
    on_ok_weaker c.push_way-2.result (λ told. told
    ∙ ap₂ (λ (front end : List ℕ). front ++ end) c.in_ok-push_way.ensures.text back
    ∙ append_assoc text (way_lines net w a b) (way_lines net w b a)) c.push_way-2.ensures.text
