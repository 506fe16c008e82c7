use Rattle.std.proofs.Common.{◌++◌, ap, ◌∙◌}
use Rattle.std.specs.List.{flat_map}
use Rattle.event_state.specs.States.{state}
use Rattle.trace_report.specs.Lines.{quiet_line}
use Rattle.waiting_report.specs.Lines.{link_lines}
use Rattle.waiting_report.proofs.told.told.Goals as goal

pub returns : goal.returns
returns c =
    let net = c.args.world.net.now in
    let lines = flat_map (link_lines net (state c.args.world)) net.links in
    let quiet = c.is_quiet-quiet.result in
    record {
      quiet = quiet;
      rests = c.is_quiet-quiet.ensures;
      spelled = c.in_ok-push_quiet.ensures ∙ ap (λ t. t ++ quiet_line quiet) (c.in_ok-push_links.ensures ∙ ap (λ t. t ++ lines) c.new-text.ensures.items);
    }
