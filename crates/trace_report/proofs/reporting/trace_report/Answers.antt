use Rattle.std.proofs.Common.{◌++◌, ap, ◌∙◌}
use Rattle.std.specs.List.{flat_map}
use Rattle.trace_report.specs.Lines.{quiet_line, refused_line}
use Rattle.trace_report.proofs.reporting.trace_report.Goals as goal

pub returns : goal.returns
returns c = λ config passes.
    let added = c.in_ok-push_report.ensures config passes in
    let lines = flat_map refused_line c.args.refused.now in
    let quiet = quiet_line c.is_quiet.result in
    let told = c.in_ok-push_quiet.ensures ∙ ap (λ t. t ++ quiet) (c.in_ok-push_each_refused.ensures ∙ ap (λ t. t ++ lines) c.new-text.ensures.items) in
    record {
      quiet = c.is_quiet.result;
      rests = c.is_quiet.ensures;
      report = added.0;
      shown = added.1;
      spelled = added.2 ∙ ap (λ t. t ++ added.0) told;
    }
