use Rattle.std.proofs.Common.{◌∙◌}
use Rattle.evidence_reuse.proofs.Ends.{marked_is, marked_kept}
use Rattle.evidence_reuse.proofs.reuse.marked.Goals as goal

pub new-requires : goal.new-requires
new-requires c =
    marked_kept c.args.case.now c.args.source.now c.in_ok-copy.copy c.in_ok-graph.graph c.from_vec-numbers.result c.from_vec-tags.result
    (c.in_ok-copy.ensures ∙ c.case.ensures.case) (c.in_ok-graph.ensures ∙ c.graph.ensures.graph) (c.from_vec-numbers.ensures ∙ c.in_ok-from_slice.ensures.items ∙ c.prefs.ensures)
    (c.from_vec-tags.ensures ∙ c.in_ok-from_slice-2.ensures.items ∙ c.tags.ensures) c.case.ensures.rules c.graph.ensures.rules

pub returns : goal.returns
returns c =
    c.new.ensures
    ∙ marked_is c.args.case.now c.args.source.now c.in_ok-copy.copy c.in_ok-graph.graph c.from_vec-numbers.result c.from_vec-tags.result
    (c.in_ok-copy.ensures ∙ c.case.ensures.case) (c.in_ok-graph.ensures ∙ c.graph.ensures.graph) (c.from_vec-numbers.ensures ∙ c.in_ok-from_slice.ensures.items ∙ c.prefs.ensures)
    (c.from_vec-tags.ensures ∙ c.in_ok-from_slice-2.ensures.items ∙ c.tags.ensures) c.requires
