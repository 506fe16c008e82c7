use Rattle.std.proofs.Common.{◌∙◌, ap, sym, not}
use Rattle.walk_check.proofs.ReachedNodes.{marked_from_none, none_from_marked}
use Rattle.walk_check.proofs.ended.are_marked.Goals as goal

pub returns : goal.returns
returns c = (
  λ h. marked_from_none c.args.marks.now (ap not (sym c.contains.ensures.value) ∙ h),
  λ all. ap not c.contains.ensures.value ∙ none_from_marked c.args.marks.now all,
)
