use Rattle.std.proofs.Common.{List, sym, subst}
use Rattle.graph_base.specs.declared.refutation.Removed.{Removed}
use Rattle.graph_base.specs.Refuting.{IsLine}
use Rattle.refusal_lines.specs.RefusalLines.{IsOn}
use Rattle.refusal_lines.proofs.explanations.push_refutation.Goals as goal

pub push_lines-requires-clause-on : goal.push_lines-requires-clause-on
push_lines-requires-clause-on c = subst (λ (lines : List Removed). (l : Removed) → IsLine lines l → IsOn c.args.graph.now l) (sym c.as_slice.ensures) c.requires.lines
