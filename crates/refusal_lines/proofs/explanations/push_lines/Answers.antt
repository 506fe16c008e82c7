use Rattle.std.proofs.Common.{List, length, refl}
use Rattle.std.proofs.lemmas.Option.{slice_get_read}
use Rattle.graph_base.specs.declared.refutation.Removed.{Removed}
use Rattle.refusal_lines.proofs.explanations.push_lines.Goals as goal

pub push_removed-requires-clause-on : goal.push_removed-requires-clause-on
push_removed-requires-clause-on c =
    let lines : List Removed = c.args.lines.now in
    let at = slice_get_read lines (length lines) c.loop-line.line-index c.line-item.result refl c.loop-line-test.true c.line-item.is in
    c.requires.on c.line-item.result (c.loop-line.line-index, at)
