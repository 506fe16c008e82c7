use Rattle.std.proofs.Common.{ap, sym, ◌∙◌}
use Rattle.path_exprs.specs.Normal.{seq_of}
use Rattle.path_terms.specs.Values.{value}
use Rattle.path_automata.proofs.Alone.{seq-kept}
use Rattle.path_automata.proofs.shortcuts.front.Goals as goal

pub returns-then-not-is_empty-clause-made : goal.returns-then-not-is_empty-clause-made
returns-then-not-is_empty-clause-made c =
    seq-kept (value c.args.terms.now c.args.e) (value c.args.terms.now c.args.a) (value c.args.terms.now c.args.b) c.requires.term
    (c.is_plain.ensures.after c.if-is_plain.true) (c.is_plain.ensures.never c.if-is_plain.true) (c.is_plain.ensures.empty c.if-is_plain.true)
    (sym c.is_never.ensures ∙ c.if-not-is_never.true) (sym c.is_empty.ensures ∙ c.if-not-is_empty.true)
    ∙ ap (λ n. seq_of (value c.args.terms.now n) (value c.args.terms.now c.args.b)) (sym c.if-first-a.true)
