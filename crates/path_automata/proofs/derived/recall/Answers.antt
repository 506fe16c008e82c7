use Rattle.std.proofs.Common.{sym, ap, ◌∙◌}
use Rattle.std.specs.Prelude.{option_copied}
use Rattle.path_terms.specs.Values.{values}
use Rattle.path_automata.proofs.Entries.{derived-read, same-is}
use Rattle.path_automata.proofs.derived.recall.Goals as goal

pub returns-in-Some-clause-known : goal.returns-in-Some-clause-known
returns-in-Some-clause-known c =
    (derived-read c.args.classes.now (values c.args.terms.now) c.args.derived.now (c.args.e, c.in_ok-class.class) c.in-Some.d.now c.requires.derived
    (sym c.get.ensures.value ∙ ap option_copied c.in-Some.is)).1

pub returns-in-Some-clause-derived : goal.returns-in-Some-clause-derived
returns-in-Some-clause-derived c =
    same-is _ _ ((derived-read c.args.classes.now (values c.args.terms.now) c.args.derived.now (c.args.e, c.in_ok-class.class) c.in-Some.d.now
    c.requires.derived (sym c.get.ensures.value ∙ ap option_copied c.in-Some.is)).2 c.args.at (sym c.in_ok-class.ensures))
