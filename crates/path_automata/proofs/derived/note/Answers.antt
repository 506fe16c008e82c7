use Rattle.std.proofs.Common.{sym, ◌∙◌}
use Rattle.path_terms.specs.Values.{values}
use Rattle.path_automata.proofs.Entries.{derived-insert, entry-made}
use Rattle.path_automata.proofs.derived.note.Goals as goal

pub returns-in_ok-insert : goal.returns-in_ok-insert
returns-in_ok-insert c =
    let cs = c.args.classes.now in
    let vs = values c.args.terms.now in
    record {
      derived = derived-insert cs vs c.args.derived.now c.insert.new.self (c.args.e, c.in-Some.class) c.args.d c.in_ok-insert.ensures.updates.0
          (entry-made cs vs c.args.e c.args.d c.args.at c.in-Some.class c.requires.term c.requires.known c.requires.classed c.requires.made (sym c.class_of.ensures ∙ c.in-Some.is)) c.requires.derived;
    }
