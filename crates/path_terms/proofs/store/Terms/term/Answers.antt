use Rattle.std.proofs.Common.{sym, ap, ◌∙◌}
use Rattle.std.specs.Prelude.{option_copied}
use Rattle.path_terms.proofs.Growth.{read-node, read-sound, none-past}
use Rattle.path_terms.proofs.store.Terms.term.Goals as goal

pub unreachable-requires : goal.unreachable-requires
unreachable-requires c =
    none-past c.args.self.now.found.keys c.args.number c.requires.known (sym c.get_index.ensures.key ∙ ap option_copied c.in_default.is)

pub returns-clause-node : goal.returns-clause-node
returns-clause-node c =
    read-node c.args.self.now.found.keys c.args.number c.in-Some.term.now c.args.self.now.sound (sym c.in-Some.ensures.key)

pub returns-clause-sound : goal.returns-clause-sound
returns-clause-sound c =
    read-sound c.args.self.now.found.keys c.args.number c.in-Some.term.now c.args.self.now.sound (sym c.in-Some.ensures.key)
