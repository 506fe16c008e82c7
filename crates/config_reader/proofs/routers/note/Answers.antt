use Rattle.config_reader.proofs.KnownRouters.{names_more}
use Rattle.config_reader.proofs.routers.note.Goals as goal

pub returns-clause-names : goal.returns-clause-names
returns-clause-names c = names_more _ _ _ c.in_ok-insert.field-0 c.in_ok-insert.ensures.fresh c.in_ok-insert.ensures.added c.in_ok-insert.ensures.kept

pub returns-clause-asns : goal.returns-clause-asns
returns-clause-asns c = c.in_ok-insert-2.ensures.keys

pub returns-clause-ids : goal.returns-clause-ids
returns-clause-ids c = c.in_ok-insert-3.ensures.keys
