use Rattle.stage_blocks.proofs.Spreading.{exports_keep, imports_keep}
use Rattle.stage_blocks.proofs.laws.spread_lines_are_lawful.Goals as goal

pub returns-clause-imports : goal.returns-clause-imports
returns-clause-imports c = imports_keep

pub returns-clause-exports : goal.returns-clause-exports
returns-clause-exports c = exports_keep
