use Rattle.stage_blocks.proofs.Spreading.{exports_spread_right, imports_spread_right}
use Rattle.stage_blocks.proofs.laws.cells_find_lines.Goals as goal

pub returns-clause-imports : goal.returns-clause-imports
returns-clause-imports c = imports_spread_right

pub returns-clause-exports : goal.returns-clause-exports
returns-clause-exports c = exports_spread_right
