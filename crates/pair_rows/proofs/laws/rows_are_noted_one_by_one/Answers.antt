use Rattle.std.proofs.Common.{min, refl}
use Rattle.pair_rows.proofs.NotedRows.{first_inserted, first_lowered, first_none}
use Rattle.pair_rows.proofs.laws.rows_are_noted_one_by_one.Goals as goal

pub returns-clause-none : goal.returns-clause-none
returns-clause-none c = first_none

pub returns-clause-new : goal.returns-clause-new
returns-clause-new c = λ mets rows met place are within front back. first_inserted mets rows are met place within front back

pub returns-clause-known : goal.returns-clause-known
returns-clause-known c = λ mets rows met place x are at same. first_lowered mets rows are met place x at same (min x.node met.node) refl
