use Rattle.std.proofs.Common.{List, subst, sym}
use Rattle.list_law.specs.Members.{IsIn}
use Rattle.pair_rows.specs.declared.values.FirstRow.{FirstRow}
use Rattle.pair_changes.proofs.walks.walks_at.Goals as goal

pub walks_of-requires-clause-nodes : goal.walks_of-requires-clause-nodes
walks_of-requires-clause-nodes c = λ x at. c.requires.nodes x (subst (λ (xs : List FirstRow). IsIn xs x) c.rows.ensures at)

pub walks_of-requires-clause-rows : goal.walks_of-requires-clause-rows
walks_of-requires-clause-rows c = λ row among.
    let x = c.requires.rows row among in
    (x.0, subst (λ (xs : List FirstRow). IsIn xs x.0) (sym c.rows.ensures) x.1, x.2)
