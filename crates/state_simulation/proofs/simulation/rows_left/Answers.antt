use Rattle.std.proofs.Common.{IfOk, ℕ, Bool, subst}
use Rattle.bit_rows.specs.Tables.{PlainRows}
use Rattle.graph_base.specs.Graphs.{PlainGraph}
use Rattle.relation_law.specs.Rounds.{IsReach, TakesNothingMore}
use Rattle.relation_law.specs.Views.{view_of}
use Rattle.state_simulation.specs.Targets.{AreLeft}
use Rattle.state_simulation.proofs.simulation.rows_left.Goals as goal

pub returns-clause-rows : goal.returns-clause-rows
returns-clause-rows c = rw c.in_ok-maps.ensures at c.all_rounds.ensures.rows

pub returns-clause-rounds : goal.returns-clause-rounds
returns-clause-rounds c =
    let claimed = c.args.claimed.now in
    subst (λ (g : PlainGraph). IfOk c.all_rounds.result (λ (left : PlainRows). (reach : ℕ → ℕ → Bool) → IsReach (view_of g claimed) reach
    → (rounds : ℕ) × TakesNothingMore (view_of g claimed) reach rounds × AreLeft (view_of g claimed) reach rounds left))
    c.in_ok-maps.ensures c.all_rounds.ensures.rounds
