-- The rows of a place are not without a list.
use Rattle.std.proofs.Common.{◌≡◌, ℕ, ◌+◌, List, Option, Some, None, arith}
use Rattle.std.specs.Prelude.{◌++◌}
use Rattle.list_law.specs.Members.{IsIn}
use Rattle.list_law.proofs.Options.{when_parts}
use Rattle.net_base.specs.Network.{PlainNet}
use Rattle.net_base.specs.Prefixes.{PlainPrefix}
use Rattle.policy_base.specs.Policies.{PlainPolicy, PlainStatement}
use Rattle.policy_base.specs.Governing.{statement_of}
use Rattle.policy_base.specs.Meaning.{alternative_count, alternatives, rank_of}
use Rattle.policy_base.specs.Permitted.{is_permitted}
use Rattle.policy_base.proofs.RankPlaces.{length-alternatives, place_of-within}
use Rattle.impact_law.specs.Impacts.{begin_at}
use Rattle.compare_base.specs.declared.rows.Place.{Place}
use Rattle.compare_base.specs.declared.rows.Row.{Row}
use Rattle.compare_base.specs.Ranks.{HasRow, rank_by}
use Rattle.pair_rows.specs.Rows.{AreRows}
use Rattle.comparison_law.proofs.Listed.{AreThose, IsBelow, among_some, in_order, listed, some_rows, some_rows_ascend}

-- one more than the greatest rank of a statement
abbrev most : Option PlainStatement → ℕ
most None = 0
most (Some s) = alternative_count s.ranked + 1

rank_below : (net : PlainNet) (policy : PlainPolicy) (p : PlainPrefix) (o : Option PlainStatement) (path : List ℕ) (rank : Option ℕ)
    → rank_by net policy p o path ≡ rank → IsBelow (most o) rank
rank_below net policy p o path None is = tt
rank_below net policy p None path (Some k) is = absurd cc
rank_below net policy p (Some s) path (Some k) is =
    let parts = when_parts (is_permitted net policy p s path) (rank_of net s.ranked path) k is in
    let within = place_of-within (alternatives net s.ranked) path 1 k parts.1 in
    omega (arith, within.1, length-alternatives net s.ranked)

module _ (net : PlainNet) (old new : PlainPolicy) (p : PlainPrefix) (place : Place) where
  abbrev Has : Row → Type 0
  Has row = HasRow net old new p place.router place.peer row

  abbrev all : List Row
  all = some_rows (most (statement_of old p)) (most (statement_of new p))

  are_rows : (rows : List Row) → AreThose Has all rows → AreRows net old new p place rows
  are_rows rows are = record {
    those = λ row. (λ at. ((are.those row).0 at).1, λ has. (are.those row).1 (within row has, has));
    order = in_order rows are.order;
  }
    where
      within : (row : Row) → Has row → IsIn all row
      within row has =
          among_some (most (statement_of old p)) (most (statement_of new p)) row
          (rank_below net old p (statement_of old p) (begin_at place.router place.peer ++ has.0) row.old has.1)
          (rank_below net new p (statement_of new p) (begin_at place.router place.peer ++ has.0) row.new has.2)

  pub have_rows : ¬ ((rows : List Row) × AreRows net old new p place rows) → ⊥
  have_rows never = listed Has all (some_rows_ascend (most (statement_of old p)) (most (statement_of new p))) (λ found. never (found.0, are_rows found.0 found.1))
