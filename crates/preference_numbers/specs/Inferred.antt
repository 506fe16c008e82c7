-- The numbers that are inferred from a relation.
use Rattle.std.specs.Prelude.{◌≡◌, ℕ, ◌&&◌, length, nat_lt}
use Rattle.bit_rows.specs.Tables.{PlainRows, has_at}
use Rattle.graph_base.specs.Graphs.{PlainGraph}
use Rattle.net_base.specs.Network.{PlainNet}
use Rattle.relation_law.specs.Evidence.{at_routers}
use Rattle.relation_law.specs.Numbers.{is_first, number_of}
use Rattle.state_simulation.specs.Held.{PlainRelation, has}

-- one row, which has those of so many nodes that are the first of their classes
pub record AreFirsts (size : ℕ) (r : PlainRelation) (rows : PlainRows) : Type 0 where
  pub count : rows.count ≡ 1
  pub bits : rows.bits ≡ size
  pub each : (p : ℕ) → has_at rows 0 p ≡ (nat_lt p size && is_first (has r) p)

-- at a router 100 and one for each class that stands strictly lower, and 0 elsewhere
abbrev pub inferred : PlainNet → PlainGraph → PlainRelation → ℕ → ℕ
inferred net g r = at_routers net g (number_of (length g.nodes) (has r))
