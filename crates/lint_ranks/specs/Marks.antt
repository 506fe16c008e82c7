-- Ranks that are marked, in a row of bits for each statement.
use Rattle.std.specs.Prelude.{◌≡◌, ◌↔◌, ℕ, ◌<◌, ◌≤◌, ◌==◌, Bool, false, IsTrue, List, length, Option, Some}
use Rattle.std.specs.List.{list_any}
use Rattle.std.specs.Option.{option_map_or}
use Rattle.net_base.specs.Network.{PlainNet}
use Rattle.policy_base.specs.Policies.{PlainPolicy}
use Rattle.graph_base.specs.declared.graph.Node.{Node}
use Rattle.graph_base.specs.Graphs.{PlainGraph}
use Rattle.graph_base.specs.Runs.{rank_at}
use Rattle.bit_rows.specs.Tables.{PlainRows, has_at}
use Rattle.lint_ranks.specs.Reached.{IsReached}

-- it is this rank
abbrev pub is_rank : ℕ → Option ℕ → Bool
is_rank b rank = option_map_or (λ k. k == b) rank false

-- one of the nodes has this rank
abbrev pub some_has_rank : ℕ → List Node → Bool
some_has_rank b nodes = list_any (λ (node : Node). is_rank b node.rank) nodes

-- some node of the graph has this rank
abbrev pub HasRank : PlainGraph → ℕ → Type 0
HasRank g k = (n : ℕ) × (n < length g.nodes) × (rank_at g n ≡ Some k)

-- in the row of each statement the bits that are set are the ranks of permitted walks of its cases
abbrev pub AreReached : PlainNet → PlainPolicy → PlainRows → Type 0
AreReached net policy ranks = (n k : ℕ) → n ≤ length policy.statements → IsTrue (has_at ranks n k) ↔ IsReached net policy n k
