-- Tables of the ranks of sources: a row for each rank, with a bit for each source.
use Rattle.std.specs.Prelude.{◌≡◌, ℕ, ◌+◌, ◌*◌, ◌<◌, Bool, ◌==◌, ◌&&◌, ◌||◌, nat_lt, List, length, Option}
use Rattle.std.specs.List.{list_any}
use Rattle.bit_rows.specs.Tables.{PlainRows, has_at}
use Rattle.net_base.specs.Locations.{numbers_below}
use Rattle.net_base.specs.Network.{PlainNet, is_peer, is_router}
use Rattle.graph_base.specs.Graphs.{PlainGraph}
use Rattle.graph_base.specs.Runs.{place_of, rank_at}
use Rattle.evidence_base.specs.Made.{PlainCaseEvidence}
use Rattle.promises_report.specs.Apart.{meet_in}
use Rattle.promises_report.specs.NodeRanks.{has_rank_in, is_rank}

-- the bit of a source by its router, and by the location at which its walks begin: the router again, or the peer of a session
abbrev pub bit_of : ℕ → ℕ → ℕ
bit_of r first = r * 768 + first

-- what a rank sets in its row; row 0 stays clear
abbrev pub sets : ℕ → Option ℕ → ℕ → ℕ → Bool
sets bit rank n b = nat_lt 0 n && (is_rank n rank && b == bit)

-- what a node at a router sets
abbrev pub node_sets : PlainNet → PlainGraph → ℕ → ℕ → ℕ → Bool
node_sets net g n b q = is_router net (place_of g q) && sets (bit_of (place_of g q) (place_of g q)) (rank_at g q) n b

-- what a step of a router to a peer sets
abbrev pub step_sets : PlainNet → PlainGraph → ℕ → ℕ → ℕ × ℕ → Bool
step_sets net g n b t = (is_router net (place_of g t.0) && is_peer net (place_of g t.1)) && sets (bit_of (place_of g t.0) (place_of g t.1)) (rank_at g t.1) n b

-- a table for so many ranks of the sources of a network
pub record IsTableFor (net : PlainNet) (ranks : ℕ) (rows : PlainRows) : Type 0 where
  pub count : rows.count ≡ ranks + 1
  pub bits : rows.bits ≡ length net.routers * 768

-- what a graph sets
pub record IsTableOf (net : PlainNet) (ranks : ℕ) (g : PlainGraph) (rows : PlainRows) : Type 0 where
  pub size : IsTableFor net ranks rows
  pub bits : (n b : ℕ) → n < ranks + 1 → has_at rows n b ≡ (list_any (node_sets net g n b) (numbers_below (length g.nodes)) || list_any (step_sets net g n b) g.steps)

-- some source has both ranks
abbrev pub meet_by : PlainRows → ℕ → ℕ → Bool
meet_by rows i j = list_any (λ b. has_at rows i b && has_at rows j b) (numbers_below rows.bits)

-- the ranks that meet in these cases, for so many
abbrev pub meet_among : PlainNet → List PlainCaseEvidence → ℕ → ℕ → ℕ → Bool
meet_among net ds number i j = list_any (λ (d : PlainCaseEvidence). d.case.statement == number && meet_in net (has_rank_in d.graph) i j) ds

-- a row for each rank, with a bit for each that it meets
pub record AreMet (met : ℕ → ℕ → Bool) (ranks : ℕ) (rows : PlainRows) : Type 0 where
  pub count : rows.count ≡ ranks + 1
  pub bits : rows.bits ≡ ranks + 1
  pub each : (i j : ℕ) → 0 < i → i < ranks + 1 → 0 < j → j < ranks + 1 → has_at rows i j ≡ met i j
