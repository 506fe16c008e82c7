-- The rounds in which pairs go, as they are held.
use Rattle.std.specs.Prelude.{◌≡◌, ℕ, suc, ◌+◌, ◌<◌, ◌≤◌, Bool, ◌&&◌, ◌==◌, not, IsTrue, length, nat_lt, nat_le, slice_index_or, if◌then◌else◌}
use Rattle.bit_rows.specs.Tables.{has_at}
use Rattle.graph_base.specs.Graphs.{PlainGraph}
use Rattle.graph_base.specs.Runs.{place_of}
use Rattle.net_base.specs.declared.loc.LocSet.{LocSet}
use Rattle.relation_law.specs.Numbers.{count_below}
use Rattle.relation_law.specs.Relations.{Pair}
use Rattle.relation_law.specs.Rounds.{gone_after}
use Rattle.relation_law.specs.Views.{View, view_of}
use Rattle.relation_refute.specs.declared.cells.Cells.{Cells}
use Rattle.relation_refute.specs.declared.falls.Fallen.{Fallen}
use Rattle.state_simulation.specs.Looked.{shown}
use Rattle.state_simulation.specs.Targets.{AreTold}

-- how many nodes stand at the location
abbrev pub room_at : PlainGraph → ℕ → ℕ
room_at g l = count_below (length g.nodes) (λ k. place_of g k == l)

-- how many nodes with lesser numbers stand where the node stands
abbrev pub spot_of : PlainGraph → ℕ → ℕ
spot_of g m = count_below m (λ k. place_of g k == place_of g m)

-- the cell of m above n: the cells of the nodes above n stand one after another, in their order
abbrev pub cell_at : Cells → ℕ → ℕ → ℕ
cell_at c m n = slice_index_or c.spots.items m 0 + slice_index_or c.bases.items n 0

-- the round in which m went above n, or 0
abbrev pub round_in : Cells → ℕ → ℕ → ℕ
round_in c m n = slice_index_or c.rounds.items (cell_at c m n) 0

-- two nodes at one location have a cell, and no other two have it
pub record AreCells (g : PlainGraph) (c : Cells) : Type 0 where
  pub spots : length c.spots.items ≡ length g.nodes
  pub bases : length c.bases.items ≡ length g.nodes
  pub within : (m n : ℕ) → Pair (shown g) m n → cell_at c m n < length c.rounds.items
  pub apart : (m n a b : ℕ) → Pair (shown g) m n → Pair (shown g) a b → cell_at c m n ≡ cell_at c a b → (m ≡ a) × (n ≡ b)

-- a pair without a round that isn't left gets this one
abbrev pub marked_round : ℕ → Bool → ℕ → ℕ
marked_round old left round = if old == 0 && not left then round else old

-- it tells of each pair in which of so many rounds it went, or 0 where it is left
pub record Tells (v : View) (reach : ℕ → ℕ → Bool) (rounds : ℕ) (round_of : ℕ → ℕ → ℕ) : Type 0 where
  pub most : (m n : ℕ) → Pair v m n → round_of m n ≤ rounds
  pub gone : (m n r : ℕ) → Pair v m n → r ≤ rounds → gone_after v reach r m n ≡ (nat_lt 0 (round_of m n) && nat_le (round_of m n) r)

-- The first rounds, up to one that leaves two nodes at one location without a direction.
pub record IsFallen (g : PlainGraph) (claimed : LocSet) (f : Fallen) : Type 0 where
  pub told : AreTold g f.onwards
  pub cells : AreCells g f.cells
  pub tells : Tells (view_of g claimed) (has_at f.onwards) f.last (round_in f.cells)
  pub before : ℕ
  pub next : f.last ≡ suc before
  -- in the rounds before there are no such two
  pub bound : (m n : ℕ) → Pair (view_of g claimed) m n → IsTrue (gone_after (view_of g claimed) (has_at f.onwards) before m n)
      → IsTrue (gone_after (view_of g claimed) (has_at f.onwards) before n m) → ⊥
  pub parted : (m n : ℕ) × Pair (view_of g claimed) m n × IsTrue (gone_after (view_of g claimed) (has_at f.onwards) f.last m n) × IsTrue (gone_after (view_of g claimed) (has_at f.onwards) f.last n m)

-- a went above b before this round
abbrev pub went : Fallen → ℕ → ℕ → ℕ → Bool
went f round a b = nat_lt 0 (round_in f.cells a b) && nat_lt (round_in f.cells a b) round

-- m went above n, and n above m
abbrev pub are_parted : Cells → ℕ → ℕ → Bool
are_parted c m n = nat_lt 0 (round_in c m n) && nat_lt 0 (round_in c n m)
