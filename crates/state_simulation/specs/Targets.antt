-- Rows of nodes, and what they say of the pairs of one location.
use Rattle.std.specs.Prelude.{◌≡◌, ◌↔◌, ℕ, ◌+◌, ◌*◌, ◌<◌, ◌≤◌, Bool, false, not, ◌&&◌, ◌||◌, IsTrue, List, Option, None, Some, length, slice_index_or}
use Rattle.bit_rows.specs.Bits.{has}
use Rattle.bit_rows.specs.Tables.{PlainRows, has_at}
use Rattle.graph_base.specs.Graphs.{PlainGraph}
use Rattle.graph_base.specs.Runs.{Reaches}
use Rattle.relation_law.specs.Rounds.{fails, fails_at, gone_after, goes_by, left_after}
use Rattle.relation_law.specs.Views.{View}
use Rattle.state_simulation.specs.Held.{IsSquare}
pub use Rattle.relation_law.specs.Reasons.{is_outranked}
use Rattle.state_simulation.specs.Looked.{shown}

-- a row and a bit for each node of the graph
abbrev pub AreNodeRows : PlainGraph → PlainRows → Type 0
AreNodeRows g rows = IsSquare (length g.nodes) rows

-- so many words hold so many bits, and no fewer do
pub record IsWide (size words : ℕ) : Type 0 where
  pub room : size ≤ 64 * words
  pub tight : 64 * words < size + 64

-- a isn't in the row of b
abbrev pub gone_in : PlainRows → ℕ → ℕ → Bool
gone_in left a b = not (has_at left b a)

-- rows that tell what can be reached from each node
pub record AreTold (g : PlainGraph) (onwards : PlainRows) : Type 0 where
  pub square : AreNodeRows g onwards
  pub exact : (a b : ℕ) → a < length g.nodes → IsTrue (has_at onwards a b) ↔ Reaches g a b

-- the second node can be reached from the first, as the rows tell; where there are none, nothing is known to
abbrev pub tells : Option PlainRows → ℕ → ℕ → Bool
tells None a b = false
tells (Some onwards) a b = has_at onwards a b

-- the mask has the nodes for which no rule fails at a step to t
abbrev pub IsMaskOf : PlainGraph → Option PlainRows → PlainRows → List ℕ → ℕ → Type 0
IsMaskOf g onwards left mask t = (m : ℕ) → m < length g.nodes → has mask m ≡ not (fails_at (shown g) (tells onwards) (gone_in left) m t)

abbrev pub is_touched : List Bool → ℕ → Bool
is_touched touched t = slice_index_or touched t false

-- the row of each node has the nodes above it that are left after so many rounds
abbrev pub AreLeft : View → (ℕ → ℕ → Bool) → ℕ → PlainRows → Type 0
AreLeft v reach rounds rows = (m n : ℕ) → m < v.size → n < v.size → has_at rows n m ≡ left_after v reach rounds m n

-- After so many rounds: what is left, and of it what the next round leaves, but for the pairs for which a rule fails
-- at a step to a touched target.
pub record AtRound (v : View) (reach : ℕ → ℕ → Bool) (rounds : ℕ) (left next : PlainRows) (touched : ℕ → Bool) : Type 0 where
  pub exact : AreLeft v reach rounds left
  pub within : (m n : ℕ) → m < v.size → n < v.size → IsTrue (has_at next n m) → IsTrue (has_at left n m)
  pub goes : (m n : ℕ) → m < v.size → n < v.size → IsTrue (left_after v reach rounds m n)
      → fails v reach (gone_after v reach rounds) m n ≡ (not (has_at next n m) || goes_by v reach (gone_after v reach rounds) touched m n)

-- the rows of the first table have no bits of nodes that those of the second don't
abbrev pub AreWithin : ℕ → PlainRows → PlainRows → Type 0
AreWithin size one other = (n b : ℕ) → n < size → b < size → IsTrue (has_at one n b) → IsTrue (has_at other n b)

-- the bit is in one row and not in the other
abbrev pub differs : PlainRows → PlainRows → ℕ → ℕ → Bool
differs left next n b = has_at left n b && (has_at left n b && not (has_at next n b))

-- the rows of nodes become those of the next round, and a node is touched where its row loses a bit
pub record Put (size : ℕ) (next : PlainRows) (old new : PlainRows) (touched : List Bool) (changed : Bool) : Type 0 where
  pub rows : (n b : ℕ) → n < size → has_at new n b ≡ has_at next n b
  pub quiet : (t b : ℕ) → t < size → is_touched touched t ≡ false → differs old next t b ≡ false
  pub same : changed ≡ false → (n b : ℕ) → n < size → differs old next n b ≡ false
  pub lost : IsTrue changed → (n b : ℕ) × (n < size) × (b < old.bits) × IsTrue (differs old next n b)
