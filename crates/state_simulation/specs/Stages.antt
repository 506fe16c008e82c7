-- How far the rounds have come.
use Rattle.std.specs.Prelude.{◌≡◌, ℕ, ◌*◌, ◌/◌, ◌%◌, ◌<◌, Bool, false, ◌&&◌, ◌||◌, IfSome, IsTrue, List, Option, None, Some, length, nat_lt}
use Rattle.bit_rows.specs.Tables.{IsSameSize, PlainRows, has_at}
use Rattle.graph_base.specs.Graphs.{PlainGraph}
use Rattle.graph_base.specs.Runs.{place_of}
use Rattle.net_base.specs.declared.loc.LocSet.{LocSet}
use Rattle.relation_law.specs.Numbers.{count_below}
use Rattle.relation_law.specs.Relations.{Pair}
use Rattle.relation_law.specs.Rounds.{is_pair}
use Rattle.relation_law.specs.Views.{View, view_of}
use Rattle.state_simulation.specs.declared.rounds.Rounds.{Rounds}
use Rattle.state_simulation.specs.Looked.{shown}
use Rattle.state_simulation.specs.Targets.{AreNodeRows, AreTold, AreWithin, AtRound, IsWide, is_touched}

-- its rows are of the nodes of the graph
pub record AreSized (g : PlainGraph) (s : Rounds) : Type 0 where
  pub left : AreNodeRows g s.left
  pub wide : IsWide (length g.nodes) s.left.width
  pub next : IsSameSize s.next s.left
  pub within : AreWithin (length g.nodes) s.next s.left
  pub touched : length s.touched.items ≡ length g.nodes
  pub onwards : IfSome s.onwards (AreTold g)
  pub mask : length s.mask.items ≡ s.left.width
  pub looped : length s.looped.items ≡ s.left.width

-- they have come past so many rounds
abbrev pub AreAt : PlainGraph → LocSet → (ℕ → ℕ → Bool) → ℕ → Rounds → Type 0
AreAt g claimed reach rounds s = AtRound (view_of g claimed) reach rounds s.left s.next (is_touched s.touched.items)

-- they have come past the first round
pub record AreFirst (g : PlainGraph) (claimed : LocSet) (s : Rounds) : Type 0 where
  pub sized : AreSized g s
  pub at : (reach : ℕ → ℕ → Bool) → AreAt g claimed reach 1 s
  -- a row that it didn't touch has all nodes at its location
  pub quiet : (m n : ℕ) → Pair (shown g) m n → is_touched s.touched.items n ≡ false → IsTrue (has_at s.left n m)
  -- the next round begins with what is left
  pub even : (n b : ℕ) → n < length g.nodes → b < length g.nodes → has_at s.next n b ≡ has_at s.left n b

-- the first round needs to know nothing of what can be reached
abbrev pub Knows : PlainGraph → (ℕ → ℕ → Bool) → ℕ → Option PlainRows → Type 0
Knows g reach rounds None = rounds ≡ 0
Knows g reach rounds (Some onwards) = (a b : ℕ) → a < length g.nodes → b < length g.nodes → has_at onwards a b ≡ reach a b

-- how many bits are set
abbrev pub bits_set : ℕ → PlainRows → ℕ
bits_set size rows = count_below (size * size) (λ i. has_at rows (i / size) (i % size))

-- the pairs of one location of which the row of the second has the first
abbrev pub above_in : View → PlainRows → ℕ → ℕ → Bool
above_in v left m n = is_pair v m n && has_at left n m

-- of two nodes one is in the row of the other
abbrev pub has_either : PlainRows → ℕ → ℕ → Bool
has_either left m n = has_at left n m || has_at left m n

-- m stands behind n in a touched row, so that n is looked for in that row and m not in that of n
abbrev pub asks_later : List Bool → ℕ → ℕ → Bool
asks_later touched m n = nat_lt n m && is_touched touched m

-- of each two nodes at one location it is
abbrev pub AreBound : PlainGraph → PlainRows → Type 0
AreBound g left = (m n : ℕ) → m < length g.nodes → n < length g.nodes → place_of g m ≡ place_of g n → IsTrue (has_either left m n)

-- two nodes at one location, neither of them in the row of the other
pub record IsOpen (g : PlainGraph) (left : PlainRows) (m n : ℕ) : Type 0 where
  pub one : m < length g.nodes
  pub other : n < length g.nodes
  pub place : place_of g m ≡ place_of g n
  pub neither : has_either left m n ≡ false
