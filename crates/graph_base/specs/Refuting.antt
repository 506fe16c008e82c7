-- Lines that show that no numbers meet the rules on a graph.
use Rattle.std.specs.Prelude.{◌≡◌, ℕ, ◌<◌, Bool, IsTrue, List, length, Option, Some, slice_get}
use Rattle.graph_base.specs.declared.refutation.Removed.{Removed}
use Rattle.graph_base.specs.declared.refutation.Why.{Why}
use Rattle.graph_base.specs.declared.refutation.Why.TheVariants.{RankWorse, NoStep, StepWorse, LoopWorse, ListenerWorse}
use Rattle.graph_base.specs.Graphs.{PlainGraph}
use Rattle.graph_base.specs.Rules.{steps_on, is_heard}
use Rattle.graph_base.specs.Runs.{place_of, rank_at, has_step, Reaches}

abbrev pub IsLine : List Removed → Removed → Type 0
IsLine lines l = (i : ℕ) × (slice_get lines i ≡ Some l)

-- a line of an earlier round says that a may not stand at least as high as b
abbrev pub WasRemoved : List Removed → ℕ → ℕ → ℕ → Type 0
WasRemoved lines round a b = (l : Removed) × IsLine lines l × (l.better ≡ a) × (l.worse ≡ b) × (l.round < round)

-- the second rank is one, and the first is greater or none
abbrev pub IsWorse : Option ℕ → Option ℕ → Type 0
IsWorse one other = (i : ℕ) × (other ≡ Some i) × ((j : ℕ) → one ≡ Some j → i < j)

-- n steps to a node t at the router z; it's heard by a listener t at the peer z
abbrev pub StepsTo : PlainGraph → ℕ → ℕ → ℕ → Type 0
StepsTo g n z t = IsTrue (steps_on g n t) × (place_of g t ≡ z)

abbrev pub IsHeardAt : PlainGraph → ℕ → ℕ → ℕ → Type 0
IsHeardAt g n z t = IsTrue (is_heard g n t) × (place_of g t ≡ z)

-- What a reason says against m above n, where the lines of earlier rounds are known.
abbrev pub Says : PlainGraph → (ℕ → Bool) → List Removed → ℕ → ℕ → ℕ → Why → Type 0
Says g claimed lines round m n RankWorse = IsTrue (claimed (place_of g n)) × IsWorse (rank_at g m) (rank_at g n)
Says g claimed lines round m n (NoStep z) = ((t : ℕ) × StepsTo g n z t) × ((s : ℕ) → ¬ StepsTo g m z s)
Says g claimed lines round m n (StepWorse z) = (s t : ℕ) × StepsTo g m z s × StepsTo g n z t × WasRemoved lines round s t
Says g claimed lines round m n (LoopWorse z k) = (t : ℕ) × StepsTo g n z t × (k < length g.nodes) × (place_of g k ≡ z) × Reaches g k m × WasRemoved lines round k t
Says g claimed lines round m n (ListenerWorse p) = (t : ℕ) × IsHeardAt g n p t × ((s : ℕ) → IsHeardAt g m p s → IsWorse (rank_at g s) (rank_at g t))

-- a line names two nodes at one location, and its reason holds
pub record IsJustified (g : PlainGraph) (claimed : ℕ → Bool) (lines : List Removed) (l : Removed) : Type 0 where
  pub better : l.better < length g.nodes
  pub worse : l.worse < length g.nodes
  pub place : place_of g l.better ≡ place_of g l.worse
  pub reason : Says g claimed lines l.round l.better l.worse l.why

-- The lines show of two nodes, or of one, that no direction may stand.
pub record Refutes (g : PlainGraph) (claimed : ℕ → Bool) (first second : ℕ) (lines : List Removed) : Type 0 where
  pub each : (l : Removed) → IsLine lines l → IsJustified g claimed lines l
  pub one : (l : Removed) × IsLine lines l × (l.better ≡ first) × (l.worse ≡ second)
  pub other : (l : Removed) × IsLine lines l × (l.better ≡ second) × (l.worse ≡ first)

-- a node has at most one step to a location
abbrev pub HasSingleSteps : PlainGraph → Type 0
HasSingleSteps g = (m s t : ℕ) → IsTrue (has_step g m s) → IsTrue (has_step g m t) → place_of g s ≡ place_of g t → s ≡ t
