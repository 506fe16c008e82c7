-- The lines of a refutation, before their reasons are told.
use Rattle.std.specs.Prelude.{◌≡◌, ℕ, ◌<◌, Bool, List, Some, length, slice_get}
use Rattle.std.specs.Ordering.{nat_cmp, ordering_then}
use Rattle.std.specs.declared.cmp.Ordering.{Ordering}
use Rattle.graph_base.specs.declared.refutation.Removed.{Removed}
use Rattle.graph_base.specs.Graphs.{PlainGraph}
use Rattle.graph_base.specs.Runs.{place_of}
use Rattle.net_base.specs.declared.loc.LocSet.{LocSet}
use Rattle.relation_law.specs.Choosing.{Goes, IsChain}
use Rattle.relation_law.specs.Relations.{Pair}
use Rattle.relation_law.specs.Views.{View, view_of}
use Rattle.relation_refute.specs.declared.chains.Line.{Line}
use Rattle.relation_refute.specs.declared.falls.Fallen.{Fallen}
use Rattle.relation_refute.specs.Cells.{round_in}

-- by round, then by location, then by the first node, then by the second
abbrev pub line_order : Line → Line → Ordering
line_order a b = ordering_then (nat_cmp a.round b.round) (ordering_then (nat_cmp a.router b.router) (ordering_then (nat_cmp a.better b.better) (nat_cmp a.worse b.worse)))

-- m above n leads down to a above b, through what each rests on
abbrev pub Led : View → (ℕ → ℕ → Bool) → ℕ → ℕ → ℕ → ℕ → Type 0
Led v reach m n a b = (via : List (ℕ × ℕ)) × IsChain v reach m n via a b

-- the pair went, in this round, at this location
pub record IsLineOf (g : PlainGraph) (claimed : LocSet) (f : Fallen) (l : Line) : Type 0 where
  pub pair : Pair (view_of g claimed) l.better l.worse
  pub went : 0 < l.round
  pub round : l.round ≡ round_in f.cells l.better l.worse
  pub router : l.router ≡ place_of g l.worse

-- each line has its pair and round, and the reason for which that pair goes
pub record AreLinesOf (v : View) (reach : ℕ → ℕ → Bool) (lines : List Line) (removed : List Removed) : Type 0 where
  pub len : length removed ≡ length lines
  pub each : (i : ℕ) (l : Line) → slice_get lines i ≡ Some l
      → (r : Removed) × (slice_get removed i ≡ Some r) × (r.better ≡ l.better) × (r.worse ≡ l.worse) × (r.round ≡ l.round) × Goes v reach r.better r.worse r.round r.why
