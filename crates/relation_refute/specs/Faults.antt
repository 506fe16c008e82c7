-- The reason for which a pair goes, with the pair on which it rests.
use Rattle.std.specs.Prelude.{ℕ, Bool, true, ◌&&◌, not, Option, None, Some, IfSome, IfNone, nat_lt}
use Rattle.bit_rows.specs.Tables.{has_at}
use Rattle.graph_base.specs.Graphs.{PlainGraph}
use Rattle.graph_base.specs.Runs.{is_listener, place_of, rank_at}
use Rattle.relation_law.specs.Choosing.{Rests}
use Rattle.relation_law.specs.Relations.{no_worse}
use Rattle.relation_law.specs.Rounds.{same_place}
use Rattle.relation_law.specs.Views.{View}
use Rattle.relation_refute.specs.declared.falls.Fallen.{Fallen}
use Rattle.relation_refute.specs.declared.faults.Fault.{Fault}
use Rattle.relation_refute.specs.Cells.{went}
use Rattle.state_simulation.specs.Looked.{shown}

-- for m above n the reason rests on this pair, or on none
pub record RestsOn (v : View) (m n : ℕ) (f : Fault) : Type 0 where
  pub some : IfSome f.rests (λ x. Rests v m n f.why x.0 x.1)
  pub none : IfNone f.rests ((a b : ℕ) → Rests v m n f.why a b → ⊥)

-- s hears where t stands, with no worse a rank
abbrev pub hears_there : PlainGraph → ℕ → ℕ → Bool
hears_there g s t = same_place (shown g) s t && (is_listener g s && no_worse (rank_at g s) (rank_at g t))

-- s stands where t stands, and doesn't hear
abbrev pub answers_there : PlainGraph → ℕ → ℕ → Bool
answers_there g s t = same_place (shown g) s t && not (is_listener g s)

-- from k, where t stands, m can be reached, and k went above t before this round
abbrev pub loops_there : PlainGraph → Fallen → ℕ → ℕ → ℕ → ℕ → Bool
loops_there g f round m t k = same_place (shown g) k t && (has_at f.onwards k m && went f round k t)

-- t stands before the first node, if there is one
abbrev pub stands_before : PlainGraph → ℕ → Option ℕ → Bool
stands_before g t None = true
stands_before g t (Some f) = nat_lt (place_of g t) (place_of g f)
