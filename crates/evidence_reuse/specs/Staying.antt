-- Which compiled cases stay as an old configuration has them.
use Rattle.std.specs.Prelude.{◌≡◌, ℕ, ◌+◌, ◌-◌, ◌<◌, ◌==◌, nat_lt, Bool, true, false, ◌&&◌, not, List, [], ◌∷◌, length, Option, Some, None, option_map, slice_get}
use Rattle.std.specs.List.{find, list_any}
use Rattle.evidence_base.specs.Made.{PlainCaseEvidence}
use Rattle.free_tags.specs.Taken.{greatest}
use Rattle.stage_classes.specs.declared.cell.Cell.{Cell}
use Rattle.evidence_renewal.specs.Renewed.{raised}

-- ---- classes

-- there is a case, and it has nodes: without any its class has no lines
abbrev pub has_nodes : Option PlainCaseEvidence → Bool
has_nodes None = false
has_nodes (Some e) = nat_lt 0 (length e.graph.nodes)

-- the cell is of this class of the new configuration, and of a class of the old one whose case has nodes
abbrev pub is_pair : List PlainCaseEvidence → ℕ → Cell → Bool
is_pair olds class cell = cell.second == class && has_nodes (slice_get olds (cell.first - 1))

-- and of another class of the old one than this
abbrev pub is_other : List PlainCaseEvidence → ℕ → ℕ → Cell → Bool
is_other olds class was cell = is_pair olds class cell && not (cell.first == was)

-- the first class of the old configuration with nodes with which a class shares prefixes
abbrev pub partner : List PlainCaseEvidence → List Cell → ℕ → Option ℕ
partner olds cs class = option_map (λ (c : Cell). c.first) (find (is_pair olds class) cs)

-- The new class at this place shares prefixes with this class of the old configuration, which is counted from 1, and with no other one that has
-- nodes. Either may have more prefixes than the other.
pub record IsOldClass (between : List Cell) (olds : List PlainCaseEvidence) (place was : ℕ) : Type 0 where
  pub shares : partner olds between (place + 1) ≡ Some was
  pub alone : list_any (is_other olds (place + 1) was) between ≡ false

-- ---- graphs and numbers

-- by how much the greatest of some numbers is raised
abbrev pub rise : List ℕ → List ℕ → ℕ
rise numbers others = greatest others - greatest numbers

-- the second numbers are the first ones, each raised by so much
abbrev pub are_raised : ℕ → List ℕ → List ℕ → Bool
are_raised by [] [] = true
are_raised by (n ∷ ns) (m ∷ ms) = m == raised by n && are_raised by ns ms
are_raised by _ _ = false

-- An old case has the graph of a compiled one, and its numbers, each raised by as much.
pub record IsSameCase (c e : PlainCaseEvidence) : Type 0 where
  pub graph : e.graph ≡ c.graph
  pub numbers : are_raised (rise c.numbers e.numbers) c.numbers e.numbers ≡ true

-- ---- what stays

-- These are the pairs of classes that share prefixes, and the evidence of the old configuration.
module _ (between : List Cell) (olds : List PlainCaseEvidence) where
  -- A compiled case, whose class is at this place, may stay as a case of the old evidence: that of its old class, with this number.
  pub record MayStay (place : ℕ) (c : PlainCaseEvidence) (was : ℕ) (e : PlainCaseEvidence) : Type 0 where
    pub class : IsOldClass between olds place was
    pub at : slice_get olds (was - 1) ≡ Some e
    pub same : IsSameCase c e

  -- It stays as that, where no later one of these cases may.
  pub record Stays (cs : List PlainCaseEvidence) (place : ℕ) (c e : PlainCaseEvidence) : Type 0 where
    pub was : ℕ
    pub may : MayStay place c was e
    pub last : (k : ℕ) (d f : PlainCaseEvidence) → place < k → slice_get cs k ≡ Some d → ¬ MayStay k d was f

  -- ---- the numbers of old classes

  -- the number of the class as which a case may stay, if it may
  abbrev pub IsNumber : ℕ → PlainCaseEvidence → Option ℕ → Type 0
  IsNumber place c None = (was : ℕ) (e : PlainCaseEvidence) → ¬ MayStay place c was e
  IsNumber place c (Some was) = (e : PlainCaseEvidence) × MayStay place c was e

  -- those of the cases
  pub record AreNumbers (cs : List PlainCaseEvidence) (ns : List (Option ℕ)) : Type 0 where
    pub count : length ns ≡ length cs
    pub each : (k : ℕ) (c : PlainCaseEvidence) (n : Option ℕ) → slice_get cs k ≡ Some c → slice_get ns k ≡ Some n → IsNumber k c n

-- the number is this one
abbrev pub is_number : ℕ → Option ℕ → Bool
is_number was None = false
is_number was (Some n) = n == was
