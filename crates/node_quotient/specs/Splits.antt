-- Classes that split one another.
use Rattle.std.specs.Prelude.{◌≡◌, ℕ, ◌<◌, ◌≤◌, Bool, false, not, IsTrue, List, length, if◌then◌else◌}
use Rattle.std.specs.List.{list_any}
use Rattle.reach_prune.specs.Searches.{is_listed, is_marked}
use Rattle.node_quotient.specs.Alike.{Ascends, class_in, list_of}

-- a node is marked, or where nodes without a mark are meant it isn't
abbrev pub has_mark : List Bool → Bool → ℕ → Bool
has_mark marks marked n = if marked then is_marked marks n else not (is_marked marks n)

-- no node is marked
abbrev pub AreClear : List Bool → Type 0
AreClear marks = (n : ℕ) → is_marked marks n ≡ false

-- for each key those of the first nodes that have it, in ascending order
pub record AreGroups (count : ℕ) (keys : List ℕ) (groups : List (List ℕ)) : Type 0 where
  pub listed : (n : ℕ) → n < count → IsTrue (is_listed groups (class_in keys n) n)
  pub only : (k n : ℕ) → IsTrue (is_listed groups k n) → (n < count) × (class_in keys n ≡ k)
  pub ascend : (k : ℕ) → Ascends (list_of groups k)

-- a node is listed for one of these
abbrev pub is_hit : List (List ℕ) → List ℕ → ℕ → Bool
is_hit lists nodes m = list_any (λ n. is_listed lists n m) nodes

-- Each class bears the number of its least node.
pub record AreNamed (classes : List ℕ) : Type 0 where
  pub le : (n : ℕ) → n < length classes → class_in classes n ≤ n
  pub idle : (n : ℕ) → n < length classes → class_in classes (class_in classes n) ≡ class_in classes n

-- Nodes of one class were of one before, and nodes of one class that are both marked, or neither, still are.
pub record AreSplit (marked : ℕ → Bool) (old new : List ℕ) : Type 0 where
  pub finer : (m n : ℕ) → m < length old → n < length old → class_in new m ≡ class_in new n → class_in old m ≡ class_in old n
  pub alike : (m n : ℕ) → m < length old → n < length old → class_in old m ≡ class_in old n → marked m ≡ marked n → class_in new m ≡ class_in new n
