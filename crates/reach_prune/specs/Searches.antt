-- What a search over lists of neighbours finds.
use Rattle.std.specs.Prelude.{◌≡◌, ℕ, ◌+◌, ◌<◌, Bool, false, not, ◌&&◌, ◌||◌, ◌==◌, IsTrue, List, [], ◌∷◌, length, slice_index_or, vec_len}
use Rattle.std.specs.List.{list_any, count_by}
use Rattle.reach_prune.specs.declared.search.Search.{Search}

abbrev pub is_among : List ℕ → ℕ → Bool
is_among nodes n = list_any (λ x. x == n) nodes

abbrev pub is_marked : List Bool → ℕ → Bool
is_marked marks n = slice_index_or marks n false

-- b is in the list of a
abbrev pub is_listed : List (List ℕ) → ℕ → ℕ → Bool
is_listed lists a b = is_among (slice_index_or lists a []) b

-- each node that is listed has a list
abbrev pub AreLists : List (List ℕ) → Type 0
AreLists lists = (a b : ℕ) → IsTrue (is_listed lists a b) → b < length lists

-- the lists lead from a through these nodes, of which the last is b
abbrev pub IsChain : List (List ℕ) → ℕ → List ℕ → ℕ → Type 0
IsChain lists a [] b = a ≡ b
IsChain lists a (c ∷ cs) b = IsTrue (is_listed lists a c) × IsChain lists c cs b

-- the lists lead from a to b; each node leads to itself
abbrev pub Leads : List (List ℕ) → ℕ → ℕ → Type 0
Leads lists a b = (via : List ℕ) × IsChain lists a via b

-- one of the first nodes leads to n
abbrev pub IsReached : List (List ℕ) → List ℕ → ℕ → Type 0
IsReached lists first n = (a : ℕ) × IsTrue (is_among first a) × Leads lists a n

-- how much is left to do: nodes without a mark, and nodes that wait
abbrev pub work_left : Search → ℕ
work_left s = count_by not s.marks.items + vec_len s.waiting

-- what a search does as it comes to some nodes: those without a mark are marked and wait
pub record Visits (nodes : ℕ → Bool) (old new : Search) : Type 0 where
  pub size : vec_len new.marks ≡ vec_len old.marks
  pub marks : (n : ℕ) → is_marked new.marks.items n ≡ (is_marked old.marks.items n || nodes n)
  pub waiting : (n : ℕ) → is_among new.waiting.items n ≡ (is_among old.waiting.items n || (nodes n && not (is_marked old.marks.items n)))
  pub left : work_left new ≡ work_left old
