-- Steps of nodes to nodes at places, and the lists of places that can be followed from a node.
use Rattle.std.specs.Prelude.{◌≡◌, ℕ, ◌<◌, ◌≤◌, Bool, ◌&&◌, ◌==◌, min, List, [], ◌∷◌, Option, Some, None, length, option_map, option_and_then, slice_index_or, if◌then◌else◌}
use Rattle.std.specs.List.{find, AllByRecursion}
use Rattle.std.specs.Ordering.{nat_cmp, ordering_then}
use Rattle.std.specs.declared.cmp.Ordering.{Ordering}
use Rattle.node_classes.specs.declared.way.Way.{Way}

-- a way stands above another: by the node, and then strictly by the place, so that a node has one way to a place
abbrev pub IsAbove : Way → Way → Type 0
IsAbove a b = (a.from ≤ b.from) × (a.from ≡ b.from → a.at < b.at)

-- where a way stands: its node, and the place to which it leads
abbrev pub stand : Way → ℕ × ℕ
stand w = (w.from, w.at)

abbrev pub same_pair : ℕ × ℕ → ℕ × ℕ → Bool
same_pair a b = a.0 == b.0 && a.1 == b.1

-- the order of ways
abbrev pub way_order : Way → Way → Ordering
way_order a b = ordering_then (nat_cmp a.from b.from) (ordering_then (nat_cmp a.at b.at) (nat_cmp a.to b.to))

-- each stands above all that follow it
abbrev pub Ascend : List Way → Type 0
Ascend [] = Unit {0}
Ascend (w ∷ ws) = AllByRecursion (IsAbove w) ws × Ascend ws

abbrev pub comes_from : ℕ → Way → Bool
comes_from node w = w.from == node

-- in ascending ways those of lesser nodes lie before a place, and no others
pub record BeginsAt (ways : List Way) (n i : ℕ) : Type 0 where
  pub within : i ≤ length ways
  pub before : (j : ℕ) (d : Way) → j < i → (slice_index_or ways j d).from < n
  pub behind : (j : ℕ) (d : Way) → i ≤ j → j < length ways → n ≤ (slice_index_or ways j d).from

-- for each of the first nodes the place at which its ways begin
abbrev pub AreRunStarts : List Way → List ℕ → Type 0
AreRunStarts ways starts = (n d : ℕ) → n < length starts → BeginsAt ways n (slice_index_or starts n d)

-- where a node steps at a place
abbrev pub next : List Way → ℕ → ℕ → Option ℕ
next ways n l = option_map (λ (w : Way). w.to) (find (λ (w : Way). w.from == n && w.at == l) ways)

-- the node that is come to along a list of places, from its last to its first
abbrev pub follow : List Way → ℕ → List ℕ → Option ℕ
follow ways n [] = Some n
follow ways n (l ∷ ls) = option_and_then (λ m. next ways m l) (follow ways n ls)

-- the first place at which two ascending lists of ways differ
abbrev pub place_apart_of : List Way → List Way → Option ℕ
place_apart_of [] [] = None
place_apart_of [] (w ∷ ws) = Some w.at
place_apart_of (v ∷ vs) [] = Some v.at
place_apart_of (v ∷ vs) (w ∷ ws) = if v.at == w.at then place_apart_of vs ws else Some (min v.at w.at)
