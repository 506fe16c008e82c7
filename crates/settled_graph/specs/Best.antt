-- The nodes with the greatest numbers.
use Rattle.std.specs.Prelude.{◌≡◌, ◌↔◌, ℕ, ◌<◌, ◌≤◌, Bool, true, nat_lt, IsTrue, List, length, Option, Some, None, option_map, slice_index_or, if◌then◌else◌}
use Rattle.net_base.specs.declared.loc.LocSet.{LocSet}
use Rattle.net_base.specs.Sets.{holds}
use Rattle.net_base.specs.declared.limits.TheConstants.{LOCATIONS}
use Rattle.graph_base.specs.Graphs.{PlainGraph}
use Rattle.graph_base.specs.Runs.{place_of}
use Rattle.graph_base.specs.Preferences.{number_in}
use Rattle.reach_prune.specs.Ways.{LeadsFrom}
use Rattle.reach_prune.specs.declared.steps.Way.TheVariants.{Forward}

-- what a table has for a location
abbrev pub entry_at : {A : Type 0} → List (Option A) → ℕ → Option A
entry_at table l = slice_index_or table l None

abbrev pub is_better : List ℕ → ℕ → Option ℕ → Bool
is_better numbers n None = true
is_better numbers n (Some best) = nat_lt (number_in numbers best) (number_in numbers n)

-- Of the nodes below a bound that are marked the table has, at each location, one with the greatest number.
pub record AreBest (g : PlainGraph) (numbers : List ℕ) (marked : ℕ → Bool) (bound : ℕ) (best : List (Option ℕ)) : Type 0 where
  pub size : length best ≡ LOCATIONS
  pub here : (l n : ℕ) → entry_at best l ≡ Some n → (n < bound) × IsTrue (marked n) × (place_of g n ≡ l)
  pub over : (m : ℕ) → m < bound → IsTrue (marked m) → (n : ℕ) × (entry_at best (place_of g m) ≡ Some n) × (number_in numbers m ≤ number_in numbers n)

-- the number of the best node at a location that chooses
abbrev pub wanted_by : List ℕ → LocSet → List (Option ℕ) → ℕ → Option ℕ
wanted_by numbers choosers best l = if holds choosers l then option_map (number_in numbers) (entry_at best l) else None

-- the table has the greatest number of the nodes that are reached from the starts, for each location that chooses
pub record AreGreatest (g : PlainGraph) (numbers : List ℕ) (choosers : LocSet) (wanted : List (Option ℕ)) : Type 0 where
  pub size : length wanted ≡ LOCATIONS
  pub best : List (Option ℕ)
  pub reached : ℕ → Bool
  pub exact : (n : ℕ) → n < length g.nodes → IsTrue (reached n) ↔ LeadsFrom Forward g g.starts n
  pub are_best : AreBest g numbers reached (length g.nodes) best
  pub each : (l : ℕ) → entry_at wanted l ≡ wanted_by numbers choosers best l
