-- How the standings are gathered, one location after another.
use Rattle.std.specs.Prelude.{◌≡◌, ℕ, ◌+◌, Bool, not, ◌&&◌, ◌||◌, ◌==◌, List, [], ◌∷◌, ◌++◌, length, map, filter, take, unwrap_or, slice_get, if◌then◌else◌}
use Rattle.std.specs.List.{list_any, flat_map}
use Rattle.net_base.specs.Network.{PlainNet, is_router, linked}
use Rattle.net_base.specs.Sets.{holds}
use Rattle.policy_base.specs.declared.case.Case.{Case}
use Rattle.path_exprs.specs.Expression.{Expression}
use Rattle.path_exprs.specs.Derivative.{derivative}
use Rattle.path_automata.specs.States.{states_of}
use Rattle.walk_states.specs.declared.reached.Reached.{Reached}
use Rattle.walk_states.specs.Built.{place_in}
use Rattle.path_exprs.specs.Standings.{Standing, same_standing, is_dead, moved, AreReached}
use Rattle.net_base.specs.Locations.{in_order}

-- walks go on from origins and routers
abbrev pub sends_on : PlainNet → Case → ℕ → Bool
sends_on net case l = holds case.origins l || is_router net l

-- no walk enters an origin, nor a peer where the origins are peers
abbrev pub may_enter : PlainNet → Case → ℕ → Bool
may_enter net case l = not (holds case.origins l) && (is_router net l || not case.external)

-- where walks may go on from a location, as far as the network and the case tell
unfoldable pub ways : PlainNet → Case → ℕ → List ℕ
ways net case at = if sends_on net case at then filter (λ l. linked net at l && may_enter net case l) (in_order net) else []

-- what a way from one location to another adds to the ways from `at`
unfoldable pub way_between : PlainNet → Case → ℕ → ℕ → ℕ → List ℕ
way_between net case from to at = if from == at && (sends_on net case from && may_enter net case to) then to ∷ [] else []

-- the ways from a location, of those from each
unfoldable pub ways_in : List (List ℕ) → ℕ → List ℕ
ways_in all at = unwrap_or (slice_get all at) []

-- what is left after a location, unless that is dead
unfoldable pub live : List Expression → ℕ → List Standing
live left l = if is_dead (map (derivative l) left) then [] else moved left l ∷ []

unfoldable pub each_live : List Expression → List ℕ → List Standing
each_live left ls = flat_map (live left) ls

-- where a walk that came to a standing may go on
unfoldable pub next_in : PlainNet → Case → Standing → List Standing
next_in net case x = each_live x.left (ways net case x.at)

-- the standing behind the others, where it isn't among them
unfoldable pub with_standing : List Standing → Standing → List Standing
with_standing xs x = if list_any (same_standing x) xs then xs else xs ++ x ∷ []

unfoldable pub gathered : List Standing → List Standing → List Standing
gathered xs [] = xs
gathered xs (t ∷ ts) = gathered (with_standing xs t) ts

-- the steps of standing k to these
unfoldable pub steps_to : List Standing → ℕ → List Standing → List (ℕ × ℕ)
steps_to all k ts = map (λ t. (k, place_in all t)) ts

unfoldable pub steps_over : (Standing → List Standing) → List Standing → ℕ → List Standing → List (ℕ × ℕ)
steps_over next all k [] = []
steps_over next all k (y ∷ ys) = steps_to all k (next y) ++ steps_over next all (k + 1) ys

-- the expressions of a state
unfoldable pub left_in : List (List Expression) → ℕ → List Expression
left_in ss n = unwrap_or (slice_get ss n) []

abbrev pub standing_in : List (List Expression) → ℕ × ℕ → Standing
standing_in ss k = record { at = k.0; left = left_in ss k.1 }

unfoldable pub standings_in : List (List Expression) → List (ℕ × ℕ) → List Standing
standings_in ss ks = map (standing_in ss) ks

-- the standings that were found, in the order of their numbers
abbrev pub standings_of : Reached → List Standing
standings_of r = standings_in (states_of r.automata) r.found.keys.items

-- they are at locations of the network
abbrev pub IsOver : PlainNet → Reached → Type 0
IsOver net r = r.found.locations ≡ length net.routers + length net.peers

-- The first k of these standings, which walks reach, were asked where walks go on from them.
pub record AreAsked (starts : List Standing) (next : Standing → List Standing) (xs : List Standing) (steps : List (ℕ × ℕ)) (k : ℕ) : Type 0 where
  pub reached : AreReached starts next xs
  pub order : xs ≡ gathered starts (flat_map next (take k xs))
  pub numbered : steps ≡ steps_over next xs 0 (take k xs)
