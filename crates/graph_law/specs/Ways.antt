-- What is left of the alternatives on the way along a path.
use Rattle.std.specs.Prelude.{ℕ, Bool, true, not, ◌&&◌, List, [], ◌∷◌, reverse}
use Rattle.net_base.specs.Network.{PlainNet}
use Rattle.path_exprs.specs.Expression.{Expression}
use Rattle.net_base.specs.NetSets.{locations}
use Rattle.path_exprs.specs.Runs.{along, start_of}
use Rattle.path_exprs.specs.Standings.{Plan, Standing, is_dead}

-- what is left of each alternative after a path, which is read from its last place, the origin, to its first
abbrev pub left_after : PlainNet → Plan → List ℕ → List Expression
left_after net plan path = along (reverse path) (start_of (locations net) plan.expressions)

-- where a path leads
abbrev pub standing_after : PlainNet → Plan → ℕ → List ℕ → Standing
standing_after net plan l ls = record { at = l; left = left_after net plan (l ∷ ls) }

-- after each place but the origin some alternative can still be met
abbrev pub stays_alive : PlainNet → Plan → List ℕ → Bool
stays_alive net plan [] = true
stays_alive net plan (l ∷ []) = true
stays_alive net plan (l ∷ k ∷ ls) = not (is_dead (left_after net plan (l ∷ k ∷ ls))) && stays_alive net plan (k ∷ ls)
