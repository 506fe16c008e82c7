-- Walks of a network.
use Rattle.std.specs.Prelude.{ℕ, Bool, true, not, ◌&&◌, ◌==◌, nat_le, List, [], ◌∷◌, length, drop}
use Rattle.std.specs.List.{list_any}
use Rattle.net_base.specs.Network.{PlainNet, is_peer, linked}
use Rattle.policy_base.specs.Meaning.{front}

-- each place is linked to the next one
abbrev pub steps_linked : PlainNet → List ℕ → Bool
steps_linked net [] = true
steps_linked net (l ∷ []) = true
steps_linked net (l ∷ k ∷ ls) = linked net l k && steps_linked net (k ∷ ls)

-- At least two places, each linked to the next, peers at the ends only. The first is the source, and the last is
-- the origin end: a route travels from the last to the first, traffic the other way.
abbrev pub is_walk : PlainNet → List ℕ → Bool
is_walk net path = nat_le 2 (length path) && steps_linked net path && not (list_any (is_peer net) (front (drop 1 path)))

-- no location stands in it twice
abbrev pub is_loop_free : List ℕ → Bool
is_loop_free [] = true
is_loop_free (l ∷ ls) = not (list_any (λ k. k == l) ls) && is_loop_free ls
