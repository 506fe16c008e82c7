-- What calls and ranked expressions say of a path.
use Rattle.std.specs.Prelude.{ℕ, ◌+◌, ◌*◌, length, Bool, true, false, not, ◌&&◌, ◌||◌, List, [], ◌∷◌, ◌++◌, map, Option, Some, None, drop, if◌then◌else◌}
use Rattle.std.specs.List.{list_any, flat_map}
use Rattle.net_base.specs.declared.loc.LocSet.{LocSet}
use Rattle.net_base.specs.Network.{PlainNet, is_peer}
use Rattle.net_base.specs.Sets.{holds}
use Rattle.policy_base.specs.declared.call.Call.{Call}
use Rattle.policy_base.specs.declared.call.Call.TheVariants.{Any, Drop, Internal, Link, Path, Of}
use Rattle.policy_words.specs.declared.word.SetCall.{SetCall}
use Rattle.policy_words.specs.declared.word.SetCall.TheVariants.{Avoid, Through, NoTransit, Start, End, Exit, Enter}
use Rattle.policy_base.specs.Policies.{Ranking, call, calls, prefer, either, both, negated}

-- a test of the first or the last place; a place that the list doesn't have fails it
abbrev pub at_first : (ℕ → Bool) → List ℕ → Bool
at_first p [] = false
at_first p (l ∷ ls) = p l

abbrev pub at_last : (ℕ → Bool) → List ℕ → Bool
at_last p [] = false
at_last p (l ∷ []) = p l
at_last p (l ∷ k ∷ ls) = at_last p (k ∷ ls)

-- the list without its last place
abbrev pub front : List ℕ → List ℕ
front [] = []
front (l ∷ []) = []
front (l ∷ k ∷ ls) = l ∷ front (k ∷ ls)

abbrev pub some_step : (ℕ → ℕ → Bool) → List ℕ → Bool
some_step p [] = false
some_step p (l ∷ []) = false
some_step p (l ∷ k ∷ ls) = p l k || some_step p (k ∷ ls)

-- as many places as sets, each in its set
abbrev pub each_in : List LocSet → List ℕ → Bool
each_in [] [] = true
each_in [] (l ∷ ls) = false
each_in (s ∷ ss) [] = false
each_in (s ∷ ss) (l ∷ ls) = holds s l && each_in ss ls

-- what a call of one set says of a list of locations
abbrev pub meets_set : PlainNet → SetCall → LocSet → List ℕ → Bool
meets_set net Avoid s path = not (list_any (holds s) path)
meets_set net Through s path = list_any (holds s) path
meets_set net NoTransit s path = not (list_any (holds s) (front (drop 1 path)))
meets_set net Start s path = at_first (holds s) path
meets_set net End s path = at_last (holds s) path
meets_set net Exit s path = at_last (is_peer net) path && (at_last (holds s) path || at_last (holds s) (front path))
meets_set net Enter s path = at_first (is_peer net) path && (at_first (holds s) path || at_first (holds s) (drop 1 path))

-- what a call says of a list of locations
abbrev pub meets : PlainNet → Call → List ℕ → Bool
meets net Any path = true
meets net Drop path = false
meets net Internal path = not (list_any (is_peer net) path)
meets net (Link a b) path = some_step (λ k l. holds a k && holds b l) path
meets net (Path sets) path = each_in sets path
meets net (Of c s) path = meets_set net c s path

-- a test of paths
abbrev pub PathTest : Type 0
PathTest = List ℕ → Bool

abbrev pub some_test : List PathTest → PathTest
some_test ps path = list_any (λ p. p path) ps

abbrev pub both_tests : PathTest → PathTest → PathTest
both_tests p q path = p path && q path

-- The alternatives of a ranked expression, the best one first.
abbrev pub alternatives : PlainNet → Ranking → List PathTest
alternatives net (call c) = meets net c ∷ []
alternatives net (calls cs) = map (meets net) cs
alternatives net (prefer a b) = alternatives net a ++ alternatives net b
alternatives net (both a b) = flat_map (λ p. map (both_tests p) (alternatives net b)) (alternatives net a)
alternatives net (either a b) = some_test (alternatives net a ++ alternatives net b) ∷ []
alternatives net (negated a) = (λ path. not (some_test (alternatives net a) path)) ∷ []

-- how many alternatives a ranked expression has
abbrev pub alternative_count : Ranking → ℕ
alternative_count (call c) = 1
alternative_count (calls cs) = length cs
alternative_count (prefer a b) = alternative_count a + alternative_count b
alternative_count (both a b) = alternative_count a * alternative_count b
alternative_count (either a b) = 1
alternative_count (negated a) = 1

-- the place, from k, of the first test that the path passes
abbrev pub place_of : List PathTest → List ℕ → ℕ → Option ℕ
place_of [] path k = None
place_of (p ∷ ps) path k = if p path then Some k else place_of ps path (k + 1)

-- the least place, from 1, of an alternative that the path meets
abbrev pub rank_of : PlainNet → Ranking → List ℕ → Option ℕ
rank_of net ranked path = place_of (alternatives net ranked) path 1
