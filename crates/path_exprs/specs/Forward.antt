-- The expressions of calls and of ranked expressions, read from the source of a path to its origin end.
use Rattle.std.specs.Prelude.{List, [], ◌∷◌, ◌++◌, map}
use Rattle.std.specs.List.{flat_map}
use Rattle.net_base.specs.declared.loc.LocSet.{LocSet}
use Rattle.net_base.specs.Network.{PlainNet}
use Rattle.policy_base.specs.declared.call.Call.{Call}
use Rattle.policy_base.specs.declared.call.Call.TheVariants.{Any, Drop, Internal, Link, Path, Of}
use Rattle.policy_words.specs.declared.word.SetCall.{SetCall}
use Rattle.policy_words.specs.declared.word.SetCall.TheVariants.{Avoid, Through, NoTransit, Start, End, Exit, Enter}
use Rattle.policy_base.specs.Policies.{Ranking, call, calls, prefer, negated}
use Rattle.policy_base.specs.Policies as ranking
use Rattle.path_exprs.specs.Expression.{Expression, never, empty, set, seq, either, both, complement, star, expressions_of}
use Rattle.net_base.specs.NetSets.{locations, peers}
use Rattle.path_exprs.specs.Normal.{all}
use Rattle.net_base.specs.SetOperations.{common, outside}

-- one location of each set in turn
abbrev pub in_turn : List LocSet → Expression
in_turn [] = empty
in_turn (s ∷ []) = set s
in_turn (s ∷ t ∷ ts) = seq (set s) (in_turn (t ∷ ts))

abbrev pub either_of_two : Expression → Expression → Expression
either_of_two e f = either (expressions_of (e ∷ f ∷ []))

abbrev pub both_of_two : Expression → Expression → Expression
both_of_two e f = both (expressions_of (e ∷ f ∷ []))

-- the expression of a call of one set
abbrev pub forward_set : PlainNet → SetCall → LocSet → Expression
forward_set net Avoid s = star (set (outside (locations net) s))
forward_set net Through s = seq all (seq (set s) all)
forward_set net NoTransit s = seq (set (locations net)) (seq (star (set (outside (locations net) s))) (set (locations net)))
forward_set net Start s = seq (set s) all
forward_set net End s = seq all (set s)
forward_set net Exit s = either_of_two (seq all (set (common s (peers net)))) (seq all (seq (set s) (set (peers net))))
forward_set net Enter s = either_of_two (seq (set (common s (peers net))) all) (seq (set (peers net)) (seq (set s) all))

-- the expression of a call
abbrev pub forward : PlainNet → Call → Expression
forward net Any = all
forward net Drop = never
forward net Internal = star (set (outside (locations net) (peers net)))
forward net (Link s t) = seq all (seq (set s) (seq (set t) all))
forward net (Path sets) = in_turn sets
forward net (Of c s) = forward_set net c s

-- The expressions of the alternatives of a ranked expression, the best one first.
abbrev pub expressions : PlainNet → Ranking → List Expression
expressions net (call c) = forward net c ∷ []
expressions net (calls cs) = map (forward net) cs
expressions net (prefer a b) = expressions net a ++ expressions net b
expressions net (ranking.both a b) = flat_map (λ e. map (both_of_two e) (expressions net b)) (expressions net a)
expressions net (ranking.either a b) = either (expressions_of (expressions net a ++ expressions net b)) ∷ []
expressions net (negated a) = complement (either (expressions_of (expressions net a))) ∷ []
