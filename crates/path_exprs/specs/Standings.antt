-- Where walks of a case can stand: a location with what is left of each alternative after a walk that led there.
use Rattle.std.specs.Prelude.{◌≡◌, ℕ, ◌<◌, ◌≤◌, Bool, not, ◌&&◌, ◌||◌, ◌==◌, IsTrue, List, [], ◌∷◌, ◌++◌, length, map, Some, filter, slice_get, if◌then◌else◌}
use Rattle.std.specs.List.{list_any, list_all, flat_map, IsDistinct}
use Rattle.std.specs.Ordering.{is_eq}
use Rattle.path_exprs.specs.declared.limits.TheConstants.{NODES}
use Rattle.net_base.specs.Locations.{in_order}
use Rattle.net_base.specs.Network.{PlainNet, is_router, linked}
use Rattle.net_base.specs.Sets.{holds}
use Rattle.policy_base.specs.declared.case.Case.{Case}
use Rattle.policy_base.specs.declared.policy.FromSet.{FromSet}
use Rattle.policy_base.specs.Policies.{PlainStatement}
use Rattle.path_exprs.specs.Derivative.{derivative}
use Rattle.path_exprs.specs.Expression.{Expression, expressions_of}
use Rattle.path_exprs.specs.Forward.{expressions}
use Rattle.net_base.specs.NetSets.{locations}
use Rattle.path_exprs.specs.Normal.{is_never}
use Rattle.path_exprs.specs.Order.{compare_lists}
use Rattle.path_exprs.specs.Runs.{start_of}

-- What the walks of a case are to meet: the expressions of the alternatives, who may start a walk, where walks end, and
-- whether the origins are all peers, or else routers.
pub record Plan : Type 0 where
  pub expressions : List Expression
  pub from : FromSet
  pub origin : ℕ → Bool
  pub external : Bool

abbrev pub plan_of : List Expression → FromSet → Case → Plan
plan_of es from case = record { expressions = es; from = from; origin = holds case.origins; external = case.external }

-- the plan of a case of a statement
abbrev pub plan_for : PlainNet → PlainStatement → Case → Plan
plan_for net s c = plan_of (expressions net s.ranked) s.from c

-- a location, with what is left of each alternative after a walk that led there
pub record Standing : Type 0 where
  pub at : ℕ
  pub left : List Expression

abbrev pub same_standing : Standing → Standing → Bool
same_standing x y = x.at == y.at && is_eq (compare_lists (expressions_of x.left) (expressions_of y.left))

-- no alternative can be met any more
abbrev pub is_dead : List Expression → Bool
is_dead es = list_all is_never es

abbrev pub moved : List Expression → ℕ → Standing
moved es l = record { at = l; left = map (derivative l) es }

-- each origin, in order, after it was read itself
abbrev pub starts : PlainNet → Plan → List Standing
starts net plan = map (moved (start_of (locations net) plan.expressions)) (filter plan.origin (in_order net))

-- whether a walk that came to x may go on to l: over a link to no origin, to a peer only where the origins are routers,
-- and where some alternative can still be met
abbrev pub may_go : PlainNet → Plan → Standing → ℕ → Bool
may_go net plan x l =
    linked net x.at l && not (plan.origin l) && (is_router net l || not plan.external) && not (is_dead (map (derivative l) x.left))

-- where a walk that came to x may go on, in order of location: only origins and routers send on
abbrev pub targets : PlainNet → Plan → Standing → List Standing
targets net plan x =
    if plan.origin x.at || is_router net x.at then map (moved x.left) (filter (may_go net plan x) (in_order net)) else []

-- the list without what stands before in it
abbrev pub without_repeats : List Standing → List Standing → List Standing
without_repeats seen [] = []
without_repeats seen (x ∷ xs) = if list_any (same_standing x) seen then without_repeats seen xs else x ∷ without_repeats (x ∷ seen) xs

-- The standings in breadth-first order: the starts, and then the targets of each one in turn, each where it comes first.
pub record AreStandings (net : PlainNet) (plan : Plan) (xs : List Standing) : Type 0 where
  pub order : xs ≡ without_repeats [] (starts net plan ++ flat_map (targets net plan) xs)
  -- and each but a start is a target of an earlier one
  pub earlier : (k : ℕ) (x : Standing) → length (starts net plan) ≤ k → slice_get xs k ≡ Some x
      → (j : ℕ) × (y : Standing) × (j < k) × (slice_get xs j ≡ Some y) × IsTrue (list_any (same_standing x) (targets net plan y))

-- Different standings that walks reach: first the starts, and then each a target of an earlier one.
pub record AreReached (starts : List Standing) (targets : Standing → List Standing) (xs : List Standing) : Type 0 where
  pub different : IsDistinct same_standing xs
  pub begin : (more : List Standing) × (xs ≡ starts ++ more)
  pub earlier : (k : ℕ) (x : Standing) → length starts ≤ k → slice_get xs k ≡ Some x
      → (j : ℕ) × (y : Standing) × (j < k) × (slice_get xs j ≡ Some y) × IsTrue (list_any (same_standing x) (targets y))

-- walks reach more standings than this
abbrev pub PassesStates : PlainNet → Plan → ℕ → Type 0
PassesStates net plan most = (xs : List Standing) × AreReached (starts net plan) (targets net plan) xs × (most < length xs)

-- walks of a plan come to these standings, no more than 4,096, and so many steps lead from one to another
pub record IsWalked (net : PlainNet) (plan : Plan) (steps : ℕ) : Type 0 where
  pub standings : List Standing
  pub are : AreStandings net plan standings
  pub few : length standings ≤ NODES
  pub count : steps ≡ length (flat_map (targets net plan) standings)
