-- Messages come to an end where the routers of a network have an order.
use Rattle.std.proofs.Common.{◌≡◌, ℕ, ◌<◌, ◌≤◌, ◌+◌, ◌*◌, zero, suc, true, List, [], ◌∷◌, ◌++◌, length, Option, Some, refl, sym, subst, arith}
use Rattle.net_base.specs.Network.{PlainNet}
use Rattle.net_base.specs.Prefixes.{PlainPrefix}
use Rattle.policy_base.specs.Policies.{PlainPolicy}
use Rattle.config_base.specs.declared.route.Route.{Route}
use Rattle.config_base.specs.Configs.{PlainConfig}
use Rattle.event_base.specs.declared.event.Event.{Event}
use Rattle.event_base.specs.Speaking.{speakers_of, taken_by}
use Rattle.event_base.specs.Steps.{IsQuiet, happens, run}
use Rattle.event_base.specs.World.{Speakers, World}
use Rattle.event_law.specs.Kept.{AreSpeakers, IsKept}
use Rattle.event_law.specs.Kinds.{AreKinds, IsKind}
use Rattle.event_law.proofs.KindsKept.{run-kinds}
use Rattle.rest_law.specs.Orders.{AreChoosers, IsOrder, Takes, at_rest, rests}
use Rattle.rest_law.specs.Rounds.{AreRounds, deliveries}
use Rattle.rest_law.specs.Rest.{rounds_enough}
use Rattle.rest_law.proofs.Present.{fewer_rounds}
use Rattle.rest_law.proofs.Settle.{comes_to_rest}
use Rattle.event_law.proofs.First.{NoLater}
use Rattle.rest_law.proofs.Counts.{order_short}
use Rattle.rest_law.proofs.Trails.{IsHolding, IsSaying, trail_short}

pub run_on : {R : Type 0} (net : Speakers R) (es fs : List Event) (w : World R) → run net fs (run net es w) ≡ run net (es ++ fs) w
run_on net [] fs w = refl
run_on net (e ∷ es) fs w = run_on net es fs (happens net e w)

enough : (n r : ℕ) → n ≤ r → suc (n * (suc r + 2)) ≤ suc (r * (r + 3))
enough n r h = omega (arith, times n r (r + 3) h)
  where
    times : (n r k : ℕ) → n ≤ r → n * k ≤ r * k
    times n r zero h = omega arith
    times n r (suc k) h = (let q = times n r k h in omega (arith, h, q))

-- The outcome has for each router that can't hold another one the route that it holds, and the others have an order in which they come
-- to it, over what is down, cut and silent in w.
pub record HasOrder (net : PlainNet) (policy : PlainPolicy) (config : PlainConfig) (p : PlainPrefix) (w : World Route) (outcome : ℕ → Option Route) : Type 0 where
  pub rested : (r : ℕ) → rests (speakers_of net policy config p) w r ≡ true → outcome r ≡ at_rest (speakers_of net policy config p) w r
  pub routers : List ℕ
  pub order : IsOrder (speakers_of net policy config p) w (taken_by net config p) (NoLater net) outcome (rests (speakers_of net policy config p) w) routers

-- Where any speakers hold trails and have an order, no message waits after so many rounds, and each holds what the outcome has.
pub trails_end : (net : PlainNet) (S : Speakers Route) (takes : Takes Route) (w : World Route) (outcome : ℕ → Option Route) (vs : List ℕ) (ds : List (ℕ × ℕ))
    → AreSpeakers S → AreChoosers S takes (NoLater net) (λ (h : Route). length h.path) → IsKind S (IsHolding net) (IsSaying net)
    → ((r : ℕ) → S.is_router r ≡ true → r < length net.routers) → IsKept S w → AreKinds (IsHolding net) (IsSaying net) w
    → ((r : ℕ) → rests S w r ≡ true → outcome r ≡ at_rest S w r) → IsOrder S w takes (NoLater net) outcome (rests S w) vs → AreRounds S (rounds_enough net) w ds
    → IsQuiet (run S (deliveries ds) w) × ((r : ℕ) → (run S (deliveries ds) w).route r ≡ outcome r)
trails_end net S takes w outcome vs ds speak choosers kind below kept kinds rested order rounds =
    let short : (ds : List (ℕ × ℕ)) (r : ℕ) (h : Route) → (run S (deliveries ds) w).route r ≡ Some h → length h.path ≤ suc (length net.routers) = λ ds r h e.
    (let k = (run-kinds S (IsHolding net) (IsSaying net) kind (deliveries ds) w kinds).route r h e in
    subst (λ (z : List ℕ). length z ≤ suc (length net.routers)) (sym k.1) (trail_short net (r ∷ k.0) k.2)) in
    let few = order_short S w takes (NoLater net) outcome (length net.routers) below vs order in
    comes_to_rest S w takes (NoLater net) (λ (h : Route). length h.path) choosers outcome rested (suc (length net.routers)) speak vs ds kept short order
    (fewer_rounds S _ _ w ds (enough (length vs) (length net.routers) few) rounds)
