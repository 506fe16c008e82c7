-- What holds of a configuration if routers spread packets over routes that tie with their own.
use Rattle.std.specs.Prelude.{◌≡◌, ℕ, Bool, not, ◌&&◌, IsTrue, List, [], ◌∷◌, ◌++◌, length, Some}
use Rattle.net_base.specs.Network.{PlainNet, is_router}
use Rattle.net_base.specs.Prefixes.{PlainPrefix, IsPrefix}
use Rattle.policy_base.specs.Policies.{PlainPolicy, PlainStatement}
use Rattle.policy_base.specs.Governing.{is_origin, statement_of}
use Rattle.policy_base.specs.Permitted.{is_permitted, IsClaimedRouter, IsClaimedSession}
use Rattle.config_base.specs.declared.route.Route.{Route}
use Rattle.config_base.specs.Configs.{PlainConfig}
use Rattle.outcome_base.specs.Outcomes.{Failures, Outcome, is_dead, route_at, offered, IsStable}
use Rattle.outcome_base.specs.Right.{IsGood, IsBest}
use Rattle.outcome_base.specs.Announcements.{Announcements, FullRoute, FullOutcome, Sent, full_at, silenced, offered_under, IsStableUnder}
use Rattle.multipath_law.specs.Multipath.{IsMember, IsTrail, IsWay, is_up, IsSpread, Arrive, IsWorse, IsLeft}
use Rattle.multipath_law.specs.Announced.{IsMemberUnder, ArriveUnder}

-- In every stable outcome packets that are spread over multipath sets arrive. No set of a router that holds a route is empty.
abbrev pub SpreadsArrive : PlainNet → PlainPolicy → PlainConfig → Type 0
SpreadsArrive net policy config = (p : PlainPrefix) (f : Failures) (outcome : Outcome) → IsStable net policy config f p outcome
    → IsSpread net policy config f p outcome (IsMember net policy config f p outcome)
    × ((r : ℕ) (h : Route) → IsTrue (is_router net r) → route_at outcome r ≡ Some h → Arrive net policy f p outcome (IsMember net policy config f p outcome) r h)

-- Routers may send packets to a part of their sets, if none is left with nobody.
abbrev pub PartsArriveToo : PlainNet → PlainPolicy → PlainConfig → Type 0
PartsArriveToo net policy config = (p : PlainPrefix) (f : Failures) (outcome : Outcome) → IsStable net policy config f p outcome
    → (sends : ℕ → ℕ → Bool) → IsSpread net policy config f p outcome (λ r z. IsTrue (sends r z))
    → (r : ℕ) (h : Route) → IsTrue (is_router net r) → route_at outcome r ≡ Some h → Arrive net policy f p outcome (λ u z. IsTrue (sends u z)) r h

-- ---- ways are right

-- Ways over multipath sets are right: those of a claimed router, of what peers are offered, and of claimed sessions; and every other router's are suffixes of
-- permitted walks.
pub record AreRightSpreads (net : PlainNet) (policy : PlainPolicy) (config : PlainConfig) (f : Failures) (p : PlainPrefix) (s : PlainStatement) (outcome : Outcome) : Type 0 where
  pub used : (r : ℕ) (h : Route) (rest : List ℕ) → IsClaimedRouter net policy p s r → route_at outcome r ≡ Some h
      → IsWay (IsMember net policy config f p outcome) (is_up net policy f p) (r ∷ rest) → IsGood net policy f p s (r ∷ rest) × IsBest net policy f p s (r ∷ []) (r ∷ rest)
  pub offers : (r peer : ℕ) (path rest : List ℕ) → offered net policy config f p outcome r peer ≡ Some path
      → IsWay (IsMember net policy config f p outcome) (is_up net policy f p) (r ∷ rest) → IsGood net policy f p s (peer ∷ r ∷ rest)
  pub sessions : (r peer : ℕ) (path rest : List ℕ) → IsClaimedSession net policy p s r peer → offered net policy config f p outcome r peer ≡ Some path
      → IsWay (IsMember net policy config f p outcome) (is_up net policy f p) (r ∷ rest) → IsBest net policy f p s (peer ∷ r ∷ []) (peer ∷ r ∷ rest)
  pub transit : (r : ℕ) (h : Route) (rest : List ℕ) → IsTrue (is_router net r && not (is_origin net policy p r)) → route_at outcome r ≡ Some h
      → IsWay (IsMember net policy config f p outcome) (is_up net policy f p) (r ∷ rest) → (above : List ℕ) × IsTrue (is_permitted net policy p s (above ++ r ∷ rest))

abbrev pub SpreadsRight : PlainNet → PlainPolicy → PlainConfig → Type 0
SpreadsRight net policy config = (p : PlainPrefix) (f : Failures) (outcome : Outcome) (s : PlainStatement) → IsPrefix p → statement_of policy p ≡ Some s → length outcome ≡ length net.routers
    → IsStable net policy config f p outcome → AreRightSpreads net policy config f p s outcome

-- More has failed, and routers have only left out members to which their links are down. A way of a claimed router that is left is allowed, survives
-- what has failed now, and has the best rank of what survives that.
abbrev pub RepairsRight : PlainNet → PlainPolicy → PlainConfig → Type 0
RepairsRight net policy config = (p : PlainPrefix) (f more : Failures) (outcome : Outcome) (s : PlainStatement) → IsPrefix p → statement_of policy p ≡ Some s → length outcome ≡ length net.routers
    → IsStable net policy config f p outcome → IsWorse f more
    → (r : ℕ) (h : Route) (rest : List ℕ) → IsClaimedRouter net policy p s r → route_at outcome r ≡ Some h
    → IsWay (IsLeft net policy config f more p outcome) (is_up net policy more p) (r ∷ rest)
    → IsGood net policy more p s (r ∷ rest) × IsBest net policy more p s (r ∷ []) (r ∷ rest)

-- As long as each router that is up and holds a route has a member left, packets can go on to an origin that is up, wherever they have come to.
abbrev pub RepairsOnward : PlainNet → PlainPolicy → PlainConfig → Type 0
RepairsOnward net policy config = (p : PlainPrefix) (f more : Failures) (outcome : Outcome) → IsStable net policy config f p outcome
    → ((r : ℕ) (h : Route) → IsTrue (is_router net r && not (is_origin net policy p r)) → IsTrue (not (is_dead more r)) → route_at outcome r ≡ Some h
    → (z : ℕ) × IsLeft net policy config f more p outcome r z)
    → (r : ℕ) (h : Route) (rest : List ℕ) → IsTrue (is_router net r) → IsTrue (not (is_dead more r)) → route_at outcome r ≡ Some h
    → IsTrail (IsLeft net policy config f more p outcome) (r ∷ rest)
    → (onward : List ℕ) × IsWay (IsLeft net policy config f more p outcome) (is_up net policy more p) ((r ∷ rest) ++ onward)

-- ---- where peers announce what they like

abbrev pub SpreadsArriveUnder : PlainNet → PlainPolicy → PlainConfig → Type 0
SpreadsArriveUnder net policy config = (p : PlainPrefix) (f : Failures) (says : Announcements) (full : FullOutcome) → IsPrefix p → IsStableUnder net policy config f says p full
    → (r : ℕ) (t : FullRoute) → IsTrue (is_router net r) → full_at full r ≡ Some t → ArriveUnder net policy config f says p full r t

-- Where peers announce what they like, they are right for the sessions over which something of use comes.
pub record AreRightSpreadsUnder (net : PlainNet) (policy : PlainPolicy) (config : PlainConfig) (f : Failures) (says : Announcements) (p : PlainPrefix) (s : PlainStatement) (full : FullOutcome) : Type 0 where
  pub used : (r : ℕ) (t : FullRoute) (rest : List ℕ) → IsClaimedRouter net policy p s r → full_at full r ≡ Some t
      → IsWay (IsMemberUnder net policy config f says p full) (is_up net policy f p) (r ∷ rest)
      → IsGood net policy (silenced net says f) p s (r ∷ rest) × IsBest net policy (silenced net says f) p s (r ∷ []) (r ∷ rest)
  pub offers : (r peer : ℕ) (m : Sent) (rest : List ℕ) → offered_under net config f says p full r peer ≡ Some m
      → IsWay (IsMemberUnder net policy config f says p full) (is_up net policy f p) (r ∷ rest) → IsGood net policy (silenced net says f) p s (peer ∷ r ∷ rest)
  pub sessions : (r peer : ℕ) (m : Sent) (rest : List ℕ) → IsClaimedSession net policy p s r peer → offered_under net config f says p full r peer ≡ Some m
      → IsWay (IsMemberUnder net policy config f says p full) (is_up net policy f p) (r ∷ rest) → IsBest net policy (silenced net says f) p s (peer ∷ r ∷ []) (peer ∷ r ∷ rest)
  pub transit : (r : ℕ) (t : FullRoute) (rest : List ℕ) → IsTrue (is_router net r && not (is_origin net policy p r)) → full_at full r ≡ Some t
      → IsWay (IsMemberUnder net policy config f says p full) (is_up net policy f p) (r ∷ rest) → (above : List ℕ) × IsTrue (is_permitted net policy p s (above ++ r ∷ rest))

abbrev pub SpreadsRightUnder : PlainNet → PlainPolicy → PlainConfig → Type 0
SpreadsRightUnder net policy config = (p : PlainPrefix) (f : Failures) (says : Announcements) (full : FullOutcome) (s : PlainStatement) → IsPrefix p → statement_of policy p ≡ Some s → length full ≡ length net.routers
    → IsStableUnder net policy config f says p full → AreRightSpreadsUnder net policy config f says p s full

-- ---- all of it

-- Packets may be spread: in every stable outcome, over multipath sets or parts of them, they arrive, by right ways; so they do while routers leave out
-- neighbours to which links are down; and so where peers announce what they like.
pub record SpreadsPackets (net : PlainNet) (policy : PlainPolicy) (config : PlainConfig) : Type 0 where
  pub arrive : SpreadsArrive net policy config
  pub parts : PartsArriveToo net policy config
  pub right : SpreadsRight net policy config
  pub repairs : RepairsRight net policy config
  pub onward : RepairsOnward net policy config
  pub arrive_under : SpreadsArriveUnder net policy config
  pub right_under : SpreadsRightUnder net policy config
