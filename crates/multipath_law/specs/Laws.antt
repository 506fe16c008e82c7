-- What holds of the ways of packets that are spread.
use Rattle.std.specs.Prelude.{◌≡◌, ◌↔◌, ℕ, suc, Bool, not, ◌&&◌, IsTrue, List, [], ◌∷◌, ◌++◌, length, Some, slice_get}
use Rattle.list_law.specs.Members.{IsIn}
use Rattle.net_base.specs.Network.{PlainNet, IsNet, is_router}
use Rattle.net_base.specs.Prefixes.{PlainPrefix, IsPrefix}
use Rattle.policy_base.specs.Policies.{PlainPolicy, PlainStatement, IsPolicyOf}
use Rattle.policy_base.specs.Governing.{is_origin, statement_of}
use Rattle.policy_base.specs.Permitted.{is_permitted, IsClaimedRouter, IsClaimedSession}
use Rattle.policy_base.specs.Walks.{is_loop_free}
use Rattle.graph_base.specs.Runs.{run}
use Rattle.config_base.specs.declared.route.Route.{Route}
use Rattle.config_base.specs.Configs.{PlainConfig}
use Rattle.config_base.specs.Lines.{class_of}
use Rattle.evidence_base.specs.Made.{PlainCaseEvidence, number_at}
use Rattle.outcome_base.specs.Outcomes.{Failures, Outcome, is_dead, route_at, offered, IsStable}
use Rattle.outcome_base.specs.Right.{IsGood, IsBest}
use Rattle.outcome_base.specs.Announcements.{Announcements, FullRoute, FullOutcome, Sent, full_at, silenced, offered_under, IsStableUnder}
use Rattle.evidence_law.specs.Passes.{Passes}
use Rattle.multipath_law.specs.Multipath.{IsTied, IsMember, IsTrail, IsWay, is_up, IsSpread, Arrive, IsWorse, IsLeft}
use Rattle.multipath_law.specs.Announced.{IsMemberUnder, ArriveUnder}
use Rattle.multipath_law.specs.Spread.{RepairsOnward, RepairsRight, PartsArriveToo, SpreadsArrive, SpreadsArriveUnder, SpreadsPackets, SpreadsRight, SpreadsRightUnder}
use Rattle.multipath_law.specs.Carried.{Carries, CarriesNothing, IsMultipath, live_links}
use Rattle.multipath_law.specs.declared.multipath.Multipath.{Multipath}

-- Whatever the configuration is and fails, in every stable outcome packets that are spread over multipath sets arrive. No set of a router
-- that holds a route is empty.
abbrev pub SpreadPacketsArrive : Type 0
SpreadPacketsArrive = (net : PlainNet) (policy : PlainPolicy) (config : PlainConfig) → IsNet net
    → SpreadsArrive net policy config

-- Routers may send packets to a part of their sets, if none is left with nobody.
abbrev pub PartsArrive : Type 0
PartsArrive = (net : PlainNet) (policy : PlainPolicy) (config : PlainConfig) → IsNet net
    → PartsArriveToo net policy config

-- Packets do go over each member: a way leads over it.
abbrev pub MembersCarry : Type 0
MembersCarry = (net : PlainNet) (policy : PlainPolicy) (config : PlainConfig) → IsNet net
    → (p : PlainPrefix) (f : Failures) (outcome : Outcome) → IsStable net policy config f p outcome
    → (r z : ℕ) → IsMember net policy config f p outcome r z → (more : List ℕ) × IsWay (IsMember net policy config f p outcome) (is_up net policy f p) (r ∷ z ∷ more)

-- And over nothing else.
abbrev pub OthersDont : Type 0
OthersDont = (net : PlainNet) (policy : PlainPolicy) (config : PlainConfig) (p : PlainPrefix) (f : Failures) (outcome : Outcome)
    → (front back : List ℕ) (a b : ℕ) → IsTrail (IsMember net policy config f p outcome) (front ++ a ∷ b ∷ back) → IsMember net policy config f p outcome a b

-- Over a link that is listed as idle no packet goes, and over every other live link some packet does.
abbrev pub IdleLinksCarryNothing : Type 0
IdleLinksCarryNothing = (net : PlainNet) (policy : PlainPolicy) (config : PlainConfig) → IsNet net
    → (p : PlainPrefix) (f : Failures) (outcome : Outcome) (m : Multipath) → IsStable net policy config f p outcome → IsMultipath net policy config f p outcome m
    → (a b : ℕ) → IsIn (live_links net f) (a, b)
    → (IsIn m.idle (a, b) → CarriesNothing net policy config f p outcome a b) × ((IsIn m.idle (a, b) → ⊥) → Carries net policy config f p outcome a b)

-- ---- ways are right

-- Ways over routes that tie in preference alone: where they come to no place twice,
pub record AreRightWays (net : PlainNet) (policy : PlainPolicy) (config : PlainConfig) (f : Failures) (p : PlainPrefix) (s : PlainStatement) (outcome : Outcome) (Sends : ℕ → ℕ → Type 0) : Type 0 where
  -- those of a claimed router are allowed, survive and have the best rank;
  pub used : (r : ℕ) (h : Route) (rest : List ℕ) → IsClaimedRouter net policy p s r → route_at outcome r ≡ Some h → IsWay Sends (is_up net policy f p) (r ∷ rest)
      → IsTrue (is_loop_free (r ∷ rest)) → IsGood net policy f p s (r ∷ rest) × IsBest net policy f p s (r ∷ []) (r ∷ rest)
  -- so are those of a router that offers a peer a path, with the peer in front, and over a claimed session they have the best rank;
  pub offers : (r peer : ℕ) (path rest : List ℕ) → offered net policy config f p outcome r peer ≡ Some path → IsWay Sends (is_up net policy f p) (r ∷ rest)
      → IsTrue (is_loop_free (r ∷ rest)) → IsGood net policy f p s (peer ∷ r ∷ rest)
  pub sessions : (r peer : ℕ) (path rest : List ℕ) → IsClaimedSession net policy p s r peer → offered net policy config f p outcome r peer ≡ Some path
      → IsWay Sends (is_up net policy f p) (r ∷ rest) → IsTrue (is_loop_free (r ∷ rest)) → IsBest net policy f p s (peer ∷ r ∷ []) (peer ∷ r ∷ rest)
  -- and those of every other router are suffixes of permitted walks.
  pub transit : (r : ℕ) (h : Route) (rest : List ℕ) → IsTrue (is_router net r && not (is_origin net policy p r)) → route_at outcome r ≡ Some h
      → IsWay Sends (is_up net policy f p) (r ∷ rest) → (above : List ℕ) × IsTrue (is_permitted net policy p s (above ++ r ∷ rest))

-- Where the evidence passes.
abbrev pub TiedWaysAreRight : Type 0
TiedWaysAreRight = (net : PlainNet) (policy : PlainPolicy) (config : PlainConfig) (cs : List PlainCaseEvidence) → IsNet net → IsPolicyOf net policy → Passes net policy config cs
    → (p : PlainPrefix) (f : Failures) (outcome : Outcome) (s : PlainStatement) → IsPrefix p → statement_of policy p ≡ Some s → length outcome ≡ length net.routers
    → IsStable net policy config f p outcome → AreRightWays net policy config f p s outcome (IsTied net policy config f p outcome)

-- Ways over multipath sets never come to a place twice, so they are right.
abbrev pub SpreadsAreRight : Type 0
SpreadsAreRight = (net : PlainNet) (policy : PlainPolicy) (config : PlainConfig) (cs : List PlainCaseEvidence) → IsNet net → IsPolicyOf net policy → Passes net policy config cs
    → SpreadsRight net policy config

-- In the graph of the case each tied way of a router runs to a node with the number of the router's route.
abbrev pub TiedWaysHaveNumbers : Type 0
TiedWaysHaveNumbers = (net : PlainNet) (policy : PlainPolicy) (config : PlainConfig) (cs : List PlainCaseEvidence) → IsNet net → IsPolicyOf net policy → Passes net policy config cs
    → (p : PlainPrefix) (f : Failures) (outcome : Outcome) (k : ℕ) (c : PlainCaseEvidence) → IsPrefix p → IsStable net policy config f p outcome
    → class_of config p ≡ Some (suc k) → slice_get cs k ≡ Some c
    → (r : ℕ) (h : Route) (rest : List ℕ) → IsTrue (is_router net r && not (is_origin net policy p r)) → route_at outcome r ≡ Some h
    → IsWay (IsTied net policy config f p outcome) (is_up net policy f p) (r ∷ rest) → (n : ℕ) × (run c.graph (r ∷ rest) ≡ Some n) × (number_at c n ≡ h.pref)

-- More has failed, and routers have only left out members to which their links are down. A way of a claimed router that is left is allowed, survives
-- what has failed now, and has the best rank of what survives that.
abbrev pub RepairsAreRight : Type 0
RepairsAreRight = (net : PlainNet) (policy : PlainPolicy) (config : PlainConfig) (cs : List PlainCaseEvidence) → IsNet net → IsPolicyOf net policy → Passes net policy config cs
    → RepairsRight net policy config

-- As long as each router that is up and holds a route has a member left, packets can go on to an origin that is up, wherever they have come to.
abbrev pub RepairsGoOn : Type 0
RepairsGoOn = (net : PlainNet) (policy : PlainPolicy) (config : PlainConfig) → IsNet net
    → RepairsOnward net policy config

-- Where what fails besides moves no route of a router that is up, as the failure of a link or router that is free does, each set loses exactly
-- those to which the link is down.
abbrev pub QuietFailuresTakeOff : Type 0
QuietFailuresTakeOff = (net : PlainNet) (policy : PlainPolicy) (config : PlainConfig) → IsNet net
    → (p : PlainPrefix) (f more : Failures) (before after : Outcome) → IsWorse f more
    → ((u : ℕ) → IsTrue (not (is_dead more u)) → route_at after u ≡ route_at before u)
    → (r z : ℕ) → IsMember net policy config more p after r z ↔ IsLeft net policy config f more p before r z

-- ---- where peers announce what they like

-- Packets arrive,
abbrev pub SpreadPacketsArriveUnder : Type 0
SpreadPacketsArriveUnder = (net : PlainNet) (policy : PlainPolicy) (config : PlainConfig) (cs : List PlainCaseEvidence) → IsNet net → IsPolicyOf net policy → Passes net policy config cs
    → SpreadsArriveUnder net policy config

-- and their ways are ways over ties of the outcome as far as its paths lead within the network, so they are right there.
abbrev pub SpreadsAreRightUnder : Type 0
SpreadsAreRightUnder = (net : PlainNet) (policy : PlainPolicy) (config : PlainConfig) (cs : List PlainCaseEvidence) → IsNet net → IsPolicyOf net policy → Passes net policy config cs
    → SpreadsRightUnder net policy config

-- ---- all of it

-- A configuration for which the evidence passes spreads packets right.
abbrev pub PassingEvidenceSpreadsRight : Type 0
PassingEvidenceSpreadsRight = (net : PlainNet) (policy : PlainPolicy) (config : PlainConfig) (cs : List PlainCaseEvidence) → IsNet net → IsPolicyOf net policy → Passes net policy config cs
    → SpreadsPackets net policy config
