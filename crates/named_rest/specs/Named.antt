-- Ties by the lowest identifier, in motion and in outcomes, where peers say any path.
use Rattle.std.specs.Prelude.{◌≡◌, ℕ, suc, ◌≤◌, Bool, nat_lt, not, ◌&&◌, IsTrue, List, [], ◌∷◌, ◌++◌, length, Option, Some, option_and_then}
use Rattle.std.specs.List.{find, list_any}
use Rattle.net_base.specs.Locations.{neighbours}
use Rattle.net_base.specs.Network.{PlainNet, IsNet, id_of, is_router}
use Rattle.net_base.specs.Prefixes.{PlainPrefix, IsPrefix}
use Rattle.policy_base.specs.Policies.{PlainPolicy, IsPolicyOf}
use Rattle.policy_base.specs.Governing.{is_origin}
use Rattle.config_base.specs.Configs.{PlainConfig}
use Rattle.evidence_base.specs.Made.{PlainCaseEvidence}
use Rattle.outcome_base.specs.Announcements.{Announcements, FullOutcome, FullRoute, IsStableUnder, full_at, given_under}
use Rattle.outcome_base.specs.Outcomes.{Failures, is_dead, is_silent}
use Rattle.evidence_law.specs.Passes.{Passes}
use Rattle.routing_law.specs.Network.{giver}
use Rattle.motion_law.specs.Motion.{Motion, Move, Move as move, at_the_start, gift, is_top, moved}
use Rattle.motion_law.specs.Rounds.{IsCalm, Schedule, world_at}
use Rattle.motion_rest.specs.Rest.{IsFair, IsScenarioIn, RestsFrom, full_of, world_before}

-- ---- outcomes

-- t comes no later than g: by preference, then by the number of AS numbers of the whole path, then by the identifier of the neighbour
pub record IsNoLaterUnder (net : PlainNet) (t g : FullRoute) : Type 0 where
  pub higher : g.route.pref ≤ t.route.pref
  pub fewer : g.route.pref ≡ t.route.pref → length (t.route.path ++ t.behind) ≤ length (g.route.path ++ g.behind)
  pub lower : g.route.pref ≡ t.route.pref → length (t.route.path ++ t.behind) ≡ length (g.route.path ++ g.behind) → id_of net (giver t.route.path) ≤ id_of net (giver g.route.path)

-- a stable outcome in which ties are broken so, while the peers say this
pub record IsFullyStableUnder (net : PlainNet) (policy : PlainPolicy) (config : PlainConfig) (f : Failures) (says : Announcements) (p : PlainPrefix) (full : FullOutcome) : Type 0 where
  pub stable : IsStableUnder net policy config f says p full
  pub first : (r z : ℕ) (t g : FullRoute) → IsTrue (is_router net r && not (is_origin net policy p r) && not (is_dead f r)) → full_at full r ≡ Some t
      → given_under net config f says p full z r ≡ Some g → IsNoLaterUnder net t g

-- Where the evidence passes there is one at most, whatever has failed and the peers say. A peer that says nothing stands for a silent session.
abbrev pub FullyStableUnderAreOne : Type 0
FullyStableUnderAreOne =
    (net : PlainNet) (policy : PlainPolicy) (config : PlainConfig) (cs : List PlainCaseEvidence) → IsNet net → IsPolicyOf net policy → Passes net policy config cs
    → (p : PlainPrefix) (f : Failures) (says : Announcements) → IsPrefix p → ((r q : ℕ) → IsTrue (not (is_silent f r q)))
    → (a b : FullOutcome) → length a ≡ length net.routers → length b ≡ length net.routers
    → IsFullyStableUnder net policy config f says p a → IsFullyStableUnder net policy config f says p b → a ≡ b

-- ---- in motion

module _ (net : PlainNet) (policy : PlainPolicy) (config : PlainConfig) (p : PlainPrefix) where
  -- u gives r one of the first routes, and no neighbour with a lower identifier does
  abbrev pub is_lowest : Motion → ℕ → ℕ → Bool
  is_lowest w r u = is_top net policy config p w r u && not (list_any (λ z. is_top net policy config p w r z && nat_lt (id_of net z) (id_of net u)) (neighbours net r))

  abbrev pub lowest : Motion → ℕ → Option ℕ
  lowest w r = find (is_lowest w r) (neighbours net r)

  -- of the first routes, the one from the neighbour with the lowest identifier
  abbrev pub lowest_gift : Motion → ℕ → Option FullRoute
  lowest_gift w r = option_and_then (gift net policy config p w r) (lowest w r)

  -- where a router chooses, that neighbour is named
  abbrev pub IsNamed : Option Move → Motion → Type 0
  IsNamed (Some (move.choose r u)) w = (z : ℕ) → lowest w r ≡ Some z → u ≡ z
  IsNamed _ w = Unit {0}

  abbrev pub AreNamed : List Move → Motion → Type 0
  AreNamed [] w = Unit {0}
  AreNamed (m ∷ ms) w = IsNamed (Some m) w × AreNamed ms (moved net policy config p m w)

  abbrev pub IsNamedSchedule : Schedule → Motion → Type 0
  IsNamedSchedule s w = (t : ℕ) → IsNamed (s t) (world_at net policy config p s w t)

  -- From this time on each router that chooses holds that neighbour's route afterwards.
  abbrev pub TakesLowest : Schedule → Motion → ℕ → Type 0
  TakesLowest s w start =
      (t r u : ℕ) → start ≤ t → s t ≡ Some (move.choose r u) → IsTrue (is_router net r && not (is_origin net policy p r) && not (w.down r))
      → (world_at net policy config p s w (suc t)).route r ≡ lowest_gift (world_at net policy config p s w t) r

-- Where each choice has named it from the start on, each router takes it: none ever holds on to another route.
abbrev pub NamedChoicesTakeLowest : Type 0
NamedChoicesTakeLowest =
    (net : PlainNet) (policy : PlainPolicy) (config : PlainConfig) (p : PlainPrefix) (before : List Move) (s : Schedule) → IsNet net
    → AreNamed net policy config p before (at_the_start net policy config p) → IsCalm s → IsNamedSchedule net policy config p s (world_before net policy config p before)
    → TakesLowest net policy config p s (world_before net policy config p before) 0

-- From this time on the routes are the one fully stable outcome.
pub record RestsInOne (net : PlainNet) (policy : PlainPolicy) (config : PlainConfig) (p : PlainPrefix) (f : Failures) (s : Schedule) (w : Motion) (end : ℕ) : Type 0 where
  pub rests : RestsFrom net policy config p f s w end
  pub settled : (t : ℕ) → end ≤ t → IsFullyStableUnder net policy config f w.says p (full_of net (world_at net policy config p s w t))
  pub alone : (t : ℕ) → end ≤ t → (other : FullOutcome) → length other ≡ length net.routers → IsFullyStableUnder net policy config f w.says p other
      → other ≡ full_of net (world_at net policy config p s w t)

-- So it is where the evidence passes, whatever has happened before, in each schedule that forgets nobody and in which routers take the lowest from
-- some time on. So the end depends on what is down and cut and on what the peers say, and on nothing else.
abbrev pub TiesByNameHaveOneEnd : Type 0
TiesByNameHaveOneEnd =
    (net : PlainNet) (policy : PlainPolicy) (config : PlainConfig) (cs : List PlainCaseEvidence) → IsNet net → IsPolicyOf net policy → Passes net policy config cs
    → (p : PlainPrefix) → IsPrefix p → (before : List Move) (f : Failures) (s : Schedule) (start : ℕ) → IsScenarioIn net (world_before net policy config p before) f → IsCalm s → IsFair net s
    → TakesLowest net policy config p s (world_before net policy config p before) start
    → (end : ℕ) × RestsInOne net policy config p f s (world_before net policy config p before) end
