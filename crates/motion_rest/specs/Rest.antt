-- A network in motion comes to rest: where nothing more fails, no peer changes what it says, each location goes on sending and hearing, and
-- each router choosing, messages come to an end, however ties are broken.
use Rattle.std.specs.Prelude.{◌≡◌, ℕ, zero, suc, ◌≤◌, ◌+◌, ◌*◌, IsTrue, false, not, ◌&&◌, List, [], ◌++◌, length, map, Some, None}
use Rattle.net_base.specs.Locations.{numbers_below}
use Rattle.net_base.specs.Network.{PlainNet, IsNet, is_router, linked}
use Rattle.net_base.specs.Prefixes.{PlainPrefix, IsPrefix}
use Rattle.policy_base.specs.Policies.{PlainPolicy, IsPolicyOf}
use Rattle.policy_base.specs.Governing.{is_origin}
use Rattle.config_base.specs.Configs.{PlainConfig}
use Rattle.evidence_base.specs.Made.{PlainCaseEvidence}
use Rattle.outcome_base.specs.Announcements.{Announcements, FullOutcome, FullRoute, IsStableUnder, given_under, sent_under}
use Rattle.outcome_base.specs.Outcomes.{Failures, is_dead, is_dead_link, is_live, is_silent}
use Rattle.evidence_law.specs.Passes.{Passes}
use Rattle.motion_law.specs.Motion.{Motion, Move, Move as move, after_moves, at_the_start}
use Rattle.motion_law.specs.Rounds.{IsCalm, IsRound, Schedule, world_at}

-- what is down and cut in the world; no session is silent but where its peer has nothing to say
pub record IsScenarioIn (net : PlainNet) (w : Motion) (f : Failures) : Type 0 where
  pub dead : (l : ℕ) → is_dead f l ≡ w.down l
  pub links : (a b : ℕ) → IsTrue (linked net a b) → is_dead_link f a b ≡ w.cut a b
  pub silent : (r q : ℕ) → IsTrue (not (is_silent f r q))

-- the routes of the world, one entry a router
abbrev pub full_of : PlainNet → Motion → FullOutcome
full_of net w = map w.route (numbers_below (length net.routers))

-- The world is at rest while the peers say this:
pub record IsAtRestIn (net : PlainNet) (policy : PlainPolicy) (config : PlainConfig) (p : PlainPrefix) (f : Failures) (says : Announcements) (w : Motion) : Type 0 where
  -- no message waits,
  pub quiet : (a b : ℕ) → IsTrue (linked net a b) → w.queue a b ≡ []
  -- no router would choose again,
  pub stable : IsStableUnder net policy config f says p (full_of net w)
  -- no router is given a route with the preference of its own one and fewer AS numbers,
  pub fewest : (r u : ℕ) (x y : FullRoute) → IsTrue (is_router net r && not (is_origin net policy p r)) → w.route r ≡ Some x
      → given_under net config f says p (full_of net w) u r ≡ Some y → y.route.pref ≡ x.route.pref → length (x.route.path ++ x.behind) ≤ length (y.route.path ++ y.behind)
  -- and what was last heard over a live session is what is sent over it, and over one that isn't live nothing.
  pub heard : (a b : ℕ) → IsTrue (is_live net f a b) → w.heard a b ≡ sent_under net config f says p (full_of net w) a b
  pub gone : (a b : ℕ) → IsTrue (linked net a b) → is_live net f a b ≡ false → w.heard a b ≡ None

module _ (net : PlainNet) (policy : PlainPolicy) (config : PlainConfig) (p : PlainPrefix) (s : Schedule) (w : Motion) where
  -- so many rounds, one after another, and then whatever else
  abbrev pub AreRounds : ℕ → ℕ → ℕ → Type 0
  AreRounds zero start end = start ≤ end
  AreRounds (suc k) start end = (middle : ℕ) × IsRound net policy config p s w start middle × AreRounds k middle end

-- So many rounds are enough: R * (R + 3) + 1, for R routers.
abbrev pub rounds_enough : PlainNet → ℕ
rounds_enough net = suc (length net.routers * (length net.routers + 3))

-- No direction of a link and no router is forgotten for ever.
pub record IsFair (net : PlainNet) (s : Schedule) : Type 0 where
  pub sends : (a b t : ℕ) → IsTrue (linked net a b) → (i : ℕ) × (t ≤ i) × (s i ≡ Some (move.send a b))
  pub hears : (a b t : ℕ) → IsTrue (linked net a b) → (i : ℕ) × (t ≤ i) × (s i ≡ Some (move.hear a b))
  pub chooses : (r t : ℕ) → IsTrue (is_router net r) → (i : ℕ) × (u : ℕ) × (t ≤ i) × (s i ≡ Some (move.choose r u))

module _ (net : PlainNet) (policy : PlainPolicy) (config : PlainConfig) (p : PlainPrefix) where
  -- the world after these moves
  abbrev pub world_before : List Move → Motion
  world_before before = after_moves net policy config p before (at_the_start net policy config p)

  -- From this time on it is at rest, and its routes stay.
  abbrev pub RestsFrom : Failures → Schedule → Motion → ℕ → Type 0
  RestsFrom f s w end =
      (t : ℕ) → end ≤ t → IsAtRestIn net policy config p f w.says (world_at net policy config p s w t)
      × ((r : ℕ) → IsTrue (is_router net r) → (world_at net policy config p s w t).route r ≡ (world_at net policy config p s w end).route r)

  -- The network comes to rest for the prefix, whatever has happened, and whatever has failed and the peers say by then, once nothing more
  -- fails and no peer changes what it says:
  pub record RestsInMotion : Type 0 where
    -- after so many rounds it is at rest, and stays so,
    pub rounds : (before : List Move) (f : Failures) (s : Schedule) (end : ℕ) → IsScenarioIn net (world_before before) f → IsCalm s
        → AreRounds net policy config p s (world_before before) (rounds_enough net) 0 end → RestsFrom f s (world_before before) end
    -- and so it is from some time on in each schedule that forgets nobody.
    pub fair : (before : List Move) (f : Failures) (s : Schedule) → IsScenarioIn net (world_before before) f → IsCalm s → IsFair net s
        → (end : ℕ) × RestsFrom f s (world_before before) end

-- So it is where the evidence passes, for every prefix.
abbrev pub PassingEvidenceRests : Type 0
PassingEvidenceRests =
    (net : PlainNet) (policy : PlainPolicy) (config : PlainConfig) (cs : List PlainCaseEvidence) → IsNet net → IsPolicyOf net policy
    → Passes net policy config cs → (p : PlainPrefix) → IsPrefix p → RestsInMotion net policy config p
