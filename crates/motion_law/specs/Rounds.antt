-- What is heard after everything was sent and everything that waited was heard.
use Rattle.std.specs.Prelude.{◌≡◌, ℕ, zero, suc, ◌≤◌, ◌<◌, ◌+◌, Bool, true, false, IsTrue, List, [], ◌∷◌, length, Option, Some, None, if◌then◌else◌}
use Rattle.net_base.specs.Network.{PlainNet, is_router, linked}
use Rattle.net_base.specs.Prefixes.{PlainPrefix}
use Rattle.policy_base.specs.Policies.{PlainPolicy}
use Rattle.config_base.specs.Configs.{PlainConfig}
use Rattle.event_base.specs.World.{is}
use Rattle.outcome_base.specs.Announcements.{Sent}
use Rattle.motion_law.specs.Motion.{Motion, Move, Move as move, after_moves, at_the_start, has_to_say, live_in, moved}

-- what happens at each time, if anything
abbrev pub Schedule : Type 0
Schedule = ℕ → Option Move

-- nothing fails, comes up or says something else
abbrev pub is_calm : Option Move → Bool
is_calm None = true
is_calm (Some (move.hear a b)) = true
is_calm (Some (move.choose r u)) = true
is_calm (Some (move.send a b)) = true
is_calm (Some (move.say peer r o)) = false
is_calm (Some (move.link_down a b)) = false
is_calm (Some (move.link_up a b)) = false
is_calm (Some (move.router_down r)) = false
is_calm (Some (move.router_up r)) = false

abbrev pub IsCalm : Schedule → Type 0
IsCalm s = (t : ℕ) → IsTrue (is_calm (s t))

abbrev pub is_hear : ℕ → ℕ → Option Move → Bool
is_hear a b (Some (move.hear x y)) = is x y a b
is_hear a b _ = false

-- how often b hears from a before this time
abbrev pub hears : Schedule → ℕ → ℕ → ℕ → ℕ
hears s a b zero = 0
hears s a b (suc t) = if is_hear a b (s t) then suc (hears s a b t) else hears s a b t

module _ (net : PlainNet) (policy : PlainPolicy) (config : PlainConfig) (p : PlainPrefix) where
  abbrev pub stepped : Option Move → Motion → Motion
  stepped None w = w
  stepped (Some m) w = moved net policy config p m w

  -- the world at this time
  abbrev pub world_at : Schedule → Motion → ℕ → Motion
  world_at s w zero = w
  world_at s w (suc t) = stepped (s t) (world_at s w t)

  -- A round, from one time to another: first each location sends to each neighbour, then each hears as often as messages wait, and once
  -- at least, and then each router chooses. Whatever else happens meanwhile.
  pub record IsRound (s : Schedule) (w : Motion) (start end : ℕ) : Type 0 where
    pub all_sent : ℕ
    pub all_heard : ℕ
    pub order : (start ≤ all_sent) × (all_sent ≤ all_heard) × (all_heard ≤ end)
    pub sends : (a b : ℕ) → IsTrue (linked net a b) → (t : ℕ) × (start ≤ t) × (t < all_sent) × (s t ≡ Some (move.send a b))
    pub hears_all : (a b : ℕ) → IsTrue (linked net a b) → hears s a b all_sent + length ((world_at s w all_sent).queue a b) ≤ hears s a b all_heard
    pub hears_once : (a b : ℕ) → IsTrue (linked net a b) → hears s a b all_sent < hears s a b all_heard
    pub chooses : (r : ℕ) → IsTrue (is_router net r) → (t : ℕ) × (u : ℕ) × (all_heard ≤ t) × (t < end) × (s t ≡ Some (move.choose r u))

abbrev pub Each : (Option Sent → Bool) → List (Option Sent) → Type 0
Each q [] = Unit {0}
Each q (m ∷ ms) = IsTrue (q m) × Each q ms

-- Where a has only what is so to say on a live direction from the start of a round on, b has heard what is so alone from its end on, and
-- what waits is so. And on a direction that is dead b has heard nothing then.
pub record RoundRemembers (net : PlainNet) (policy : PlainPolicy) (config : PlainConfig) (p : PlainPrefix) (s : Schedule) (w : Motion) (start end : ℕ) : Type 0 where
  pub live : (a b : ℕ) (q : Option Sent → Bool) → IsTrue (live_in net policy config p w a b)
      → ((t : ℕ) → start ≤ t → IsTrue (q (has_to_say net policy config p (world_at net policy config p s w t) a b)))
      → (t : ℕ) → end ≤ t → Each q ((world_at net policy config p s w t).heard a b ∷ (world_at net policy config p s w t).queue a b)
  pub dead : (a b : ℕ) → IsTrue (linked net a b) → live_in net policy config p w a b ≡ false → (t : ℕ) → end ≤ t → (world_at net policy config p s w t).heard a b ≡ None

-- So it is after whatever has happened, in whatever calm schedule.
abbrev pub RoundsRemember : Type 0
RoundsRemember = (net : PlainNet) (policy : PlainPolicy) (config : PlainConfig) (p : PlainPrefix) (before : List Move) (s : Schedule) (start end : ℕ) → IsCalm s
    → IsRound net policy config p s (after_moves net policy config p before (at_the_start net policy config p)) start end
    → RoundRemembers net policy config p s (after_moves net policy config p before (at_the_start net policy config p)) start end
