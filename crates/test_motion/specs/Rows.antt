-- What routers hold after moves, worked by hand: the path, and the AS numbers behind it.
use Rattle.std.specs.Prelude.{◌≡◌, ℕ, List, [], ◌∷◌, ◌++◌, Option, Some, None, option_map}
use Rattle.net_base.specs.Network.{PlainNet}
use Rattle.net_base.specs.Numbers.{no_tag}
use Rattle.config_base.specs.Configs.{PlainConfig}
use Rattle.outcome_base.specs.Announcements.{FullRoute}
use Rattle.motion_law.specs.Motion.{Move, Move as move, after_moves, at_the_start}
use Rattle.test_motion.specs.Networks.{default_route, exits, exits_config, mark, policy, triangle, triangle_config}

abbrev pub Held : Type 0
Held = Option (List ℕ × List ℕ)

abbrev pub held_in : PlainNet → PlainConfig → ℕ → List Move → Held
held_in net config r ms = option_map (λ (t : FullRoute). (t.route.path, t.behind)) ((after_moves net policy config default_route ms (at_the_start net policy config default_route)).route r)

-- from now on the peer says to the router its own number and these
abbrev pub says : ℕ → ℕ → List ℕ → Move
says peer r behind = move.say peer r (Some (record { behind = behind; tag = no_tag }))

-- the same path as at the start, with a tag
abbrev pub says_anew : ℕ → ℕ → Move
says_anew peer r = move.say peer r (Some (record { behind = []; tag = mark 1 }))

-- ---- a router between two peers

abbrev pub held : List Move → Held
held = held_in exits exits_config 0

-- both peers have sent what they say, and the router has heard it
abbrev pub told : List Move
told = move.send 1 0 ∷ move.send 2 0 ∷ move.hear 1 0 ∷ move.hear 2 0 ∷ []

pub record BetweenPeers : Type 0 where
  -- What is sent isn't heard yet, and what is heard isn't held yet.
  pub sent : held (move.send 1 0 ∷ move.choose 0 1 ∷ []) ≡ None
  pub heard : held told ≡ None
  -- The two routes tie. The first time it takes the one that is named,
  pub named : held (told ++ move.choose 0 1 ∷ []) ≡ Some (0 ∷ 1 ∷ [], [])
  pub other : held (told ++ move.choose 0 2 ∷ []) ≡ Some (0 ∷ 2 ∷ [], [])
  -- and then it isn't free to take the other one each time, but stays with it until there is news of a route that ties.
  pub keeps : held (told ++ move.choose 0 1 ∷ move.choose 0 2 ∷ []) ≡ Some (0 ∷ 1 ∷ [], [])
  pub unsent : held (told ++ move.choose 0 1 ∷ says_anew 2 0 ∷ move.choose 0 2 ∷ []) ≡ Some (0 ∷ 1 ∷ [], [])
  pub news : held (told ++ move.choose 0 1 ∷ says_anew 2 0 ∷ move.send 2 0 ∷ move.hear 2 0 ∷ move.choose 0 2 ∷ []) ≡ Some (0 ∷ 2 ∷ [], [])
  -- What a peer has sent before isn't sent again.
  pub once : held (told ++ move.choose 0 1 ∷ move.send 2 0 ∷ move.hear 2 0 ∷ move.choose 0 2 ∷ []) ≡ Some (0 ∷ 1 ∷ [], [])
  -- Whole paths are compared: a longer one isn't taken, though it is named, and two that are as long tie.
  pub longer : held (says 1 0 (1001 ∷ []) ∷ told ++ move.choose 0 1 ∷ []) ≡ Some (0 ∷ 2 ∷ [], [])
  pub as_long : held (says 1 0 (1001 ∷ []) ∷ says 2 0 (7 ∷ []) ∷ told ++ move.choose 0 1 ∷ []) ≡ Some (0 ∷ 1 ∷ [], 1001 ∷ [])
  -- A path with the router's number is refused.
  pub ours : held (says 1 0 (64512 ∷ []) ∷ move.send 1 0 ∷ move.hear 1 0 ∷ move.choose 0 1 ∷ []) ≡ None
  -- A session that is gone is used until its end hears of it,
  pub late : held (told ++ move.choose 0 1 ∷ move.link_down 0 1 ∷ move.choose 0 2 ∷ []) ≡ Some (0 ∷ 1 ∷ [], [])
  pub noticed : held (told ++ move.choose 0 1 ∷ move.link_down 0 1 ∷ move.hear 1 0 ∷ move.choose 0 2 ∷ []) ≡ Some (0 ∷ 2 ∷ [], [])
  -- and what waits in it is lost, until it is sent anew.
  pub lost : held (move.send 1 0 ∷ move.link_down 0 1 ∷ move.link_up 0 1 ∷ move.hear 1 0 ∷ move.choose 0 1 ∷ []) ≡ None
  pub anew : held (move.send 1 0 ∷ move.link_down 0 1 ∷ move.link_up 0 1 ∷ move.send 1 0 ∷ move.hear 1 0 ∷ move.choose 0 1 ∷ []) ≡ Some (0 ∷ 1 ∷ [], [])

-- ---- two routers and a peer, each linked with the others

-- what the two routers hold
abbrev pub both : List Move → Held × Held
both ms = (held_in triangle triangle_config 0 ms, held_in triangle triangle_config 1 ms)

-- All send, then all hear, and then each router chooses and names the other one, whose identifier is lower than the peer's.
abbrev pub round : List Move
round = move.send 2 0 ∷ move.send 2 1 ∷ move.send 0 1 ∷ move.send 1 0 ∷ move.hear 2 0 ∷ move.hear 2 1 ∷ move.hear 0 1 ∷ move.hear 1 0 ∷ move.choose 0 1 ∷ move.choose 1 0 ∷ []

-- each holds its own way to the peer
abbrev pub own_ways : Held × Held
own_ways = (Some (0 ∷ 2 ∷ [], []), Some (1 ∷ 2 ∷ [], []))

-- from now on the peer says nothing
abbrev pub silence : List Move
silence = move.say 2 0 None ∷ move.say 2 1 None ∷ []

pub record InATriangle : Type 0 where
  -- Since lengths are compared neither takes the route of the other one, in no round. Where they aren't, this is a network that never
  -- rests.
  pub first : both round ≡ own_ways
  pub second : both (round ++ round) ≡ own_ways
  pub third : both (round ++ round ++ round) ≡ own_ways
  -- Where its own way is lost, one does.
  pub detour : both (round ++ round ++ move.link_down 0 2 ∷ round) ≡ (Some (0 ∷ 1 ∷ 2 ∷ [], []), Some (1 ∷ 2 ∷ [], []))
  -- Where the peer withdraws what it said, each takes what the other one held, and then nothing is left.
  pub withdrawn : both (round ++ silence ++ round) ≡ (Some (0 ∷ 1 ∷ 2 ∷ [], []), Some (1 ∷ 0 ∷ 2 ∷ [], []))
  pub nothing : both (round ++ silence ++ round ++ round) ≡ (None, None)
