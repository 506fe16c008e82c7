-- The machine of events, in which each router chooses and sends at once, as moves of the one in which it does so when it likes.
use Rattle.std.specs.Prelude.{◌≡◌, ℕ, ◌+◌, not, ◌&&◌, List, [], ◌∷◌, ◌++◌, map, flat_map, length, Option, Some, None, option_map, unwrap_or, if◌then◌else◌}
use Rattle.net_base.specs.Locations.{neighbours, numbers_below}
use Rattle.net_base.specs.Network.{PlainNet, IsNet, is_router}
use Rattle.net_base.specs.Numbers.{no_tag}
use Rattle.net_base.specs.Prefixes.{PlainPrefix}
use Rattle.policy_base.specs.Policies.{PlainPolicy}
use Rattle.policy_base.specs.Governing.{is_origin}
use Rattle.config_base.specs.declared.route.Route.{Route}
use Rattle.config_base.specs.Configs.{PlainConfig}
use Rattle.event_base.specs.declared.event.Event.{Event}
use Rattle.event_base.specs.declared.event.Event.TheVariants.{Deliver, LinkDown, LinkUp, RouterDown, RouterUp, PeerSpeak, PeerSilent}
use Rattle.event_base.specs.declared.event.EventFault.{EventFault}
use Rattle.event_base.specs.Speaking.{speakers_of}
use Rattle.event_base.specs.Steps.{fault_of, happens, opening}
use Rattle.event_base.specs.World.{World}
use Rattle.event_law.specs.Laws.{world_after}
use Rattle.outcome_base.specs.Announcements.{Announced}
use Rattle.motion_law.specs.Events.{held_alone, sent_alone}
use Rattle.motion_law.specs.Motion.{Motion, Move, Move as move, after_moves, at_the_start}
use Rattle.named_rest.specs.Named.{AreNamed, lowest}

module _ (net : PlainNet) (policy : PlainPolicy) (config : PlainConfig) (p : PlainPrefix) where
  -- what a peer has to say where it announces the path of itself alone, if it's an origin
  abbrev pub itself : ℕ → Option Announced
  itself peer = if is_origin net policy p peer then Some (record { behind = []; tag = no_tag }) else None

  -- A world of events and one in motion are the same: all is down, cut, waiting, heard, last queued and held in the second that is so in the
  -- first, with nothing behind any path, and each peer that isn't silent says the path of itself.
  pub record Corresponds (e : World Route) (w : Motion) : Type 0 where
    pub down : (r : ℕ) → w.down r ≡ e.down r
    pub cut : (a b : ℕ) → w.cut a b ≡ e.cut a b
    pub says : (peer r : ℕ) → w.says peer r ≡ (if e.silent r peer then None else itself peer)
    pub queue : (a b : ℕ) → w.queue a b ≡ map (option_map sent_alone) (e.queue a b)
    pub heard : (a b : ℕ) → w.heard a b ≡ option_map sent_alone (e.heard a b)
    pub queued : (a b : ℕ) → w.queued a b ≡ option_map sent_alone (e.queued a b)
    pub route : (r : ℕ) → w.route r ≡ option_map held_alone (e.route r)

  abbrev pub after : List Move → Motion → Motion
  after = after_moves net policy config p

  -- over each of these directions the first sends what it has to say; the second hears
  abbrev pub sends : List (ℕ × ℕ) → List Move
  sends ds = map (λ (d : ℕ × ℕ). move.send d.0 d.1) ds

  abbrev pub hears : List (ℕ × ℕ) → List Move
  hears ds = map (λ (d : ℕ × ℕ). move.hear d.0 d.1) ds

  abbrev pub ways_from : ℕ → List (ℕ × ℕ)
  ways_from r = map (λ x. (r, x)) (neighbours net r)

  abbrev pub ways_to : ℕ → List (ℕ × ℕ)
  ways_to r = map (λ x. (x, r)) (neighbours net r)

  -- a router chooses, by name
  abbrev pub names : Motion → ℕ → Move
  names w r = move.choose r (unwrap_or (lowest net policy config p w r) r)

  -- a router that is up chooses by name, and then sends to each neighbour
  abbrev pub again : Motion → ℕ → List Move
  again w r = if is_router net r && not (w.down r) then names w r ∷ sends (ways_from r) else []

  -- so does one after the other of these
  abbrev pub each_again : Motion → List ℕ → List Move
  each_again w [] = []
  each_again w (r ∷ rs) = again w r ++ each_again (after (again w r) w) rs

  abbrev pub and_then : List Move → (Motion → List Move) → Motion → List Move
  and_then ms more w = ms ++ more (after ms w)

  -- the moves of an event
  abbrev pub moves_of : Event → Motion → List Move
  moves_of (Deliver a b) w = and_then (move.hear a b ∷ []) (λ v. again v b) w
  moves_of (LinkDown a b) w = and_then (move.link_down a b ∷ hears ((a, b) ∷ (b, a) ∷ [])) (λ v. each_again v (a ∷ b ∷ [])) w
  moves_of (LinkUp a b) w = move.link_up a b ∷ sends ((a, b) ∷ (b, a) ∷ [])
  moves_of (RouterDown r) w = and_then (move.router_down r ∷ hears (ways_from r)) (λ v. each_again v (neighbours net r)) w
  moves_of (RouterUp r) w = and_then (move.router_up r ∷ []) (λ v. again v r ++ sends (ways_from r ++ ways_to r)) w
  moves_of (PeerSpeak r peer) w = move.say peer r (itself peer) ∷ sends ((peer, r) ∷ [])
  moves_of (PeerSilent r peer) w = move.say peer r None ∷ sends ((peer, r) ∷ [])

  -- none, where it's refused
  abbrev pub unless_refused : Option EventFault → List Move → List Move
  unless_refused None ms = ms
  unless_refused (Some fault) ms = []

  -- in the opening each router chooses, and all have sent
  abbrev pub choices : Motion → List ℕ → List Move
  choices w [] = []
  choices w (r ∷ rs) = names w r ∷ choices (after (names w r ∷ []) w) rs

  abbrev pub opening_moves : List Move
  opening_moves = choices (at_the_start net policy config p) (numbers_below (length net.routers)) ++ sends (flat_map ways_from (numbers_below (length net.routers + length net.peers)))

  -- the moves of events, from a world of events and its like in motion
  abbrev pub moves_from : List Event → World Route → Motion → List Move
  moves_from [] e w = []
  moves_from (x ∷ xs) e w =
      and_then (unless_refused (fault_of (speakers_of net policy config p) x e) (moves_of x w)) (moves_from xs (happens (speakers_of net policy config p) x e)) w

  abbrev pub moves_for : List Event → List Move
  moves_for es = and_then opening_moves (moves_from es (opening (speakers_of net policy config p))) (at_the_start net policy config p)

-- Each list of events is a list of moves in which every choice names the lowest identifier, and the two worlds that they lead to are the same.
abbrev pub EventsAreMoves : Type 0
EventsAreMoves = (net : PlainNet) (policy : PlainPolicy) (config : PlainConfig) (p : PlainPrefix) (es : List Event) → IsNet net
    → AreNamed net policy config p (moves_for net policy config p es) (at_the_start net policy config p)
    × Corresponds net policy config p (world_after net policy config p es) (after_moves net policy config p (moves_for net policy config p es) (at_the_start net policy config p))
