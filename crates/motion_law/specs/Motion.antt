-- Routers that hear, choose and send when they like, peers that say what they like, and failures, for one prefix. A direction of a
-- session is a pair: the sender, and who is sent to. Messages are what is sent, or none to withdraw.
use Rattle.std.specs.Prelude.{ℕ, Bool, true, false, not, ◌&&◌, ◌||◌, nat_lt, ◌==◌, List, [], ◌∷◌, ◌++◌, length, Option, Some, None, is_some, option_map, option_and_then, if◌then◌else◌}
use Rattle.std.specs.Str.{bytes_eq}
use Rattle.std.specs.List.{find, list_any}
use Rattle.net_base.specs.declared.numbers.Tag.{Tag}
use Rattle.net_base.specs.Network.{PlainNet, is_router, linked}
use Rattle.net_base.specs.Locations.{neighbours}
use Rattle.net_base.specs.Numbers.{no_tag}
use Rattle.net_base.specs.Prefixes.{PlainPrefix}
use Rattle.policy_base.specs.Policies.{PlainPolicy}
use Rattle.policy_base.specs.Governing.{is_origin}
use Rattle.config_base.specs.Configs.{PlainConfig}
use Rattle.config_base.specs.Lines.{class_of, export_of, own_route, same_tag}
use Rattle.outcome_base.specs.Announcements.{Announced, Announcements, FullRoute, Sent, taken_under}
use Rattle.event_base.specs.World.{at, is, joins, touches}

pub record Motion : Type 0 where
  pub down : ℕ → Bool
  pub cut : ℕ → ℕ → Bool
  -- what each peer now says to each router, if anything
  pub says : Announcements
  pub queue : ℕ → ℕ → List (Option Sent)
  -- what the second last heard from the first, and what the first last queued to the second
  pub heard : ℕ → ℕ → Option Sent
  pub queued : ℕ → ℕ → Option Sent
  -- the second has heard from the first since it chose last
  pub news : ℕ → ℕ → Bool
  pub route : ℕ → Option FullRoute

-- what may happen, at any time
pub data Move : Type 0 where
  -- the second hears what comes next from the first: a message, or that the session is gone
  hear : ℕ → ℕ → Move
  -- the router chooses; where routes tie and it's free to take any of them, the one of this neighbour
  choose : ℕ → ℕ → Move
  -- the first queues to the second what it now has to say, where that differs from what it last queued
  send : ℕ → ℕ → Move
  -- the peer has this to say to the router from now on, or nothing
  say : ℕ → ℕ → Option Announced → Move
  link_down : ℕ → ℕ → Move
  link_up : ℕ → ℕ → Move
  router_down : ℕ → Move
  router_up : ℕ → Move

abbrev pub same_route : Option FullRoute → Option FullRoute → Bool
same_route None None = true
same_route (Some x) (Some y) = bytes_eq x.route.path y.route.path && (bytes_eq x.behind y.behind && (same_tag x.route.tag y.route.tag && x.route.pref == y.route.pref))
same_route _ _ = false

abbrev pub same_sent : Option Sent → Option Sent → Bool
same_sent None None = true
same_sent (Some x) (Some y) = bytes_eq x.path y.path && (bytes_eq x.behind y.behind && same_tag x.tag y.tag)
same_sent _ _ = false

-- where nothing is left of what waits and was last queued (q), and of what was heard (h)
abbrev pub cleared : (ℕ → ℕ → Bool) → (ℕ → ℕ → Bool) → Motion → Motion
cleared q h w = record {
  down = w.down;
  cut = w.cut;
  says = w.says;
  queue = λ a b. if q a b then [] else w.queue a b;
  heard = λ a b. if h a b then None else w.heard a b;
  queued = λ a b. if q a b then None else w.queued a b;
  news = w.news;
  route = w.route;
}

abbrev pub cut_is : ℕ → ℕ → Bool → Motion → Motion
cut_is a b v w = record { down = w.down; cut = λ x y. if joins a b x y then v else w.cut x y; says = w.says; queue = w.queue; heard = w.heard; queued = w.queued; news = w.news; route = w.route }

-- a router that goes down, or has just come up, has no route
abbrev pub down_is : ℕ → Bool → Motion → Motion
down_is r v w = record { down = λ x. if at r x then v else w.down x; cut = w.cut; says = w.says; queue = w.queue; heard = w.heard; queued = w.queued; news = w.news; route = λ x. if at r x then None else w.route x }

abbrev pub says_is : ℕ → ℕ → Option Announced → Motion → Motion
says_is peer r o w = record { down = w.down; cut = w.cut; says = λ x y. if is peer r x y then o else w.says x y; queue = w.queue; heard = w.heard; queued = w.queued; news = w.news; route = w.route }

-- the first message of a direction is heard
abbrev pub next_heard : ℕ → ℕ → List (Option Sent) → Motion → Motion
next_heard a b [] w = w
next_heard a b (m ∷ rest) w = record {
  down = w.down;
  cut = w.cut;
  says = w.says;
  queue = λ x y. if is a b x y then rest else w.queue x y;
  heard = λ x y. if is a b x y then m else w.heard x y;
  queued = w.queued;
  news = λ x y. is a b x y || w.news x y;
  route = w.route;
}

abbrev pub route_is : ℕ → Option FullRoute → Motion → Motion
route_is r o w = record { down = w.down; cut = w.cut; says = w.says; queue = w.queue; heard = w.heard; queued = w.queued; news = λ x y. w.news x y && not (at r y); route = λ x. if at r x then o else w.route x }

abbrev pub queues : ℕ → ℕ → Option Sent → Motion → Motion
queues a b m w = record {
  down = w.down;
  cut = w.cut;
  says = w.says;
  queue = λ x y. if is a b x y then w.queue x y ++ m ∷ [] else w.queue x y;
  heard = w.heard;
  queued = λ x y. if is a b x y then m else w.queued x y;
  news = w.news;
  route = w.route;
}

module _ (net : PlainNet) (policy : PlainPolicy) (config : PlainConfig) (p : PlainPrefix) where
  abbrev pub live_in : Motion → ℕ → ℕ → Bool
  live_in w a b = linked net a b && (not (w.cut a b) && (not (w.down a) && not (w.down b)))

  -- ---- what is said

  abbrev pub with_tag : FullRoute → Tag → Sent
  with_tag t tag = record { path = t.route.path; behind = t.behind; tag = tag }

  -- what the export lines of a give b of this route
  abbrev pub told : ℕ → ℕ → Option FullRoute → Option Sent
  told a b o = option_and_then (λ class. option_and_then (λ (t : FullRoute). option_map (with_tag t) (export_of net config class a b t.route.tag)) o) (class_of config p)

  abbrev pub announced : ℕ → Announced → Sent
  announced peer a = record { path = peer ∷ []; behind = a.behind; tag = a.tag }

  abbrev pub has_to_say : Motion → ℕ → ℕ → Option Sent
  has_to_say w a b = if is_router net a then told a b (w.route a) else option_map (announced a) (w.says a b)

  -- ---- what is chosen

  -- what the lines of r make of what it has heard from u
  abbrev pub gift : Motion → ℕ → ℕ → Option FullRoute
  gift w r u = option_and_then (λ class. option_and_then (taken_under net config class r u) (w.heard u r)) (class_of config p)

  abbrev pub whole_length : FullRoute → ℕ
  whole_length t = length (t.route.path ++ t.behind)

  -- A higher preference, or the same and fewer AS numbers. RFC 4271, section 9.1.2 and the first step of section 9.1.2.2.
  abbrev pub comes_before : FullRoute → FullRoute → Bool
  comes_before x y = nat_lt y.route.pref x.route.pref || (x.route.pref == y.route.pref && nat_lt (whole_length x) (whole_length y))

  abbrev pub precedes : Option FullRoute → Option FullRoute → Bool
  precedes None y = false
  precedes (Some x) None = true
  precedes (Some x) (Some y) = comes_before x y

  -- u is a neighbour that gives r a route, and no neighbour gives one that comes before it
  abbrev pub is_top : Motion → ℕ → ℕ → Bool
  is_top w r u = linked net r u && (is_some (gift w r u) && not (list_any (λ z. precedes (gift w r z) (gift w r u)) (neighbours net r)))

  -- the present route is the one that u gives
  abbrev pub gives_it : Motion → ℕ → ℕ → Bool
  gives_it w r u = is_top w r u && same_route (gift w r u) (w.route r)

  -- The present route is among the first, and nothing has been heard since the last choice from a neighbour that gives one of them.
  -- RFC 5004 keeps the present route so, and RFC 4271's later steps may, too: any step that doesn't let go of a tied route without news.
  abbrev pub holds_on : Motion → ℕ → Bool
  holds_on w r = list_any (gives_it w r) (neighbours net r) && not (list_any (λ u. is_top w r u && w.news u r) (neighbours net r))

  -- who gives what is taken: this neighbour, where its route is among the first, or else another one whose route is
  abbrev pub giver_of : Motion → ℕ → ℕ → Option ℕ
  giver_of w r u = if is_top w r u then Some u else find (is_top w r) (neighbours net r)

  abbrev pub picked : Motion → ℕ → ℕ → Option FullRoute
  picked w r u = if holds_on w r then w.route r else option_and_then (gift w r) (giver_of w r u)

  abbrev pub choice_of : Motion → ℕ → ℕ → Option FullRoute
  choice_of w r u =
      if is_router net r && not (w.down r)
      then (if is_origin net policy p r then Some (record { route = own_route net config p r; behind = [] }) else picked w r u)
      else None

  -- ---- what each move does

  abbrev pub nothing_there : ℕ → ℕ → Bool
  nothing_there a b = false

  abbrev pub heard_by : ℕ → ℕ → ℕ → Bool
  heard_by r a b = at r b

  -- of these directions each that is live now begins anew
  abbrev pub begun : (ℕ → ℕ → Bool) → Motion → Motion
  begun q w = cleared (λ a b. q a b && live_in w a b) (λ a b. q a b && live_in w a b) w

  abbrev pub moved : Move → Motion → Motion
  moved (Move.hear a b) w = if live_in w a b then next_heard a b (w.queue a b) w else cleared (is a b) (is a b) w
  moved (Move.choose r u) w = route_is r (choice_of w r u) w
  moved (Move.send a b) w = if live_in w a b && not (same_sent (has_to_say w a b) (w.queued a b)) then queues a b (has_to_say w a b) w else w
  moved (Move.say peer r o) w = says_is peer r o w
  moved (Move.link_down a b) w = cleared (joins a b) nothing_there (cut_is a b true w)
  moved (Move.link_up a b) w = begun (joins a b) (cut_is a b false w)
  moved (Move.router_down r) w = cleared (touches r) (heard_by r) (down_is r true w)
  moved (Move.router_up r) w = begun (touches r) (down_is r false w)

  abbrev pub after_moves : List Move → Motion → Motion
  after_moves [] w = w
  after_moves (m ∷ ms) w = after_moves ms (moved m w)

  -- everything is up, nobody has said, heard or chosen anything, and peers that are origins have the path of themselves to say
  abbrev pub at_the_start : Motion
  at_the_start = record {
    down = λ r. false;
    cut = λ a b. false;
    says = λ peer r. if is_origin net policy p peer then Some (record { behind = []; tag = no_tag }) else None;
    queue = λ a b. [];
    heard = λ a b. None;
    queued = λ a b. None;
    news = λ a b. false;
    route = λ r. None;
  }
