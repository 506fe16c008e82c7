-- What each event does, why an event is refused, and what every event keeps.
use Rattle.std.specs.Prelude.{◌≡◌, ℕ, Bool, true, false, not, ◌&&◌, List, [], ◌∷◌, Option, Some, None, if◌then◌else◌}
use Rattle.event_base.specs.declared.event.Event.{Event}
use Rattle.event_base.specs.declared.event.Event.TheVariants.{Deliver, LinkDown, LinkUp, RouterDown, RouterUp, PeerSpeak, PeerSilent}
use Rattle.event_base.specs.declared.event.EventFault.{EventFault}
use Rattle.event_base.specs.declared.event.EventFault.TheVariants.{NothingWaits, NotUp, NotDown, NoLink}
use Rattle.event_base.specs.World.{Speakers, World, is, joins, touches, choice, tell, choose_again, each_again, emptied, with_cut, with_down, with_silent, received}

abbrev pub unless_waiting : {R : Type 0} → List (Option R) → Option EventFault
unless_waiting [] = Some NothingWaits
unless_waiting (m ∷ rest) = None

-- only what is up goes down, and the other way round
abbrev pub unless_up : Bool → Option EventFault
unless_up down = if down then Some NotUp else None

abbrev pub unless_down : Bool → Option EventFault
unless_down down = if down then None else Some NotDown

abbrev pub if_there : Bool → Option EventFault → Option EventFault
if_there there fault = if there then fault else Some NoLink

abbrev pub or_as_before : {R : Type 0} → Option EventFault → World R → World R → World R
or_as_before None w old = w
or_as_before (Some e) w old = old

module _ {R : Type 0} (net : Speakers R) where
  abbrev pub delivered : ℕ → ℕ → List (Option R) → World R → World R
  delivered a b [] w = w
  delivered a b (m ∷ rest) w = choose_again net b (received net a b m rest w)

  -- the world after an event that isn't refused
  abbrev pub step : Event → World R → World R
  step (Deliver a b) w = delivered a b (w.queue a b) w
  step (LinkDown a b) w = choose_again net b (choose_again net a (emptied net (joins a b) (with_cut net a b true w)))
  step (LinkUp a b) w = tell net (joins a b) (with_cut net a b false w)
  step (RouterDown r) w = each_again net (net.neighbours r) (emptied net (touches r) (with_down net r true w))
  step (RouterUp r) w = tell net (touches r) (choose_again net r (with_down net r false w))
  step (PeerSpeak r p) w = tell net (is p r) (with_silent net r p false w)
  step (PeerSilent r p) w = tell net (is p r) (with_silent net r p true w)

  -- ---- refused events

  abbrev pub is_session : ℕ → ℕ → Bool
  is_session r p = net.linked r p && (net.is_router r && not (net.is_router p))

  -- why an event is refused
  abbrev pub fault_of : Event → World R → Option EventFault
  fault_of (Deliver a b) w = if_there (net.linked a b) (unless_waiting (w.queue a b))
  fault_of (LinkDown a b) w = if_there (net.linked a b) (unless_up (w.cut a b))
  fault_of (LinkUp a b) w = if_there (net.linked a b) (unless_down (w.cut a b))
  fault_of (RouterDown r) w = if_there (net.is_router r) (unless_up (w.down r))
  fault_of (RouterUp r) w = if_there (net.is_router r) (unless_down (w.down r))
  fault_of (PeerSpeak r p) w = if_there (is_session r p) (unless_down (w.silent r p))
  fault_of (PeerSilent r p) w = if_there (is_session r p) (unless_up (w.silent r p))

  -- the world after an event, which is passed over where it's refused
  abbrev pub happens : Event → World R → World R
  happens e w = or_as_before (fault_of e w) (step e w) w

  -- after a list of events
  abbrev pub run : List Event → World R → World R
  run [] w = w
  run (e ∷ es) w = run es (happens e w)

  -- ---- the opening

  -- everything is up, nobody is silent, nobody has heard or queued anything, and each router holds its choice over nothing
  abbrev pub before_all : World R
  before_all = record {
    down = λ r. false;
    cut = λ a b. false;
    silent = λ r p. false;
    queue = λ a b. [];
    heard = λ a b. None;
    queued = λ a b. None;
    route = λ r. if net.is_router r then net.choose r (λ u. None) else None;
  }

  -- each has queued what it gives
  abbrev pub opening : World R
  opening = tell net (λ a b. true) before_all

-- no message waits anywhere
abbrev pub IsQuiet : {R : Type 0} → World R → Type 0
IsQuiet w = (a b : ℕ) → w.queue a b ≡ []
