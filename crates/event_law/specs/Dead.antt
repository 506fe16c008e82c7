-- Sessions that are live neither before an event nor after it.
use Rattle.std.specs.Prelude.{◌≡◌, ℕ, Bool, true, false}
use Rattle.event_base.specs.declared.event.Event.{Event}
use Rattle.event_base.specs.declared.event.Event.TheVariants.{Deliver, LinkDown, LinkUp, RouterDown, RouterUp, PeerSpeak, PeerSilent}
use Rattle.event_base.specs.World.{Speakers, World, is, joins, touches, live, with_choice, with_cut, with_down, with_silent}
use Rattle.event_base.specs.Steps.{happens, step}
use Rattle.event_law.specs.Kept.{IsKept}

module _ {R : Type 0} (net : Speakers R) where
  -- nothing is live there
  abbrev pub AreDead : (ℕ → ℕ → Bool) → World R → Type 0
  AreDead p w = (a b : ℕ) → p a b ≡ true → live net w a b ≡ false

  -- the sessions that an event is about
  abbrev pub sessions_of : Event → ℕ → ℕ → Bool
  sessions_of (Deliver a b) = is a b
  sessions_of (LinkDown a b) = joins a b
  sessions_of (LinkUp a b) = joins a b
  sessions_of (RouterDown r) = touches r
  sessions_of (RouterUp r) = touches r
  sessions_of (PeerSpeak r p) = is p r
  sessions_of (PeerSilent r p) = is p r

  -- the world with an event's mark alone: a router that goes down has no route, and one that comes up takes its choice
  abbrev pub marked : Event → World R → World R
  marked (Deliver a b) w = w
  marked (LinkDown a b) w = with_cut net a b true w
  marked (LinkUp a b) w = with_cut net a b false w
  marked (RouterDown r) w = with_down net r true w
  marked (RouterUp r) w = with_choice net r (with_down net r false w)
  marked (PeerSpeak r p) w = with_silent net r p false w
  marked (PeerSilent r p) w = with_silent net r p true w

  -- what waits on a session, was heard over it and was last queued on it is as before
  pub record IsAsBefore (w v : World R) (a b : ℕ) : Type 0 where
    pub queue : v.queue a b ≡ w.queue a b
    pub heard : v.heard a b ≡ w.heard a b
    pub queued : v.queued a b ≡ w.queued a b

  -- whatever happens anywhere, nothing is sent, heard or forgotten on a session that is live neither before nor after
  abbrev pub DeadSessionsStay : Type 0
  DeadSessionsStay = (e : Event) (w : World R) (a b : ℕ) → IsKept net w → live net w a b ≡ false → live net (happens net e w) a b ≡ false → IsAsBefore w (happens net e w) a b

  -- an event that is about such sessions alone sets its mark and changes nothing else anywhere
  abbrev pub MarksAreAllThatChanges : Type 0
  MarksAreAllThatChanges = (e : Event) (w : World R) → IsKept net w → AreDead (sessions_of e) w → AreDead (sessions_of e) (marked e w) → step net e w ≡ marked e w
