-- Each event as one settling: what changes at once, who chooses again, who is told further, and what is forgotten then.
use Rattle.std.specs.Prelude.{◌≡◌, ◌≢◌, ℕ, Bool, true, false, ◌&&◌, ◌||◌, List, [], ◌∷◌, Option, if◌then◌else◌}
use Rattle.event_base.specs.declared.event.Event.TheVariants.{Deliver, LinkDown, RouterDown, RouterUp}
use Rattle.event_base.specs.World.{Speakers, World, emptied, is, joins, running, tell, touches, with_cut, with_down}
use Rattle.event_base.specs.Steps.{step}
use Rattle.event_law.specs.Dead.{AreDead}
use Rattle.event_law.specs.Kept.{among, nowhere}
use Rattle.event_law.specs.Together.{AreDistinct, with_choices}

module _ {R : Type 0} (net : Speakers R) where
  -- these take their choices, and then they and the senders of further directions queue what is new
  abbrev pub settled : (ℕ → Bool) → (ℕ → ℕ → Bool) → World R → World R
  settled p further w = tell net (λ a b. p a || further a b) (with_choices net p w)

  -- those of a list that are up
  abbrev pub up_among : List ℕ → World R → ℕ → Bool
  up_among rs w x = among rs x && running net w x

  abbrev pub with_heard : ℕ → ℕ → Option R → World R → World R
  with_heard a b m w = record { down = w.down; cut = w.cut; silent = w.silent; queue = w.queue; heard = λ x y. if is a b x y then m else w.heard x y; queued = w.queued; route = w.route }

  abbrev pub with_queue : ℕ → ℕ → List (Option R) → World R → World R
  with_queue a b ms w = record { down = w.down; cut = w.cut; silent = w.silent; queue = λ x y. if is a b x y then ms else w.queue x y; heard = w.heard; queued = w.queued; route = w.route }

  pub record EventsSettleAtOnce : Type 0 where
    -- a message that is delivered leaves its queue in the end
    pub deliver : (a b : ℕ) (m : Option R) (rest : List (Option R)) (w : World R) → a ≢ b → w.queue a b ≡ m ∷ rest
        → step net (Deliver a b) w ≡ with_queue a b rest (settled (up_among (b ∷ []) (with_heard a b m w)) (nowhere net) (with_heard a b m w))
    -- where both ends choose again, and what was on the link is forgotten in the end
    pub link_down : (a b : ℕ) (w : World R) → a ≢ b → AreDead net (joins a b) (with_cut net a b true w)
        → step net (LinkDown a b) w ≡ emptied net (joins a b) (settled (up_among (a ∷ b ∷ []) (with_cut net a b true w)) (nowhere net) (with_cut net a b true w))
    pub router_down : (r : ℕ) (w : World R) → AreDistinct (net.neighbours r) → AreDead net (touches r) (with_down net r true w)
        → step net (RouterDown r) w ≡ emptied net (touches r) (settled (up_among (net.neighbours r) (with_down net r true w)) (nowhere net) (with_down net r true w))
    -- where it chooses, and then all its sessions are told, provided that each message is the same as itself
    pub router_up : (r : ℕ) (w : World R) → ((m : Option R) → net.same m m ≡ true)
        → step net (RouterUp r) w ≡ settled (up_among (r ∷ []) (with_down net r false w)) (touches r) (with_down net r false w)
