-- Routers that choose again in one event, at once.
use Rattle.std.specs.Prelude.{◌≡◌, ℕ, Bool, false, ◌&&◌, List, [], ◌∷◌, if◌then◌else◌}
use Rattle.event_base.specs.World.{Speakers, World, choice, each_again, running, tell}
use Rattle.event_law.specs.Kept.{among}

-- no location stands twice
abbrev pub AreDistinct : List ℕ → Type 0
AreDistinct [] = Unit {0}
AreDistinct (r ∷ rs) = (among rs r ≡ false) × AreDistinct rs

module _ {R : Type 0} (net : Speakers R) where
  -- each of these takes its choice
  abbrev pub with_choices : (ℕ → Bool) → World R → World R
  with_choices p w = record { down = w.down; cut = w.cut; silent = w.silent; queue = w.queue; heard = w.heard; queued = w.queued; route = λ x. if p x then choice net w x else w.route x }

  -- and then each queues what is new
  abbrev pub at_once : (ℕ → Bool) → World R → World R
  at_once p w = tell net (λ a b. p a) (with_choices p w)

-- Routers that choose again one after another might as well do so at once.
abbrev pub OrderIsFree : {R : Type 0} → Speakers R → Type 0
OrderIsFree {R} net = (rs : List ℕ) (w : World R) → AreDistinct rs → each_again net rs w ≡ at_once net (λ x. among rs x && running net w x) w
