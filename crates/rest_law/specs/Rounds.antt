-- Rounds of deliveries. A direction is a pair: the sender, and who is sent to. A list of directions stands for deliveries, one after another:
-- of the first message that waits in each. Where none waits nothing happens.
use Rattle.std.specs.Prelude.{◌≡◌, ℕ, zero, suc, ◌≤◌, true, List, [], ◌∷◌, ◌++◌, length, if◌then◌else◌}
use Rattle.event_base.specs.declared.event.Event.{Event}
use Rattle.event_base.specs.declared.event.Event.TheVariants.{Deliver}
use Rattle.event_base.specs.Steps.{run}
use Rattle.event_base.specs.World.{Speakers, World, is}

abbrev pub deliveries : List (ℕ × ℕ) → List Event
deliveries [] = []
deliveries (d ∷ ds) = Deliver d.0 d.1 ∷ deliveries ds

-- how many of these deliveries are from a to b
abbrev pub times : ℕ → ℕ → List (ℕ × ℕ) → ℕ
times a b [] = 0
times a b (d ∷ ds) = if is d.0 d.1 a b then suc (times a b ds) else times a b ds

-- A round: in whatever order, from each direction at least as many messages are delivered as wait in it when the round begins. So each
-- of these is.
abbrev pub IsRound : {R : Type 0} → World R → List (ℕ × ℕ) → Type 0
IsRound w ds = (a b : ℕ) → length (w.queue a b) ≤ times a b ds

-- so many rounds, one after another, and then whatever further deliveries
abbrev pub AreRounds : {R : Type 0} → Speakers R → ℕ → World R → List (ℕ × ℕ) → Type 0
AreRounds net zero w ds = Unit {0}
AreRounds net (suc k) w ds = (round : List (ℕ × ℕ)) × (rest : List (ℕ × ℕ)) × (round ++ rest ≡ ds) × IsRound w round × AreRounds net k (run net (deliveries round) w) rest

-- so many deliveries of an endless schedule, from a time on
abbrev pub stretch : (ℕ → ℕ × ℕ) → ℕ → ℕ → List (ℕ × ℕ)
stretch schedule start zero = []
stretch schedule start (suc n) = schedule start ∷ stretch schedule (suc start) n

-- A fair schedule: after each time each direction of each link comes again.
abbrev pub IsFair : {R : Type 0} → Speakers R → (ℕ → ℕ × ℕ) → Type 0
IsFair net schedule = (a b n : ℕ) → net.linked a b ≡ true → (m : ℕ) × (n ≤ m) × (schedule m ≡ (a, b))
