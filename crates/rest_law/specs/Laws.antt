-- Where nothing more fails, messages come to an end.
use Rattle.std.specs.Prelude.{◌≡◌, ℕ, zero, suc, ◌≤◌, ◌+◌, ◌*◌, ◌⊎◌, Bool, true, false, List, [], ◌∷◌, ◌++◌, length, replicate, Option, Some}
use Rattle.config_base.specs.declared.route.Route.{Route}
use Rattle.event_base.specs.Steps.{IsQuiet, run}
use Rattle.event_base.specs.World.{Speakers, World, live}
use Rattle.event_law.specs.Kept.{AreSpeakers, IsKept}
use Rattle.rest_law.specs.Holding.{After, Always, Says}
use Rattle.rest_law.specs.Orders.{AreChoosers, IsOrder, Takes, at_rest, rests}
use Rattle.rest_law.specs.Rounds.{AreRounds, IsFair, IsRound, deliveries, stretch}

-- after a round each has heard over a live session only what is said of what was held since the round began
abbrev pub RoundsRemember : Type 0
RoundsRemember = (net : Speakers Route) (w : World Route) (holds : ℕ → Option Route → Bool) (ds : List (ℕ × ℕ)) → AreSpeakers net → IsKept net w
    → Always net (λ r x. holds r x ≡ true) w → IsRound w ds
    → (a b : ℕ) → live net w a b ≡ true → Says net w (λ r x. holds r x ≡ true) a b ((run net (deliveries ds) w).heard a b)

-- after so many rounds each route has been chosen so many times over of what could be said
abbrev pub RoundsNarrow : Type 0
RoundsNarrow = (net : Speakers Route) (w : World Route) (holds : ℕ → Option Route → Bool) (k : ℕ) (ds : List (ℕ × ℕ)) → AreSpeakers net → IsKept net w
    → Always net (λ r x. holds r x ≡ true) w → AreRounds net k w ds → Always net (After net w (λ r x. holds r x ≡ true) k) (run net (deliveries ds) w)

-- Where the routers have an order, no message waits after bound + 2 rounds for each router of it and one more, and each holds what the
-- outcome has for it. The bound is on the size of routes.
abbrev pub MessagesEnd : Type 0
MessagesEnd =
    (net : Speakers Route) (w : World Route) (takes : Takes Route) (before : ℕ × Route → ℕ × Route → Bool) (size : Route → ℕ)
    (outcome : ℕ → Option Route) (bound : ℕ) (vs : List ℕ) (ds : List (ℕ × ℕ))
    → AreSpeakers net → AreChoosers net takes (λ x y. before y x ≡ false) size → IsKept net w
    → Always net (λ r x. (h : Route) → x ≡ Some h → size h ≤ bound) w
    → ((r : ℕ) → rests net w r ≡ true → outcome r ≡ at_rest net w r)
    → IsOrder net w takes (λ x y. before y x ≡ false) outcome (rests net w) vs
    → AreRounds net (suc (length vs * (bound + 2))) w ds
    → IsQuiet (run net (deliveries ds) w) × ((r : ℕ) → (run net (deliveries ds) w).route r ≡ outcome r)

-- a quiet world stays as it is
abbrev pub QuietStays : Type 0
QuietStays = (net : Speakers Route) (w : World Route) (ds : List (ℕ × ℕ)) → IsQuiet w → run net (deliveries ds) w ≡ w

-- each direction of these as often as messages wait in it
abbrev pub each_waiting : {R : Type 0} → World R → List (ℕ × ℕ) → List (ℕ × ℕ)
each_waiting w [] = []
each_waiting w (d ∷ ds) = replicate (length (w.queue d.0 d.1)) d ++ each_waiting w ds

abbrev pub Lists : List (ℕ × ℕ) → ℕ → ℕ → Type 0
Lists [] a b = ⊥
Lists (d ∷ ds) a b = (d ≡ (a, b)) ⊎ Lists ds a b

-- so there is a round in every world, where the links can be listed
abbrev pub RoundsAreThere : Type 0
RoundsAreThere = (net : Speakers Route) (w : World Route) (links : List (ℕ × ℕ)) → IsKept net w → ((a b : ℕ) → net.linked a b ≡ true → Lists links a b) → IsRound w (each_waiting w links)

-- so many of them, one after another
abbrev pub each_round : {R : Type 0} → Speakers R → List (ℕ × ℕ) → ℕ → World R → List (ℕ × ℕ)
each_round net links zero w = []
each_round net links (suc k) w = each_waiting w links ++ each_round net links k (run net (deliveries (each_waiting w links)) w)

abbrev pub RoundsGoOn : Type 0
RoundsGoOn =
    (net : Speakers Route) (w : World Route) (links : List (ℕ × ℕ)) (k : ℕ) → AreSpeakers net → IsKept net w
    → ((a b : ℕ) → net.linked a b ≡ true → Lists links a b) → AreRounds net k w (each_round net links k w)

-- a schedule in which each direction comes again and again has so many rounds in its beginning
abbrev pub FairSchedulesHaveRounds : Type 0
FairSchedulesHaveRounds =
    (net : Speakers Route) (w : World Route) (links : List (ℕ × ℕ)) (schedule : ℕ → ℕ × ℕ) (k : ℕ) → AreSpeakers net → IsKept net w
    → ((a b : ℕ) → net.linked a b ≡ true → Lists links a b)
    → IsFair net schedule → (n : ℕ) × AreRounds net k w (stretch schedule 0 n)
