-- Rounds settle one router after another, in an order.
use Rattle.std.proofs.Common.{◌≡◌, ℕ, ◌≤◌, ◌<◌, ◌+◌, ◌*◌, zero, suc, Bool, true, false, not, ◌||◌, ◌⊎◌, List, [], ◌∷◌, ◌++◌, length, Option, Some, None, refl, sym, ap, ◌∙◌, subst, inl, inr, arith}
use Rattle.std.specs.Prelude.{is_some, if◌then◌else◌}
use Rattle.std.proofs.lemmas.Bool.{and_parts, both_ways, cases_Bool, cond-true, cond-false, eqb-true, false_from_ne_true, not-false, not-true, or_cases, or_left, or_parts}
use Rattle.list_law.proofs.Options.{cases_Option}
use Rattle.event_base.specs.World.{Speakers, World, at, live, offers, running}
use Rattle.event_base.specs.Steps.{IsQuiet, run}
use Rattle.event_law.specs.Kept.{AreSpeakers, IsKept}
use Rattle.event_law.proofs.Keeping.{run-keeps}
use Rattle.rest_law.specs.Holding.{After, Always, Chooses, Holding}
use Rattle.rest_law.specs.Orders.{AreChoosers, Comes, Comes as comes, IsFirst, IsOrder, IsUnreached, Order, Takes, at_rest, rests, said}
use Rattle.rest_law.specs.Rounds.{AreRounds, deliveries, times}
use Rattle.rest_law.proofs.Failures.{SameFailures, run_more, same_run, same_running, same_self}
use Rattle.rest_law.proofs.Memory.{round-after}
use Rattle.rest_law.proofs.Still.{still-quiet}

module _ {R : Type 0} (net : Speakers R) (w : World R) (takes : Takes R) (no_later : Order R) (size : R → ℕ) (choosers : AreChoosers net takes no_later size) (outcome : ℕ → Option R)
    (rested : (r : ℕ) → rests net w r ≡ true → outcome r ≡ at_rest net w r) (bound : ℕ) where
  -- whoever rests holds that, and no route is longer than the bound
  abbrev pub Starts : Holding R
  Starts r x = (rests net w r ≡ true → x ≡ at_rest net w r) × ((h : R) → x ≡ Some h → size h ≤ bound)

  starts : (i : ℕ) (r : ℕ) (x : Option R) → After net w Starts i r x → Starts r x
  starts zero r x a = a
  starts (suc i) r x a = a.0

  -- those of S hold what the outcome has for them, from the round on
  abbrev HaveSettled : (ℕ → Bool) → ℕ → Type 0
  HaveSettled S from = (i r : ℕ) (x : Option R) → from ≤ i → S r ≡ true → After net w Starts i r x → x ≡ outcome r

  -- who isn't of S is a router that is up and has no route of its own
  module _ (S : ℕ → Bool) (all : (r : ℕ) → rests net w r ≡ true → S r ≡ true) (u : ℕ) (off : S u ≡ false) where
    both : (not (running net w u) ≡ false) × (is_some (net.choose u (λ x. None)) ≡ false)
    both = or_parts (not (running net w u)) (is_some (net.choose u (λ x. None))) (false_from_ne_true _ (λ t. both_ways (S u) off (all u t)))

    runs : running net w u ≡ true
    runs = not-false (running net w u) both.0

    ownless : net.choose u (λ x. None) ≡ None
    ownless = nothing (net.choose u (λ x. None)) both.1
      where
        nothing : (o : Option R) → is_some o ≡ false → o ≡ None
        nothing None h = refl
        nothing (Some h') h = absurd (cc)

  module _ (S : ℕ → Bool) (from : ℕ) (all : (r : ℕ) → rests net w r ≡ true → S r ≡ true) (held : HaveSettled S from) where
    abbrev By : ℕ → ℕ → R → Type 0
    By u x h = Comes net w takes outcome S u x h

    -- what u takes of what x may have said comes from S, where what x may hold does
    arrives : (i u x : ℕ) (h : R) (c : Option R) (choice : Chooses net w (After net w Starts i) u c) → from ≤ i → takes u x (choice.offer x) ≡ Some h
        → ((g : R) → S x ≡ false → size g < size h → After net w Starts i x (Some g) → (z : ℕ) × By x z g) → By u x h
    arrives i u x h c choice le t more = elim (cases_Bool (live net w x u)) [
      | inr off ↦ (let none : None ≡ Some h = sym (ap (takes u x) (choice.fails x off) ∙ choosers.untaken u x) ∙ t in absurd (cc))
      | inl on ↦ (
          let y = choice.lives x on in
          let heard : takes u x (said net w x u y.0) ≡ Some h = ap (takes u x) (sym y.2) ∙ t in
          elim (cases_Bool (S x)) [
            | inl known ↦ comes.settled known on (ap (λ (z : Option R). takes u x (said net w x u z)) (sym (held i x y.0 le known y.1)) ∙ heard)
            | inr other ↦ (
                let router : net.is_router x ≡ true = (and_parts (net.is_router x) _ (runs S all x other)).0 in
                let sent : (z : Option R) → said net w x u z ≡ net.export x u z = λ z. cond-true (net.is_router x) (net.export x u z) (if w.silent u x then None else net.announced x) router in
                elim (cases_Option y.0) [
                  | inl none ↦ (
                      let nothing : None ≡ Some h = sym (ap (λ (z : Option R). takes u x (said net w x u z)) none ∙ ap (takes u x) (sent None ∙ choosers.unsent x u) ∙ choosers.untaken u x) ∙ heard in
                      absurd (cc))
                  | inr g ↦ (
                      let same : takes u x (said net w x u (Some g.0)) ≡ Some h = ap (λ (z : Option R). takes u x (said net w x u z)) (sym g.1) ∙ heard in
                      let less : size g.0 < size h = choosers.longer u x g.0 h (ap (takes u x) (sym (sent (Some g.0))) ∙ same) in
                      let before = more g.0 other less (subst (After net w Starts i x) g.1 y.1) in
                      comes.further other before.1 on same)
                ])
          ])
    ]

    chosen_now : (i u : ℕ) (x : Option R) → S u ≡ false → (choice : Chooses net w (After net w Starts i) u x) → x ≡ net.choose u choice.offer
    chosen_now i u x off choice = choice.chosen ∙ cond-true (running net w u) (net.choose u choice.offer) None (runs S all u off)

    -- a route that is shorter than the rounds since then comes from S
    flush : (i u : ℕ) (h : R) → S u ≡ false → size h + from < i → After net w Starts i u (Some h) → (x : ℕ) × By u x h
    flush zero u h off less a = absurd (omega (arith, less))
    flush (suc i) u h off less a =
        let choice = a.1 in
        let g = choosers.given u choice.offer h (ownless S all u off) (sym (chosen_now i u (Some h) off choice)) in
        (g.0, arrives i u g.0 h (Some h) choice (omega (arith, less)) g.1 (λ k other shorter b. flush i g.0 k other (omega (arith, less, shorter)) b))

    -- so a router that is next settles
    module _ (v : ℕ) (off : S v ≡ false) where
      now_from : (i : ℕ) (x : Option R) (choice : Chooses net w (After net w Starts i) v x) → from + (bound + 2) ≤ suc i → (u : ℕ) (h : R) → takes v u (choice.offer u) ≡ Some h → By v u h
      now_from i x choice le u h t =
          arrives i v u h x choice (omega (arith, le)) t
          (λ g other shorter b. let fits = (starts i u (Some g) b).1 g refl in flush i u g other (omega (arith, le, fits)) b)

      first-settles : IsFirst net w takes no_later outcome S v → (i : ℕ) (x : Option R) → from + (bound + 2) ≤ i → After net w Starts i v x → x ≡ outcome v
      first-settles f zero x le a = absurd (omega (arith, le))
      first-settles f (suc i) x le a =
          let choice = a.1 in
          let y = choice.lives f.giver f.lives in
          let said_it : choice.offer f.giver ≡ said net w f.giver v (outcome f.giver) = y.2 ∙ ap (said net w f.giver v) (held i f.giver y.0 (omega (arith, le)) f.among y.1) in
          let t : takes v f.giver (choice.offer f.giver) ≡ Some f.route = ap (takes v f.giver) said_it ∙ f.takes_it in
          let z = choosers.first v f.giver choice.offer f.route (ownless S all v off) (and_parts (net.linked f.giver v) _ f.lives).0 t in
          let same : z.0.1 ≡ f.route = f.first z.0.0 z.0.1 (now_from i x choice le z.0.0 z.0.1 z.2) z.3 in
          chosen_now i v x off choice ∙ z.1 ∙ ap Some same ∙ sym f.holds

      unreached-settles : IsUnreached net w takes no_later outcome S v → (i : ℕ) (x : Option R) → from + (bound + 2) ≤ i → After net w Starts i v x → x ≡ outcome v
      unreached-settles f zero x le a = absurd (omega (arith, le))
      unreached-settles f (suc i) x le a =
          let choice = a.1 in
          chosen_now i v x off choice ∙ elim (cases_Option (net.choose v choice.offer)) [
            | inl none ↦ none ∙ sym f.holds
            | inr h ↦ (let g = choosers.given v choice.offer h.0 (ownless S all v off) h.1 in absurd (f.never g.0 h.0 (now_from i x choice le g.0 h.0 g.1)))
          ]

      next-settles : IsFirst net w takes no_later outcome S v ⊎ IsUnreached net w takes no_later outcome S v → (i : ℕ) (x : Option R)
          → from + (bound + 2) ≤ i → After net w Starts i v x → x ≡ outcome v
      next-settles (inl f) i x le a = first-settles f i x le a
      next-settles (inr f) i x le a = unreached-settles f i x le a

  -- one after another
  order-settles : (vs : List ℕ) (S : ℕ → Bool) (from : ℕ) → ((r : ℕ) → rests net w r ≡ true → S r ≡ true) → HaveSettled S from → IsOrder net w takes no_later outcome S vs
      → (i r : ℕ) (x : Option R) → from + length vs * (bound + 2) ≤ i → After net w Starts i r x → x ≡ outcome r
  order-settles [] S from all held order i r x le a = held i r x (omega (arith, le)) (order r) a
  order-settles (v ∷ vs) S from all held order i r x le a =
      order-settles vs (λ z. S z || at v z) (from + (bound + 2)) (λ z t. or_left (S z) (at v z) (all z t)) more order.2 i r x (omega (arith, le)) a
    where
      more : HaveSettled (λ z. S z || at v z) (from + (bound + 2))
      more i z x le t a = elim (or_cases (S z) (at v z) t) [
        | inl old ↦ held i z x (omega (arith, le)) old a
        | inr new ↦ (
            let here : z ≡ v = eqb-true z v new in
            next-settles S from all held v order.0 order.1 i x le (subst (λ (r : ℕ). After net w Starts i r x) here a) ∙ ap outcome (sym here))
      ]

  rests-settled : HaveSettled (rests net w) 0
  rests-settled i r x le t a = (starts i r x a).0 t ∙ sym (rested r t)

  module _ (n : AreSpeakers net) where
    -- whoever rests holds that in every world with these failures
    rests_now : (v : World R) → SameFailures w v → IsKept net v → (r : ℕ) → rests net w r ≡ true → v.route r ≡ at_rest net w r
    rests_now v same kept r t =
        kept.chosen r refl ∙ ap (λ (b : Bool). if b then net.choose r (offers net v r) else None) (same_running net w v same r)
        ∙ elim (or_cases (not (running net w r)) (is_some (net.choose r (λ u. None))) t) [
          | inl down ↦ (
              let f : running net w r ≡ false = not-true (running net w r) down in
              cond-false (running net w r) (net.choose r (offers net v r)) None f ∙ sym (cond-false (running net w r) (net.choose r (λ u. None)) None f))
          | inr own ↦ elim (cases_Option (net.choose r (λ u. None))) [
            | inl none ↦ (let h : false ≡ true = sym (ap is_some none) ∙ own in absurd (both_ways true (sym h) refl))
            | inr h ↦ ap (λ (o : Option R). if running net w r then o else None) (choosers.own r (offers net v r) h.0 h.1 ∙ sym h.1)
          ]
        ]

    starts_now : (v : World R) → SameFailures w v → IsKept net v → Always net (λ r x. (h : R) → x ≡ Some h → size h ≤ bound) v → Always net Starts v
    starts_now v same kept short es r = (rests_now (run net (deliveries es) v) (same_run net es w v same) (run-keeps net n (deliveries es) v kept) r, short es r)

    -- when only the outcome is possible, one more round ends it
    ends : (k j : ℕ) (v : World R) (ds : List (ℕ × ℕ)) → SameFailures w v → IsKept net v → Always net (After net w Starts j) v
        → ((i r : ℕ) (x : Option R) → j + k ≤ i → After net w Starts i r x → x ≡ outcome r)
        → AreRounds net (suc k) v ds → IsQuiet (run net (deliveries ds) v) × ((r : ℕ) → (run net (deliveries ds) v).route r ≡ outcome r)
    ends zero j v ds same kept always single rounds =
        let round = rounds.0 in
        let rest = rounds.1 in
        let next : World R = run net (deliveries round) v in
        let holds : (es : List (ℕ × ℕ)) (r : ℕ) → (run net (deliveries es) v).route r ≡ outcome r = λ es r. single j r _ (omega arith) (always es r) in
        let quiet : IsQuiet next = still-quiet net n choosers.alike v round kept (λ es r. holds es r ∙ sym (holds [] r)) rounds.3 in
        let also : (es : List (ℕ × ℕ)) (r : ℕ) → (run net (deliveries es) next).route r ≡ outcome r = λ es r. ap (λ (u : World R). u.route r) (run_more net round es v) ∙ holds (round ++ es) r in
        let over : IsQuiet (run net (deliveries rest) next) =
        still-quiet net n choosers.alike next rest (run-keeps net n (deliveries round) v kept) (λ es r. also es r ∙ sym (also [] r))
        (λ a b. subst (λ (ms : List (Option R)). length ms ≤ times a b rest) (sym (quiet a b)) (omega arith)) in
        let here : run net (deliveries rest) next ≡ run net (deliveries ds) v = run_more net round rest v ∙ ap (λ (es : List (ℕ × ℕ)). run net (deliveries es) v) rounds.2 in
        (subst IsQuiet here over, holds ds)
    ends (suc k) j v ds same kept always single rounds =
        let round = rounds.0 in
        let rest = rounds.1 in
        let next : World R = run net (deliveries round) v in
        let more = ends k (suc j) next rest (same_run net round w v same) (run-keeps net n (deliveries round) v kept) (round-after net n w Starts j v round same kept always rounds.3)
        (λ i r x le a. single i r x (omega (arith, le)) a) rounds.4 in
        let here : run net (deliveries rest) next ≡ run net (deliveries ds) v = run_more net round rest v ∙ ap (λ (es : List (ℕ × ℕ)). run net (deliveries es) v) rounds.2 in
        subst (λ (u : World R). IsQuiet u × ((r : ℕ) → u.route r ≡ outcome r)) here more

    -- after as many rounds for each router as a route is long, and two, and one more, no message waits, and each holds what the outcome has for it
    pub comes_to_rest : (vs : List ℕ) (ds : List (ℕ × ℕ)) → IsKept net w → Always net (λ r x. (h : R) → x ≡ Some h → size h ≤ bound) w → IsOrder net w takes no_later outcome (rests net w) vs
        → AreRounds net (suc (length vs * (bound + 2))) w ds → IsQuiet (run net (deliveries ds) w) × ((r : ℕ) → (run net (deliveries ds) w).route r ≡ outcome r)
    comes_to_rest vs ds kept short order rounds =
        ends (length vs * (bound + 2)) 0 w ds (same_self net w) kept (starts_now w (same_self net w) kept short)
        (λ i r x le a. order-settles vs (rests net w) 0 (λ z t. t) rests-settled order i r x le a) rounds
