-- Routers that choose again in one event do so at once: none hears what another one queues.
use Rattle.std.proofs.Common.{◌≡◌, ℕ, Bool, true, false, not, ◌&&◌, ◌||◌, List, [], ◌∷◌, ◌++◌, Option, None, refl, sym, ap, ◌∙◌, inl, inr}
use Rattle.std.specs.Prelude.{if◌then◌else◌}
use Rattle.std.proofs.lemmas.Bool.{cases_Bool, cond-true, cond-false, eqb-true}
use Rattle.event_base.specs.World.{Speakers, World, at, choice, each_again, live, running, tell, with_choice}
use Rattle.event_law.specs.Kept.{among}
use Rattle.event_law.specs.Together.{OrderIsFree, at_once}

module _ {R : Type 0} (net : Speakers R) where
  same_world : (v w : World R) → ((r : ℕ) → v.down r ≡ w.down r) → ((a b : ℕ) → v.cut a b ≡ w.cut a b) → ((a b : ℕ) → v.silent a b ≡ w.silent a b) → ((a b : ℕ) → v.queue a b ≡ w.queue a b)
      → ((a b : ℕ) → v.heard a b ≡ w.heard a b) → ((a b : ℕ) → v.queued a b ≡ w.queued a b) → ((r : ℕ) → v.route r ≡ w.route r) → v ≡ w
  same_world v w down cut silent queue heard queued route = λ i. record {
    down = λ r. down r i;
    cut = λ a b. cut a b i;
    silent = λ a b. silent a b i;
    queue = λ a b. queue a b i;
    heard = λ a b. heard a b i;
    queued = λ a b. queued a b i;
    route = λ r. route r i;
  }

  -- ---- one direction, by the route of its sender, what was last queued and what waits

  module _ (w : World R) (a b : ℕ) where
    abbrev out : Option R → Option R
    out o = if net.is_router a then net.export a b o else (if w.silent b a then None else net.announced a)

    abbrev owed : Option R → Option R → Bool
    owed o s = live net w a b && not (net.same (out o) s)

    abbrev noted : Bool → Option R → Option R → Option R
    noted c o s = if c && owed o s then out o else s

    abbrev said : Bool → Option R → Option R → List (Option R) → List (Option R)
    said c o s q = if c && owed o s then q ++ out o ∷ [] else q

    -- either the first one tells, and then nobody, or the second one alone
    twice_said : (first second both : Bool) (o o' o'' s : Option R) (q : List (Option R))
        → (first ≡ true → (second ≡ false) × (both ≡ true) × (o'' ≡ o)) → (first ≡ false → (both ≡ second) × (o' ≡ o''))
        → said second o' (noted first o s) (said first o s q) ≡ said both o'' s q
    twice_said true second both o o' o'' s q h g = (let k = h refl in rw (k.0, k.1, k.2) refl)
    twice_said false second both o o' o'' s q h g = (let k = g refl in rw (k.0, k.1) refl)

    twice_noted : (first second both : Bool) (o o' o'' s : Option R) → (first ≡ true → (second ≡ false) × (both ≡ true) × (o'' ≡ o)) → (first ≡ false → (both ≡ second) × (o' ≡ o''))
        → noted second o' (noted first o s) ≡ noted both o'' s
    twice_noted true second both o o' o'' s h g = (let k = h refl in rw (k.0, k.1, k.2) refl)
    twice_noted false second both o o' o'' s h g = (let k = g refl in rw (k.0, k.1) refl)

  -- ---- the first router, and then the others

  module _ (r : ℕ) (rs : List ℕ) (w : World R) (apart : among rs r ≡ false) (runs : running net w r ≡ true) where
    abbrev others : ℕ → Bool
    others x = among rs x && running net w x

    abbrev all : ℕ → Bool
    all x = among (r ∷ rs) x && running net w x

    abbrev after : World R
    after = tell net (λ a b. at r a) (with_choice net r w)

    abbrev held : ℕ → Option R
    held x = if at r x then choice net w r else w.route x

    first : (x : ℕ) → at r x ≡ true → (others x ≡ false) × (all x ≡ true) × ((if all x then choice net w x else w.route x) ≡ held x)
    first x t =
        let same : x ≡ r = eqb-true x r t in
        let off : others x ≡ false = ap (λ z. among rs z && running net w x) same ∙ ap (λ z. z && running net w x) apart in
        let on : all x ≡ true = ap (λ z. (z || among rs x) && running net w x) t ∙ ap (running net w) same ∙ runs in
        (off, on, cond-true (all x) (choice net w x) (w.route x) on ∙ ap (choice net w) same ∙ sym (cond-true (at r x) (choice net w r) (w.route x) t))

    later : (x : ℕ) → at r x ≡ false → (all x ≡ others x) × ((if others x then choice net w x else held x) ≡ (if all x then choice net w x else w.route x))
    later x f =
        let same : all x ≡ others x = ap (λ z. (z || among rs x) && running net w x) f in
        (same, ap (λ z. if others x then choice net w x else z) (cond-false (at r x) (choice net w r) (w.route x) f) ∙ ap (λ z. if z then choice net w x else w.route x) (sym same))

    routes : (x : ℕ) → (if others x then choice net w x else held x) ≡ (if all x then choice net w x else w.route x)
    routes x = elim (cases_Bool (at r x)) [
      | inl t ↦ cond-false (others x) (choice net w x) (held x) (first x t).0 ∙ sym (first x t).2
      | inr f ↦ (later x f).1
    ]

    together : at_once net others after ≡ at_once net all w
    together = same_world (at_once net others after) (at_once net all w) (λ x. refl) (λ a b. refl) (λ a b. refl)
        (λ a b. twice_said w a b (at r a) (others a) (all a) (held a) (if others a then choice net w a else held a)
        (if all a then choice net w a else w.route a) (w.queued a b) (w.queue a b) (first a) (later a))
        (λ a b. refl)
        (λ a b. twice_noted w a b (at r a) (others a) (all a) (held a) (if others a then choice net w a else held a) (if all a then choice net w a else w.route a) (w.queued a b) (first a) (later a))
        routes

  pub order_is_free : OrderIsFree net
  order_is_free [] w distinct = refl
  order_is_free (r ∷ rs) w distinct = elim (cases_Bool (running net w r)) [
    | inl runs ↦ ap (each_again net rs) (cond-true (running net w r) (tell net (λ a b. at r a) (with_choice net r w)) w runs)
        ∙ order_is_free rs (tell net (λ a b. at r a) (with_choice net r w)) distinct.1 ∙ together r rs w distinct.0 runs
    | inr rests ↦ ap (each_again net rs) (cond-false (running net w r) (tell net (λ a b. at r a) (with_choice net r w)) w rests)
        ∙ order_is_free rs w distinct.1 ∙ ap (λ p. at_once net p w) (λ i x. same x rests i)
  ]
    where
      same : (x : ℕ) → running net w r ≡ false → (among rs x && running net w x) ≡ (among (r ∷ rs) x && running net w x)
      same x rests = elim (cases_Bool (at r x)) [
        | inl t ↦ (
            let off : running net w x ≡ false = ap (running net w) (eqb-true x r t) ∙ rests in
            rw off (drop (among rs x) (among (r ∷ rs) x)))
        | inr f ↦ ap (λ z. (z || among rs x) && running net w x) (sym f)
      ]
        where
          drop : (a b : Bool) → (a && false) ≡ (b && false)
          drop true true = refl
          drop true false = refl
          drop false true = refl
          drop false false = refl
