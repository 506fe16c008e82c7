-- Where no route changes any more, nothing new waits.
use Rattle.std.proofs.Common.{◌≡◌, ℕ, ◌≤◌, zero, suc, Bool, true, false, not, ◌&&◌, ◌⊎◌, List, [], ◌∷◌, ◌++◌, length, Option, Some, None, refl, sym, ap, ◌∙◌, subst, inl, inr, arith}
use Rattle.std.specs.Prelude.{if◌then◌else◌, ◌==◌}
use Rattle.std.proofs.lemmas.Bool.{and_left, and_parts, and_right, cases_Bool, cond-true, cond-false, eqb-true}
use Rattle.event_base.specs.declared.event.Event.TheVariants.{Deliver}
use Rattle.event_base.specs.declared.event.EventFault.{EventFault}
use Rattle.event_base.specs.World.{Speakers, World, at, choice, choose_again, exported, is, live, owes, received, running, tell, with_choice}
use Rattle.event_base.specs.Steps.{IsQuiet, delivered, fault_of, happens, if_there, or_as_before, run, step, unless_waiting}
use Rattle.event_law.specs.Kept.{AreSpeakers, IsKept}
use Rattle.event_law.proofs.Keeping.{run-keeps}
use Rattle.rest_law.specs.Rounds.{IsRound, deliveries, times}
use Rattle.rest_law.specs.Orders.{said}
use Rattle.rest_law.proofs.Fresh.{left, left_of, one_less}

module _ {R : Type 0} (net : Speakers R) (n : AreSpeakers net) (alike : (m : Option R) → net.same m m ≡ true) (a b : ℕ) where
  -- what is told already isn't told again
  unowed : (r : ℕ) (v : World R) → (live net v a b ≡ true → v.queued a b ≡ exported net v a b)
      → (if at r r then choice net v r else v.route r) ≡ v.route r → (at r a && owes net (with_choice net r v) a b) ≡ false
  unowed r v told same = elim (cases_Bool (at r a)) [
    | inr f ↦ and_left _ _ f
    | inl t ↦ and_right (at r a) _ (elim (cases_Bool (live net v a b)) [
      | inr off ↦ and_left _ _ off
      | inl on ↦ (
          let here : a ≡ r = eqb-true a r t in
          let route : (if at r a then choice net v r else v.route a) ≡ v.route a = ap (λ z. if at r z then choice net v r else v.route z) here ∙ same ∙ ap v.route (sym here) in
          let now : exported net (with_choice net r v) a b ≡ v.queued a b = ap (said net v a b) route ∙ sym (told on) in
          and_right (live net v a b) _ (ap not (ap (λ (m : Option R). net.same m (v.queued a b)) now ∙ alike (v.queued a b))))
    ])
  ]

  choose_again-still : (r : ℕ) (v : World R) → (live net v a b ≡ true → v.queued a b ≡ exported net v a b) → (choose_again net r v).route r ≡ v.route r → (choose_again net r v).queue a b ≡ v.queue a b
  choose_again-still r v told same = elim (cases_Bool (running net v r)) [
    | inr f ↦ ap (λ (u : World R). u.queue a b) (cond-false (running net v r) (tell net (λ x y. at r x) (with_choice net r v)) v f)
    | inl t ↦ (
        let e : choose_again net r v ≡ tell net (λ x y. at r x) (with_choice net r v) = cond-true (running net v r) (tell net (λ x y. at r x) (with_choice net r v)) v t in
        ap (λ (u : World R). u.queue a b) e
        ∙ cond-false (at r a && owes net (with_choice net r v) a b) (v.queue a b ++ exported net (with_choice net r v) a b ∷ []) (v.queue a b)
        (unowed r v told (sym (ap (λ (u : World R). u.route r) e) ∙ same)))
  ]

  -- how many wait, once k did
  abbrev Few : ℕ → World R → Type 0
  Few k v = length (v.queue a b) ≤ k

  few_less : (k : ℕ) (m : Option R) (ms : List (Option R)) → suc (length ms) ≤ k → length ms ≤ one_less k
  few_less zero m ms h = absurd (omega (arith, h))
  few_less (suc k) m ms h = omega (arith, h)

  none_few : (k : ℕ) (c : Bool) (ms : List (Option R)) → (c ≡ true → ms ≡ []) → length ms ≤ k → length ms ≤ left c k
  none_few k false ms none h = h
  none_few k true ms none h = subst (λ (ms : List (Option R)). length ms ≤ one_less k) (sym (none refl)) (omega arith)

  here_queue : (x y : ℕ) (v : World R) (t : is x y a b ≡ true) → v.queue a b ≡ v.queue x y
  here_queue x y v t = (let p = and_parts (a == x) (b == y) t in ap (λ z. v.queue z b) (eqb-true a x p.0) ∙ ap (v.queue x) (eqb-true b y p.1))

  delivered-few : (k x y : ℕ) (ms : List (Option R)) (v : World R) → v.queue x y ≡ ms → IsKept net v → (delivered net x y ms v).route y ≡ v.route y
      → Few k v → Few (left (is x y a b) k) (delivered net x y ms v)
  delivered-few k x y [] v e kept same h = none_few k (is x y a b) (v.queue a b) (λ t. here_queue x y v t ∙ e) h
  delivered-few k x y (m ∷ rest) v e kept same h =
      subst (λ (ms : List (Option R)). length ms ≤ left (is x y a b) k) (sym (choose_again-still y (received net x y m rest v) (λ on. kept.told a b on refl) same)) (elim (cases_Bool (is x y a b)) [
        | inr f ↦ rw f h
        | inl t ↦ rw t (few_less k m rest (subst (λ (ms : List (Option R)). length ms ≤ k) (here_queue x y v t ∙ e) h))
      ])

  refused : (there : Bool) (ms : List (Option R)) (z : EventFault) → if_there there (unless_waiting ms) ≡ Some z → (there ≡ false) ⊎ (ms ≡ [])
  refused true [] z h = inr refl
  refused true (m ∷ ms) z h = absurd (cc)
  refused false ms z h = inl refl

  happens-few : (k x y : ℕ) (v : World R) → IsKept net v → (happens net (Deliver x y) v).route y ≡ v.route y → Few k v → Few (left (is x y a b) k) (happens net (Deliver x y) v)
  happens-few k x y v kept same h = by (fault_of net (Deliver x y) v) refl same
    where
      by : (o : Option EventFault) → fault_of net (Deliver x y) v ≡ o → (or_as_before o (step net (Deliver x y) v) v).route y ≡ v.route y
          → Few (left (is x y a b) k) (or_as_before o (step net (Deliver x y) v) v)
      by None e q = delivered-few k x y (v.queue x y) v refl kept q h
      by (Some z) e q = none_few k (is x y a b) (v.queue a b) (λ t. here_queue x y v t ∙ elim (refused (net.linked x y) (v.queue x y) z e) [
        | inr none ↦ none
        | inl off ↦ (kept.empty x y (and_left _ _ off)).0
      ]) h

  run-few : (ds : List (ℕ × ℕ)) (k : ℕ) (v : World R) → IsKept net v → ((es : List (ℕ × ℕ)) (r : ℕ) → (run net (deliveries es) v).route r ≡ v.route r)
      → Few k v → k ≤ times a b ds → (run net (deliveries ds) v).queue a b ≡ []
  run-few [] k v kept still h t = nothing (v.queue a b) (omega (arith, h, t))
    where
      nothing : (ms : List (Option R)) → length ms ≤ 0 → ms ≡ []
      nothing [] h = refl
      nothing (m ∷ ms) h = absurd (omega (arith, h))
  run-few (d ∷ ds) k v kept still h t =
      run-few ds (left (is d.0 d.1 a b) k) (happens net (Deliver d.0 d.1) v) (run-keeps net n (Deliver d.0 d.1 ∷ []) v kept) (λ es r. still (d ∷ es) r ∙ sym (still (d ∷ []) r))
      (happens-few k d.0 d.1 v kept (still (d ∷ []) d.1) h) (left_of (is d.0 d.1 a b) k (times a b ds) t)

-- after a round in which no route changes nothing waits
pub still-quiet : {R : Type 0} (net : Speakers R) (n : AreSpeakers net) → ((m : Option R) → net.same m m ≡ true) → (v : World R) (ds : List (ℕ × ℕ)) → IsKept net v
    → ((es : List (ℕ × ℕ)) (r : ℕ) → (run net (deliveries es) v).route r ≡ v.route r) → IsRound v ds → IsQuiet (run net (deliveries ds) v)
still-quiet net n alike v ds kept still round a b = run-few net n alike a b ds (length (v.queue a b)) v kept still (omega arith) (round a b)
