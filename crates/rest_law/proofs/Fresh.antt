-- One direction, over deliveries: how many of what was last heard and of what waits are old.
use Rattle.std.proofs.Common.{◌≡◌, ℕ, ◌≤◌, zero, suc, Bool, true, false, cond, ◌&&◌, List, [], ◌∷◌, ◌++◌, length, Option, Some, None, refl, sym, ap, ◌∙◌, subst, inl, inr, arith}
use Rattle.std.specs.Prelude.{◌==◌}
use Rattle.std.proofs.lemmas.Bool.{and_parts, cases_Bool, cond-true, cond-false, eqb-true}
use Rattle.event_base.specs.declared.event.Event.TheVariants.{Deliver}
use Rattle.event_base.specs.declared.event.EventFault.{EventFault}
use Rattle.event_base.specs.World.{Speakers, World, at, is, live, running, exported, owes, tell, with_choice, choose_again, received}
use Rattle.event_base.specs.Steps.{delivered, fault_of, happens, if_there, or_as_before, run, step, unless_waiting}
use Rattle.event_law.specs.Kept.{AreSpeakers, IsKept, last_of}
use Rattle.event_law.proofs.Keeping.{run-keeps}
use Rattle.rest_law.specs.Rounds.{deliveries, times}
use Rattle.rest_law.proofs.Failures.{SameFailures, same_happens, same_live}

abbrev pub one_less : ℕ → ℕ
one_less zero = zero
one_less (suc k) = k

-- what is left of k where one more may have come
abbrev pub left : Bool → ℕ → ℕ
left c k = cond c (one_less k) k

pub left_of : (c : Bool) (k t : ℕ) → k ≤ cond c (suc t) t → left c k ≤ t
left_of true zero t h = omega arith
left_of true (suc k) t h = omega (arith, h)
left_of false k t h = h

module _ {R : Type 0} where
  abbrev pub EachOne : (Option R → Type 0) → List (Option R) → Type 0
  EachOne Q [] = Unit {0}
  EachOne Q (m ∷ ms) = Q m × EachOne Q ms

  -- but for the first k of them
  abbrev pub Behind : ℕ → (Option R → Type 0) → List (Option R) → Type 0
  Behind zero Q ms = EachOne Q ms
  Behind (suc k) Q [] = Unit {0}
  Behind (suc k) Q (m ∷ ms) = Behind k Q ms

  behind_none : (k : ℕ) (Q : Option R → Type 0) → Behind k Q []
  behind_none zero Q = tt
  behind_none (suc k) Q = tt

  behind_one : (k : ℕ) (Q : Option R → Type 0) (m : Option R) → Q m → Behind k Q (m ∷ [])
  behind_one zero Q m q = (q, tt)
  behind_one (suc k) Q m q = behind_none k Q

  behind_push : (k : ℕ) (Q : Option R → Type 0) (ms : List (Option R)) (m : Option R) → Behind k Q ms → Q m → Behind k Q (ms ++ m ∷ [])
  behind_push zero Q [] m b q = (q, tt)
  behind_push zero Q (x ∷ ms) m b q = (b.0, behind_push zero Q ms m b.1 q)
  behind_push (suc k) Q [] m b q = behind_none k Q
  behind_push (suc k) Q (x ∷ ms) m b q = behind_push k Q ms m b q

  behind_next : (k : ℕ) (Q : Option R → Type 0) (h m : Option R) (ms : List (Option R)) → Behind k Q (h ∷ m ∷ ms) → Behind (one_less k) Q (m ∷ ms)
  behind_next zero Q h m ms b = b.1
  behind_next (suc k) Q h m ms b = b

module _ {R : Type 0} (net : Speakers R) (n : AreSpeakers net) where
  pub behind_last : (Q : Option R → Type 0) (ms : List (Option R)) (h : Option R) → Q (last_of net ms h) → Behind (length ms) Q (h ∷ ms)
  behind_last Q [] h q = (q, tt)
  behind_last Q (m ∷ ms) h q = behind_last Q ms m q

  kept_then : (a b : ℕ) (v : World R) → IsKept net v → IsKept net (happens net (Deliver a b) v)
  kept_then a b v k = run-keeps net n (Deliver a b ∷ []) v k

  module _ (Q : Option R → Type 0) (a b : ℕ) where
    -- of what b has heard from a and of what waits between them, all but the first k is so
    abbrev pub Fresh : ℕ → World R → Type 0
    Fresh k v = Behind k Q (v.heard a b ∷ v.queue a b)

    tell-fresh : (k : ℕ) (p : ℕ → ℕ → Bool) (v : World R) → Fresh k v → Q (exported net v a b) → Fresh k (tell net p v)
    tell-fresh k p v f q = elim (cases_Bool (p a b && owes net v a b)) [
      | inl t ↦ rw t (behind_push k Q (v.heard a b ∷ v.queue a b) (exported net v a b) f q)
      | inr e ↦ rw e f
    ]

    choose_again-fresh : (k r : ℕ) (v : World R) → Fresh k v → Q (exported net (choose_again net r v) a b) → Fresh k (choose_again net r v)
    choose_again-fresh k r v f q = elim (cases_Bool (running net v r)) [
      | inl t ↦ (
          let e : choose_again net r v ≡ tell net (λ x y. at r x) (with_choice net r v) = cond-true (running net v r) (tell net (λ x y. at r x) (with_choice net r v)) v t in
          subst (Fresh k) (sym e) (tell-fresh k (λ x y. at r x) (with_choice net r v) f (subst (λ (u : World R). Q (exported net u a b)) e q)))
      | inr g ↦ subst (Fresh k) (sym (cond-false (running net v r) (tell net (λ x y. at r x) (with_choice net r v)) v g)) f
    ]

    received-fresh : (k x y : ℕ) (m : Option R) (rest : List (Option R)) (v : World R) → v.queue x y ≡ m ∷ rest → Fresh k v → Fresh (left (is x y a b) k) (received net x y m rest v)
    received-fresh k x y m rest v e f = elim (cases_Bool (is x y a b)) [
      | inl t ↦ (
          let p = and_parts (a == x) (b == y) t in
          let here : v.queue a b ≡ m ∷ rest = ap (λ z. v.queue z b) (eqb-true a x p.0) ∙ ap (v.queue x) (eqb-true b y p.1) ∙ e in
          rw t (behind_next k Q (v.heard a b) m rest (subst (λ (ms : List (Option R)). Behind k Q (v.heard a b ∷ ms)) here f)))
      | inr g ↦ rw g f
    ]

    -- where nothing waits, what was heard is the present route
    heard_now : (v : World R) → IsKept net v → live net v a b ≡ true → v.queue a b ≡ [] → Q (exported net v a b) → Q (v.heard a b)
    heard_now v k on none q = subst Q (sym (ap (λ (ms : List (Option R)). last_of net ms (v.heard a b)) (sym none) ∙ k.last a b on ∙ k.told a b on refl)) q

    -- a delivery that finds nothing
    nothing-fresh : (k : ℕ) (c : Bool) (v : World R) → (c ≡ true → v.queue a b ≡ []) → IsKept net v → live net v a b ≡ true → Q (exported net v a b) → Fresh k v → Fresh (left c k) v
    nothing-fresh k false v none kept on q f = f
    nothing-fresh k true v none kept on q f =
        subst (λ (ms : List (Option R)). Behind (one_less k) Q (v.heard a b ∷ ms)) (sym (none refl))
        (behind_one (one_less k) Q (v.heard a b) (heard_now v kept on (none refl) q))

    delivered-fresh : (k x y : ℕ) (ms : List (Option R)) (v : World R) → v.queue x y ≡ ms → IsKept net v → live net v a b ≡ true
        → Q (exported net v a b) → Q (exported net (delivered net x y ms v) a b)
        → Fresh k v → Fresh (left (is x y a b) k) (delivered net x y ms v)
    delivered-fresh k x y [] v e kept on q q' f =
        nothing-fresh k (is x y a b) v
        (λ t. (let p = and_parts (a == x) (b == y) t in ap (λ z. v.queue z b) (eqb-true a x p.0) ∙ ap (v.queue x) (eqb-true b y p.1) ∙ e)) kept on q f
    delivered-fresh k x y (m ∷ rest) v e kept on q q' f = choose_again-fresh (left (is x y a b) k) y (received net x y m rest v) (received-fresh k x y m rest v e f) q'

    refused : (there : Bool) (ms : List (Option R)) (z : EventFault) → there ≡ true → if_there there (unless_waiting ms) ≡ Some z → ms ≡ []
    refused true [] z t h = refl
    refused true (m ∷ ms) z t h = absurd (cc)
    refused false ms z t h = absurd (cc)

    happens-fresh : (k x y : ℕ) (v : World R) → IsKept net v → live net v a b ≡ true → Q (exported net v a b)
        → Q (exported net (happens net (Deliver x y) v) a b) → Fresh k v → Fresh (left (is x y a b) k) (happens net (Deliver x y) v)
    happens-fresh k x y v kept on q q' f = by (fault_of net (Deliver x y) v) refl q'
      where
        by : (o : Option EventFault) → fault_of net (Deliver x y) v ≡ o → Q (exported net (or_as_before o (step net (Deliver x y) v) v) a b)
            → Fresh (left (is x y a b) k) (or_as_before o (step net (Deliver x y) v) v)
        by None e p = delivered-fresh k x y (v.queue x y) v refl kept on q p f
        by (Some z) e p = nothing-fresh k (is x y a b) v (λ t.
            let c = and_parts (a == x) (b == y) t in
            let there : net.linked x y ≡ true = ap (λ (i : ℕ). net.linked i y) (sym (eqb-true a x c.0)) ∙ ap (net.linked a) (sym (eqb-true b y c.1)) ∙ (and_parts (net.linked a b) _ on).0 in
            ap (λ i. v.queue i b) (eqb-true a x c.0) ∙ ap (v.queue x) (eqb-true b y c.1) ∙ refused (net.linked x y) (v.queue x y) z there e) kept on q f

    -- after as many deliveries nothing old is left
    pub run-fresh : (ds : List (ℕ × ℕ)) (k : ℕ) (w v : World R) → SameFailures w v → IsKept net v → live net w a b ≡ true
        → ((es : List (ℕ × ℕ)) → Q (exported net (run net (deliveries es) v) a b)) → Fresh k v → k ≤ times a b ds
        → EachOne Q ((run net (deliveries ds) v).heard a b ∷ (run net (deliveries ds) v).queue a b)
    run-fresh [] zero w v s kept on q f h = f
    run-fresh [] (suc k) w v s kept on q f h = absurd (omega (arith, h))
    run-fresh (d ∷ ds) k w v s kept on q f h =
        run-fresh ds (left (is d.0 d.1 a b) k) w (happens net (Deliver d.0 d.1) v) (same_happens net d.0 d.1 w v s) (kept_then d.0 d.1 v kept) on (λ es. q (d ∷ es))
        (happens-fresh k d.0 d.1 v kept (same_live net w v s a b ∙ on) (q []) (q (d ∷ [])) f) (left_of (is d.0 d.1 a b) k (times a b ds) h)
