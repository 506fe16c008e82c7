-- Every route that stands anywhere is of its kind, after every event.
use Rattle.std.proofs.Common.{◌≡◌, ℕ, Bool, true, false, cond, ◌&&◌, eqb, List, [], ◌∷◌, ◌++◌, Option, Some, None, refl, sym, ap, ◌∙◌, subst, inl, inr}
use Rattle.std.proofs.lemmas.Bool.{cases_Bool, and_parts, eqb-true, cond-true, cond-false}
use Rattle.event_base.specs.declared.event.Event.{Event}
use Rattle.event_base.specs.declared.event.Event.TheVariants.{Deliver, LinkDown, LinkUp, RouterDown, RouterUp, PeerSpeak, PeerSilent}
use Rattle.event_base.specs.declared.event.EventFault.{EventFault}
use Rattle.event_base.specs.World.{Speakers, World, at, is, joins, touches, live, running, offers, choice, exported, owes, tell, with_choice, choose_again, each_again}
use Rattle.event_base.specs.World.{emptied, with_cut, with_down, with_silent, received}
use Rattle.event_base.specs.Steps.{before_all, delivered, fault_of, happens, opening, or_as_before, run, step}
use Rattle.event_law.specs.Kinds.{Held, Each, IsKind, AreKinds}

module _ {R : Type 0} where
  pub held-none : (P : R → Type 0) → Held P None
  held-none P y e = absurd (cc)

  pub held-cond : (P : R → Type 0) (b : Bool) (x y : Option R) → (b ≡ true → Held P x) → (b ≡ false → Held P y) → Held P (cond b x y)
  held-cond P true x y p q = p refl
  held-cond P false x y p q = q refl

  each-cond : (P : R → Type 0) (b : Bool) (x y : List (Option R)) → Each P x → Each P y → Each P (cond b x y)
  each-cond P true x y p q = p
  each-cond P false x y p q = q

  each-push : (P : R → Type 0) (ms : List (Option R)) (m : Option R) → Each P ms → Held P m → Each P (ms ++ m ∷ [])
  each-push P [] m p q = (q, tt)
  each-push P (x ∷ ms) m p q = (p.0, each-push P ms m p.1 q)

module _ {R : Type 0} (net : Speakers R) (on_hold : ℕ → R → Type 0) (on : ℕ → ℕ → R → Type 0) (kind : IsKind net on_hold on) where
  pub exported-held : (w : World R) (a b : ℕ) → AreKinds on_hold on w → Held (on a b) (exported net w a b)
  exported-held w a b k =
      held-cond (on a b) (net.is_router a) _ _ (λ t. kind.exports a b (w.route a) t (k.route a))
      (λ f. held-cond (on a b) (w.silent b a) _ _ (λ t. held-none (on a b)) (λ s. kind.announces a b f))

  pub choice-held : (w : World R) (r : ℕ) → AreKinds on_hold on w → Held (on_hold r) (choice net w r)
  choice-held w r k =
      held-cond (on_hold r) (running net w r) _ _
      (λ t. kind.chooses r (offers net w r) (and_parts (net.is_router r) _ t).0 (λ u. held-cond (on u r) (live net w u r) _ _ (λ l. k.heard u r) (λ f. held-none (on u r))))
      (λ f. held-none (on_hold r))

  pub tell-kinds : (p : ℕ → ℕ → Bool) (w : World R) → AreKinds on_hold on w → AreKinds on_hold on (tell net p w)
  tell-kinds p w k = record {
    queue = λ a b. each-cond (on a b) (p a b && owes net w a b) _ _ (each-push (on a b) (w.queue a b) (exported net w a b) (k.queue a b) (exported-held w a b k)) (k.queue a b);
    heard = k.heard;
    queued = λ a b. held-cond (on a b) (p a b && owes net w a b) _ _ (λ t. exported-held w a b k) (λ f. k.queued a b);
    route = k.route;
  }

  pub with_choice-kinds : (r : ℕ) (w : World R) → AreKinds on_hold on w → AreKinds on_hold on (with_choice net r w)
  with_choice-kinds r w k = record {
    queue = k.queue;
    heard = k.heard;
    queued = k.queued;
    route = λ x. elim (cases_Bool (at r x)) [
      | inl e ↦ subst (Held (on_hold x)) (sym (cond-true (at r x) (choice net w r) (w.route x) e ∙ ap (choice net w) (sym (eqb-true x r e)))) (choice-held w x k)
      | inr e ↦ subst (Held (on_hold x)) (sym (cond-false (at r x) (choice net w r) (w.route x) e)) (k.route x)
    ];
  }

  pub choose_again-kinds : (r : ℕ) (w : World R) → AreKinds on_hold on w → AreKinds on_hold on (choose_again net r w)
  choose_again-kinds r w k = elim (cases_Bool (running net w r)) [
    | inl e ↦
        subst (AreKinds on_hold on) (sym (cond-true (running net w r) (tell net (λ a b. at r a) (with_choice net r w)) w e))
        (tell-kinds (λ a b. at r a) (with_choice net r w) (with_choice-kinds r w k))
    | inr e ↦ subst (AreKinds on_hold on) (sym (cond-false (running net w r) (tell net (λ a b. at r a) (with_choice net r w)) w e)) k
  ]

  pub each_again-kinds : (rs : List ℕ) (w : World R) → AreKinds on_hold on w → AreKinds on_hold on (each_again net rs w)
  each_again-kinds [] w k = k
  each_again-kinds (r ∷ rs) w k = each_again-kinds rs (choose_again net r w) (choose_again-kinds r w k)

  pub emptied-kinds : (p : ℕ → ℕ → Bool) (w : World R) → AreKinds on_hold on w → AreKinds on_hold on (emptied net p w)
  emptied-kinds p w k = record {
    queue = λ a b. each-cond (on a b) (p a b) [] (w.queue a b) tt (k.queue a b);
    heard = λ a b. held-cond (on a b) (p a b) None (w.heard a b) (λ t. held-none (on a b)) (λ f. k.heard a b);
    queued = λ a b. held-cond (on a b) (p a b) None (w.queued a b) (λ t. held-none (on a b)) (λ f. k.queued a b);
    route = k.route;
  }

  pub marked-kinds : (w v : World R) → AreKinds on_hold on w → v.queue ≡ w.queue → v.heard ≡ w.heard → v.queued ≡ w.queued → v.route ≡ w.route → AreKinds on_hold on v
  marked-kinds w v k q h s r = record {
    queue = λ a b. subst (λ (f : ℕ → ℕ → List (Option R)). Each (on a b) (f a b)) (sym q) (k.queue a b);
    heard = λ a b. subst (λ (f : ℕ → ℕ → Option R). Held (on a b) (f a b)) (sym h) (k.heard a b);
    queued = λ a b. subst (λ (f : ℕ → ℕ → Option R). Held (on a b) (f a b)) (sym s) (k.queued a b);
    route = λ x. subst (λ (f : ℕ → Option R). Held (on_hold x) (f x)) (sym r) (k.route x);
  }

  pub received-kinds : (a b : ℕ) (m : Option R) (rest : List (Option R)) (w : World R) → AreKinds on_hold on w → Each (on a b) (m ∷ rest) → AreKinds on_hold on (received net a b m rest w)
  received-kinds a b m rest w k e = record {
    queue = λ x y. elim (cases_Bool (is a b x y)) [
      | inl t ↦ subst (Each (on x y)) (sym (cond-true (is a b x y) rest (w.queue x y) t)) (here x y t (λ c d. Each (on c d) rest) e.1)
      | inr f ↦ subst (Each (on x y)) (sym (cond-false (is a b x y) rest (w.queue x y) f)) (k.queue x y)
    ];
    heard = λ x y. elim (cases_Bool (is a b x y)) [
      | inl t ↦ subst (Held (on x y)) (sym (cond-true (is a b x y) m (w.heard x y) t)) (here x y t (λ c d. Held (on c d) m) e.0)
      | inr f ↦ subst (Held (on x y)) (sym (cond-false (is a b x y) m (w.heard x y) f)) (k.heard x y)
    ];
    queued = k.queued;
    route = k.route;
  }
    where
      here : (x y : ℕ) → is a b x y ≡ true → (P : ℕ → ℕ → Type 0) → P a b → P x y
      here x y t P p =
          let q = and_parts (eqb x a) (eqb y b) t in
          subst (λ z. P z y) (sym (eqb-true x a q.0)) (subst (P a) (sym (eqb-true y b q.1)) p)

  pub delivered-kinds : (a b : ℕ) (ms : List (Option R)) (w : World R) → AreKinds on_hold on w → Each (on a b) ms → AreKinds on_hold on (delivered net a b ms w)
  delivered-kinds a b [] w k e = k
  delivered-kinds a b (m ∷ rest) w k e = choose_again-kinds b (received net a b m rest w) (received-kinds a b m rest w k e)

  pub down-kinds : (r : ℕ) (v : Bool) (w : World R) → AreKinds on_hold on w → AreKinds on_hold on (with_down net r v w)
  down-kinds r v w k = record { queue = k.queue; heard = k.heard; queued = k.queued; route = λ x. held-cond (on_hold x) (at r x) None (w.route x) (λ t. held-none (on_hold x)) (λ f. k.route x) }

  pub step-kinds : (e : Event) (w : World R) → AreKinds on_hold on w → AreKinds on_hold on (step net e w)
  step-kinds (Deliver a b) w k = delivered-kinds a b (w.queue a b) w k (k.queue a b)
  step-kinds (LinkDown a b) w k = choose_again-kinds b _ (choose_again-kinds a _ (emptied-kinds (joins a b) (with_cut net a b true w) (marked-kinds w (with_cut net a b true w) k refl refl refl refl)))
  step-kinds (LinkUp a b) w k = tell-kinds (joins a b) (with_cut net a b false w) (marked-kinds w (with_cut net a b false w) k refl refl refl refl)
  step-kinds (RouterDown r) w k = each_again-kinds (net.neighbours r) _ (emptied-kinds (touches r) (with_down net r true w) (down-kinds r true w k))
  step-kinds (RouterUp r) w k = tell-kinds (touches r) _ (choose_again-kinds r (with_down net r false w) (down-kinds r false w k))
  step-kinds (PeerSpeak r p) w k = tell-kinds (is p r) (with_silent net r p false w) (marked-kinds w (with_silent net r p false w) k refl refl refl refl)
  step-kinds (PeerSilent r p) w k = tell-kinds (is p r) (with_silent net r p true w) (marked-kinds w (with_silent net r p true w) k refl refl refl refl)

  pub happens-kinds : (e : Event) (w : World R) → AreKinds on_hold on w → AreKinds on_hold on (happens net e w)
  happens-kinds e w k = by (fault_of net e w)
    where
      by : (o : Option EventFault) → AreKinds on_hold on (or_as_before o (step net e w) w)
      by None = step-kinds e w k
      by (Some f) = k

  pub run-kinds : (es : List Event) (w : World R) → AreKinds on_hold on w → AreKinds on_hold on (run net es w)
  run-kinds [] w k = k
  run-kinds (e ∷ es) w k = run-kinds es (happens net e w) (happens-kinds e w k)

  pub opening-kinds : AreKinds on_hold on (opening net)
  opening-kinds = tell-kinds (λ a b. true) (before_all net) (record {
    queue = λ a b. tt;
    heard = λ a b. held-none (on a b);
    queued = λ a b. held-none (on a b);
    route = λ r. held-cond (on_hold r) (net.is_router r) _ _ (λ t. kind.chooses r (λ u. None) t (λ u. held-none (on u r))) (λ f. held-none (on_hold r));
  })
