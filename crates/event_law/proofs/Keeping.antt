-- Each event keeps what is kept.
use Rattle.std.proofs.Common.{◌≡◌, ℕ, Bool, true, false, cond, not, ◌&&◌, ◌||◌, eqb, ◌⊎◌, List, [], ◌∷◌, ◌++◌, Option, Some, None, refl, sym, ap, ◌∙◌, subst, inl, inr}
use Rattle.std.proofs.lemmas.Bool.{cases_Bool, and_left, and_right, and_cases, and_parts, and_from, or_cases, or_parts, or_left, or_right, not-false, both_ways, eqb-true}
use Rattle.std.proofs.lemmas.Bool.{eq-eqb, ne_eqb, true_from_ne_false, false_from_ne_true, cond-true, cond-false}
use Rattle.std.proofs.Math.Bool.{and_comm, or_comm, and-true}
use Rattle.event_base.specs.declared.event.Event.{Event}
use Rattle.event_base.specs.declared.event.Event.TheVariants.{Deliver, LinkDown, LinkUp, RouterDown, RouterUp, PeerSpeak, PeerSilent}
use Rattle.event_base.specs.declared.event.EventFault.{EventFault}
use Rattle.event_base.specs.World.{Speakers, World, at, is, joins, touches, live, running, offers, choice, exported, owes, tell, with_choice, choose_again, each_again}
use Rattle.event_base.specs.World.{emptied, with_cut, with_down, with_silent, received}
use Rattle.event_base.specs.Steps.{IsQuiet, before_all, delivered, fault_of, happens, if_there, opening, or_as_before, run, step, unless_down}
use Rattle.event_law.specs.Kept.{AreSpeakers, IsKept, IsStable, Keeps, among, given, last_of, nobody, nowhere}

-- ---- one direction, and two

same_way : (a b : ℕ) → joins a b a b ≡ true
same_way a b = or_left (eqb a a && eqb b b) (eqb a b && eqb b a) (and_from _ _ (eq-eqb a a refl) (eq-eqb b b refl))

is-both : (a b x y : ℕ) → is a b x y ≡ is b a y x
is-both a b x y = and_comm (eqb x a) (eqb y b)

joins-both : (a b x y : ℕ) → joins a b x y ≡ joins a b y x
joins-both a b x y = ap (λ z. z || is b a x y) (is-both a b x y) ∙ ap (λ z. is b a y x || z) (is-both b a x y) ∙ or_comm (is b a y x) (is a b y x)

is-parts : (a b x y : ℕ) → is a b x y ≡ true → (x ≡ a) × (y ≡ b)
is-parts a b x y h = let p = and_parts (eqb x a) (eqb y b) h in (eqb-true x a p.0, eqb-true y b p.1)

-- a direction is one of these, or not
one_way : (a b x y : ℕ) → ((x ≡ a) × (y ≡ b) × (is a b x y ≡ true)) ⊎ (is a b x y ≡ false)
one_way a b x y = elim (cases_Bool (is a b x y)) [
  | inl t ↦ (let p = is-parts a b x y t in inl (p.0, p.1, t))
  | inr f ↦ inr f
]

ends_of : (a b x y : ℕ) → joins a b x y ≡ true → ((x ≡ a) × (y ≡ b)) ⊎ ((x ≡ b) × (y ≡ a))
ends_of a b x y h = elim (or_cases (is a b x y) (is b a x y) h) [
  | inl e ↦ inl (is-parts a b x y e)
  | inr e ↦ inr (is-parts b a x y e)
]

module _ {R : Type 0} (net : Speakers R) (n : AreSpeakers net) where
  last-push : (xs : List (Option R)) (m h : Option R) → last_of net (xs ++ m ∷ []) h ≡ m
  last-push [] m h = refl
  last-push (x ∷ xs) m h = last-push xs m x

  pub fewer : (skip skip' : ℕ → Bool) (due due' : ℕ → ℕ → Bool) (w : World R) → Keeps net skip due w → ((r : ℕ) → skip' r ≡ false → skip r ≡ false)
      → ((a b : ℕ) → due' a b ≡ false → due a b ≡ false) → Keeps net skip' due' w
  fewer skip skip' due due' w k f g = record { both = k.both; last = k.last; told = λ a b u nd. k.told a b u (g a b nd); chosen = λ r s. k.chosen r (f r s); idle = k.idle; empty = k.empty }

  pub tell-keeps : (p : ℕ → ℕ → Bool) (skip : ℕ → Bool) (due : ℕ → ℕ → Bool) (w : World R) → Keeps net skip due w → Keeps net skip (λ a b. due a b && not (p a b)) (tell net p w)
  tell-keeps p skip due w k = record {
    both = k.both;
    last = λ a b u. elim (cases_Bool (p a b && owes net w a b)) [
      | inl e ↦ rw e (last-push (w.queue a b) (exported net w a b) (w.heard a b))
      | inr e ↦ rw e (k.last a b u)
    ];
    told = λ a b u nd. elim (cases_Bool (p a b && owes net w a b)) [
      | inl e ↦ cond-true _ (exported net w a b) (w.queued a b) e
      | inr e ↦ cond-false _ (exported net w a b) (w.queued a b) e ∙ elim (cases_Bool (p a b)) [
        | inl pd ↦ (
            let no : owes net w a b ≡ false = elim (and_cases (p a b) (owes net w a b) e) [ inl f ↦ absurd (both_ways _ f pd) | inr f ↦ f ] in
            let same : net.same (exported net w a b) (w.queued a b) ≡ true =
            elim (and_cases (live net w a b) (not (net.same (exported net w a b) (w.queued a b))) no)
            [ inl f ↦ absurd (both_ways _ f u) | inr f ↦ not-false _ f ] in
            sym (n.apart _ _ same))
        | inr pd ↦ k.told a b u (elim (and_cases (due a b) (not (p a b)) nd) [ inl f ↦ f | inr f ↦ absurd (both_ways _ pd (not-false _ f)) ])
      ]
    ];
    chosen = k.chosen;
    idle = k.idle;
    empty = λ a b u.
        let no : (p a b && owes net w a b) ≡ false = and_right _ _ (and_left _ _ u) in
        rw no (k.empty a b u);
  }

  pub with_choice-keeps : (r : ℕ) (skip : ℕ → Bool) (due : ℕ → ℕ → Bool) (w : World R) → Keeps net skip due w → running net w r ≡ true
      → Keeps net (λ x. skip x && not (at r x)) (λ a b. due a b || at r a) (with_choice net r w)
  with_choice-keeps r skip due w k runs = record {
    both = k.both;
    last = k.last;
    told = λ a b u nd.
        let q = or_parts (due a b) (at r a) nd in
        k.told a b u q.0 ∙ ap (λ z. cond (net.is_router a) (net.export a b z) (cond (w.silent b a) None (net.announced a))) (sym (cond-false (at r a) (choice net w r) (w.route a) q.1));
    chosen = λ x sk. elim (cases_Bool (at r x)) [
      | inl e ↦ cond-true (at r x) (choice net w r) (w.route x) e ∙ ap (choice net w) (sym (eqb-true x r e))
      | inr e ↦ cond-false (at r x) (choice net w r) (w.route x) e ∙ k.chosen x (elim (and_cases (skip x) (not (at r x)) sk) [ inl f ↦ f | inr f ↦ absurd (both_ways _ e (not-false _ f)) ])
    ];
    idle = λ x idle.
        let e : at r x ≡ false = ne_eqb x r (λ q. both_ways _ idle (ap (running net w) q ∙ runs)) in
        cond-false (at r x) (choice net w r) (w.route x) e ∙ k.idle x idle;
    empty = k.empty;
  }

  not_both : (a b : Bool) → a ≡ false → ((a || b) && not b) ≡ false
  not_both true b h = absurd (cc)
  not_both false true h = refl
  not_both false false h = refl

  -- who doesn't run has chosen
  pub rests-keeps : (r : ℕ) (skip : ℕ → Bool) (due : ℕ → ℕ → Bool) (w : World R) → Keeps net skip due w → running net w r ≡ false → Keeps net (λ x. skip x && not (at r x)) due w
  rests-keeps r skip due w k rests = record {
    both = k.both;
    last = k.last;
    told = k.told;
    idle = k.idle;
    empty = k.empty;
    chosen = λ x s. elim (and_cases (skip x) (not (at r x)) s) [
      | inl f ↦ k.chosen x f
      | inr f ↦ (
          let q : x ≡ r = eqb-true x r (not-false _ f) in
          let stops : running net w x ≡ false = ap (running net w) q ∙ rests in
          k.idle x stops ∙ sym (cond-false (running net w x) (net.choose x (offers net w x)) None stops))
    ];
  }

  choose_again-keeps : (r : ℕ) (skip : ℕ → Bool) (due : ℕ → ℕ → Bool) (w : World R) → Keeps net skip due w → Keeps net (λ x. skip x && not (at r x)) due (choose_again net r w)
  choose_again-keeps r skip due w k = elim (cases_Bool (running net w r)) [
    | inl runs ↦ subst (Keeps net (λ x. skip x && not (at r x)) due) (sym (cond-true (running net w r) (tell net (λ a b. at r a) (with_choice net r w)) w runs))
        (fewer _ _ _ _ _ (tell-keeps (λ a b. at r a) (λ x. skip x && not (at r x)) (λ a b. due a b || at r a) (with_choice net r w) (with_choice-keeps r skip due w k runs))
        (λ x s. s) (λ a b s. not_both (due a b) (at r a) s))
    | inr rests ↦ subst (Keeps net (λ x. skip x && not (at r x)) due) (sym (cond-false (running net w r) (tell net (λ a b. at r a) (with_choice net r w)) w rests))
        (rests-keeps r skip due w k rests)
  ]

  drop_both : (s a b : Bool) → (s && not (a || b)) ≡ false → ((s && not a) && not b) ≡ false
  drop_both true true b h = refl
  drop_both true false b h = h
  drop_both false a b h = refl

  each_again-keeps : (rs : List ℕ) (skip : ℕ → Bool) (due : ℕ → ℕ → Bool) (w : World R) → Keeps net skip due w → Keeps net (λ x. skip x && not (among rs x)) due (each_again net rs w)
  each_again-keeps [] skip due w k = fewer _ _ _ _ _ k (λ x s. elim (and_cases (skip x) true s) [ inl f ↦ f | inr f ↦ absurd (cc) ]) (λ a b s. s)
  each_again-keeps (r ∷ rs) skip due w k =
      fewer _ _ _ _ _ (each_again-keeps rs (λ x. skip x && not (at r x)) due (choose_again net r w) (choose_again-keeps r skip due w k))
      (λ x s. drop_both (skip x) (at r x) (among rs x) s) (λ a b s. s)

  same_choice : (v w : World R) (r : ℕ) → running net v r ≡ running net w r → ((u : ℕ) → offers net v r u ≡ offers net w r u) → choice net v r ≡ choice net w r
  same_choice v w r e h = ap (λ b. cond b (net.choose r (offers net v r)) None) e ∙ ap (λ (f : ℕ → Option R). cond (running net w r) (net.choose r f) None) (λ i u. h u i)

  received-keeps : (a b : ℕ) (m : Option R) (rest : List (Option R)) (w : World R) → IsKept net w → w.queue a b ≡ m ∷ rest → Keeps net (at b) (nowhere net) (received net a b m rest w)
  received-keeps a b m rest w k q =
      let up : live net w a b ≡ true = true_from_ne_false _ (λ f. let e : w.queue a b ≡ [] = (k.empty a b f).0 in cc) in
      record {
        both = k.both;
        last = λ x y u. elim (one_way a b x y) [
          | inl e ↦ (
              let new : last_of net rest m ≡ w.queued a b = ap (λ ms. last_of net ms (w.heard a b)) (sym q) ∙ k.last a b up in
              let here : w.queued a b ≡ w.queued x y = ap (w.queued a) (sym e.1) ∙ ap (λ z. w.queued z y) (sym e.0) in
              rw e.2 (new ∙ here))
          | inr f ↦ rw f (k.last x y u)
        ];
        told = k.told;
        chosen = λ r s. k.chosen r refl ∙ same_choice w (received net a b m rest w) r refl (λ u. elim (one_way a b u r) [
          | inl e ↦ absurd (both_ways (at b r) s (eq-eqb r b e.1))
          | inr f ↦ ap (λ z. cond (live net w u r) z None) (sym (cond-false (is a b u r) m (w.heard u r) f))
        ]);
        idle = k.idle;
        empty = λ x y u. elim (one_way a b x y) [
          | inl e ↦ absurd (both_ways _ u (ap (λ z. live net w z y) e.0 ∙ ap (live net w a) e.1 ∙ up))
          | inr f ↦ rw f (k.empty x y u)
        ];
      }

  -- ---- directions go, and come

  pub lost-keeps : (w v : World R) (p : ℕ → ℕ → Bool) (skip : ℕ → Bool) → IsKept net w → ((x y : ℕ) → v.cut x y ≡ v.cut y x)
      → ((x y : ℕ) → v.queue x y ≡ w.queue x y) → ((x y : ℕ) → v.heard x y ≡ w.heard x y) → ((x y : ℕ) → v.queued x y ≡ w.queued x y) →
      ((x y : ℕ) → p x y ≡ true → live net v x y ≡ false) → ((x y : ℕ) → p x y ≡ false → live net v x y ≡ live net w x y) → ((x y : ℕ) → p x y ≡ false → exported net w x y ≡ exported net v x y) →
      ((x y : ℕ) → p x y ≡ true → live net w x y ≡ true → skip y ≡ true)
      → ((r : ℕ) → skip r ≡ false → (v.route r ≡ w.route r) × (running net w r ≡ running net v r))
      → ((r : ℕ) → running net v r ≡ false → v.route r ≡ None) →
      Keeps net skip (nowhere net) (emptied net p v)
  lost-keeps w v p skip k both qs hs ss gone same ex near route idle =
      let off : (x y : ℕ) → live net v x y ≡ true → p x y ≡ false = λ x y u. false_from_ne_true _ (λ t. both_ways _ (gone x y t) u) in
      record {
        both = both;
        last = λ x y u. let f = off x y u in rw (f, qs x y, hs x y, ss x y) (k.last x y (sym (same x y f) ∙ u));
        told = λ x y u nd. let f = off x y u in cond-false (p x y) None (v.queued x y) f ∙ ss x y ∙ k.told x y (sym (same x y f) ∙ u) refl ∙ ex x y f;
        chosen = λ r s. (route r s).0 ∙ k.chosen r refl ∙ same_choice w (emptied net p v) r (route r s).1 (λ u. elim (cases_Bool (p u r)) [
          | inl t ↦ (
              let f : live net w u r ≡ false = false_from_ne_true _ (λ l. both_ways _ s (near u r t l)) in
              cond-false (live net w u r) (w.heard u r) None f ∙ sym (cond-false (live net v u r) (cond (p u r) None (v.heard u r)) None (gone u r t)))
          | inr f ↦ ap (λ z. cond z (w.heard u r) None) (sym (same u r f)) ∙ ap (λ z. cond (live net v u r) z None) (sym (cond-false (p u r) None (v.heard u r) f ∙ hs u r))
        ]);
        idle = idle;
        empty = λ x y u. elim (cases_Bool (p x y)) [
          | inl t ↦ rw t (refl, refl, refl)
          | inr f ↦ (let z = k.empty x y (sym (same x y f) ∙ u) in rw f (qs x y ∙ z.0, hs x y ∙ z.1, ss x y ∙ z.2))
        ];
      }

  alike : (a b : Bool) → cond {A = Option R} a None None ≡ cond b None None
  alike true true = refl
  alike true false = refl
  alike false true = refl
  alike false false = refl

  gained-keeps : (w v : World R) (p : ℕ → ℕ → Bool) (skip : ℕ → Bool) → IsKept net w → ((x y : ℕ) → v.cut x y ≡ v.cut y x)
      → ((x y : ℕ) → v.queue x y ≡ w.queue x y) → ((x y : ℕ) → v.heard x y ≡ w.heard x y) → ((x y : ℕ) → v.queued x y ≡ w.queued x y) →
      ((x y : ℕ) → p x y ≡ true → live net w x y ≡ false) → ((x y : ℕ) → p x y ≡ false → live net v x y ≡ live net w x y) → ((x y : ℕ) → p x y ≡ false → exported net w x y ≡ exported net v x y) →
      ((r : ℕ) → skip r ≡ false → (v.route r ≡ w.route r) × (running net w r ≡ running net v r)) → ((r : ℕ) → running net v r ≡ false → v.route r ≡ None) →
      Keeps net skip p v
  gained-keeps w v p skip k both qs hs ss was same ex route idle =
      record {
        both = both;
        last = λ x y u. elim (cases_Bool (p x y)) [
          | inl t ↦ (let z = k.empty x y (was x y t) in rw (qs x y, hs x y, ss x y, z.0, z.1, z.2) refl)
          | inr f ↦ rw (qs x y, hs x y, ss x y) (k.last x y (sym (same x y f) ∙ u))
        ];
        told = λ x y u nd. ss x y ∙ k.told x y (sym (same x y nd) ∙ u) refl ∙ ex x y nd;
        chosen = λ r s. (route r s).0 ∙ k.chosen r refl ∙ same_choice w v r (route r s).1 (λ u. elim (cases_Bool (p u r)) [
          | inl t ↦ (let z = k.empty u r (was u r t) in
              ap (λ x. cond (live net w u r) x None) z.1 ∙ alike (live net w u r) (live net v u r) ∙ ap (λ x. cond (live net v u r) x None) (sym (hs u r ∙ z.1)))
          | inr f ↦ ap (λ z. cond z (w.heard u r) None) (sym (same u r f)) ∙ ap (λ z. cond (live net v u r) z None) (sym (hs u r))
        ]);
        idle = idle;
        empty = λ x y u. elim (cases_Bool (p x y)) [
          | inl t ↦ (let z = k.empty x y (was x y t) in (qs x y ∙ z.0, hs x y ∙ z.1, ss x y ∙ z.2))
          | inr f ↦ (let z = k.empty x y (sym (same x y f) ∙ u) in (qs x y ∙ z.0, hs x y ∙ z.1, ss x y ∙ z.2))
        ];
      }

  -- ---- the events

  pub cut_both : (a b : ℕ) (v : Bool) (w : World R) → IsKept net w → (x y : ℕ) → cond (joins a b x y) v (w.cut x y) ≡ cond (joins a b y x) v (w.cut y x)
  cut_both a b v w k x y = ap (λ z. cond z v (w.cut x y)) (joins-both a b x y) ∙ ap (cond (joins a b y x) v) (k.both x y)

  cut_off : (a b x y : ℕ) (w : World R) → joins a b x y ≡ true → live net (with_cut net a b true w) x y ≡ false
  cut_off a b x y w t = and_right (net.linked x y) _ (and_left (not (cond (joins a b x y) true (w.cut x y))) _ (ap not (cond-true (joins a b x y) true (w.cut x y) t)))

  pub live_same_cut : (a b x y : ℕ) (v : Bool) (w : World R) → joins a b x y ≡ false → live net (with_cut net a b v w) x y ≡ live net w x y
  live_same_cut a b x y v w f = ap (λ z. net.linked x y && (not z && (not (w.down x) && not (w.down y)))) (cond-false (joins a b x y) v (w.cut x y) f)

  two_ends : (a b : Bool) → (((a || b) && not a) && not b) ≡ false
  two_ends true b = refl
  two_ends false true = refl
  two_ends false false = refl

  pub none_left : (a : Bool) → (a && not a) ≡ false
  none_left true = refl
  none_left false = refl

  delivered-keeps : (a b : ℕ) (ms : List (Option R)) (w : World R) → IsKept net w → w.queue a b ≡ ms → IsKept net (delivered net a b ms w)
  delivered-keeps a b [] w k q = k
  delivered-keeps a b (m ∷ rest) w k q =
      fewer _ _ _ _ _ (choose_again-keeps b (at b) (nowhere net) (received net a b m rest w) (received-keeps a b m rest w k q)) (λ r s. none_left (at b r)) (λ x y s. s)

  link_down-keeps : (a b : ℕ) (w : World R) → IsKept net w → IsKept net (step net (LinkDown a b) w)
  link_down-keeps a b w k =
      fewer _ _ _ _ _
      (choose_again-keeps b _ _ _ (choose_again-keeps a (λ x. at a x || at b x) (nowhere net) _
      (lost-keeps w (with_cut net a b true w) (joins a b) (λ x. at a x || at b x) k (cut_both a b true w k) (λ x y. refl) (λ x y. refl) (λ x y. refl)
      (λ x y t. cut_off a b x y w t) (λ x y f. live_same_cut a b x y true w f) (λ x y f. refl)
      (λ x y t l. elim (ends_of a b x y t) [
        | inl q ↦ or_right (at a y) (at b y) (eq-eqb y b q.1)
        | inr q ↦ or_left (at a y) (at b y) (eq-eqb y a q.1)
      ])
      (λ r s. (refl, refl)) k.idle)))
      (λ r s. two_ends (at a r) (at b r)) (λ x y s. s)

  link_up-keeps : (a b : ℕ) (w : World R) → IsKept net w → w.cut a b ≡ true → IsKept net (step net (LinkUp a b) w)
  link_up-keeps a b w k h =
      let cut : (x y : ℕ) → joins a b x y ≡ true → w.cut x y ≡ true = λ x y t. elim (ends_of a b x y t) [
        | inl q ↦ ap (λ z. w.cut z y) q.0 ∙ ap (w.cut a) q.1 ∙ h
        | inr q ↦ ap (λ z. w.cut z y) q.0 ∙ ap (w.cut b) q.1 ∙ k.both b a ∙ h
      ] in
      let was : (x y : ℕ) → joins a b x y ≡ true → live net w x y ≡ false = λ x y t. and_right (net.linked x y) _ (and_left (not (w.cut x y)) _ (ap not (cut x y t))) in
      fewer _ _ _ _ _
      (tell-keeps (joins a b) (nobody net) (joins a b) (with_cut net a b false w)
      (gained-keeps w (with_cut net a b false w) (joins a b) (nobody net) k (cut_both a b false w k) (λ x y. refl) (λ x y. refl) (λ x y. refl) was
      (λ x y f. live_same_cut a b x y false w f) (λ x y f. refl) (λ r s. (refl, refl)) k.idle))
      (λ r s. s) (λ x y s. none_left (joins a b x y))

  -- ---- a router goes down, and comes up

  module _ (r : ℕ) (v : Bool) (w : World R) where
    pub live_same_down : (x y : ℕ) → touches r x y ≡ false → live net (with_down net r v w) x y ≡ live net w x y
    live_same_down x y f =
        let q : (eqb x r ≡ false) × (eqb y r ≡ false) = or_parts _ _ f in
        ap (λ z. net.linked x y && (not (w.cut x y) && (not z && not (cond (at r y) v (w.down y))))) (cond-false (eqb x r) v (w.down x) q.0)
        ∙ ap (λ z. net.linked x y && (not (w.cut x y) && (not (w.down x) && not z))) (cond-false (eqb y r) v (w.down y) q.1)

    pub exported_same : (x y : ℕ) → touches r x y ≡ false → exported net w x y ≡ exported net (with_down net r v w) x y
    exported_same x y f =
        let q : (eqb x r ≡ false) × (eqb y r ≡ false) = or_parts _ _ f in
        ap (λ z. cond (net.is_router x) (net.export x y z) (cond (w.silent y x) None (net.announced x))) (sym (cond-false (eqb x r) None (w.route x) q.0))

    pub route_same : (x : ℕ) → at r x ≡ false → (cond (at r x) None (w.route x) ≡ w.route x) × (running net w x ≡ running net (with_down net r v w) x)
    route_same x f = (cond-false (at r x) None (w.route x) f, ap (λ z. net.is_router x && not z) (sym (cond-false (at r x) v (w.down x) f)))

    pub idle_same : IsKept net w → (x : ℕ) → running net (with_down net r v w) x ≡ false → cond (at r x) None (w.route x) ≡ None
    idle_same k x h = elim (cases_Bool (at r x)) [
      | inl t ↦ cond-true (at r x) None (w.route x) t
      | inr f ↦ (route_same x f).0 ∙ k.idle x ((route_same x f).1 ∙ h)
    ]

  dead : (r x y : ℕ) (linked cut : Bool) (down : ℕ → Bool) → down r ≡ true → touches r x y ≡ true → (linked && (not cut && (not (down x) && not (down y)))) ≡ false
  dead r x y linked cut down h t = and_right linked _ (and_right (not cut) _ (elim (or_cases _ _ t) [
    | inl e ↦ and_left _ _ (ap not (ap down (eqb-true x r e) ∙ h))
    | inr e ↦ and_right (not (down x)) _ (ap not (ap down (eqb-true y r e) ∙ h))
  ]))

  pub put_here : (f : ℕ → Bool) (r : ℕ) (v : Bool) → cond (at r r) v (f r) ≡ v
  put_here f r v = cond-true (at r r) v (f r) (eq-eqb r r refl)

  router_down-keeps : (r : ℕ) (w : World R) → IsKept net w → IsKept net (step net (RouterDown r) w)
  router_down-keeps r w k =
      let v : World R = with_down net r true w in
      let skip : ℕ → Bool = λ x. at r x || among (net.neighbours r) x in
      let stops : running net v r ≡ false = and_right (net.is_router r) _ (ap not (put_here w.down r true)) in
      fewer _ _ _ _ _
      (each_again-keeps (net.neighbours r) (λ x. skip x && not (at r x)) (nowhere net) (emptied net (touches r) v)
      (rests-keeps r skip (nowhere net) (emptied net (touches r) v)
      (lost-keeps w v (touches r) skip k k.both (λ x y. refl) (λ x y. refl) (λ x y. refl)
      (λ x y t. dead r x y (net.linked x y) (w.cut x y) (λ z. cond (at r z) true (w.down z)) (put_here w.down r true) t) (live_same_down r true w) (exported_same r true w)
      (λ x y t l. elim (or_cases _ _ t) [
        | inl e ↦ or_right (at r y) (among (net.neighbours r) y) (n.near r y (ap (λ z. net.linked z y) (sym (eqb-true x r e)) ∙ (and_parts (net.linked x y) _ l).0))
        | inr e ↦ or_left (at r y) (among (net.neighbours r) y) e
      ])
      (λ x s. route_same r true w x (or_parts (at r x) (among (net.neighbours r) x) s).0) (idle_same r true w k))
      stops))
      (λ x s. two_ends (at r x) (among (net.neighbours r) x)) (λ x y s. s)

  router_up-keeps : (r : ℕ) (w : World R) → IsKept net w → w.down r ≡ true → IsKept net (step net (RouterUp r) w)
  router_up-keeps r w k h =
      let v : World R = with_down net r false w in
      fewer _ _ _ _ _
      (tell-keeps (touches r) _ (touches r) (choose_again net r v)
      (choose_again-keeps r (at r) (touches r) v
      (gained-keeps w v (touches r) (at r) k k.both (λ x y. refl) (λ x y. refl) (λ x y. refl)
      (λ x y t. dead r x y (net.linked x y) (w.cut x y) w.down h t) (live_same_down r false w) (exported_same r false w) (λ x s. route_same r false w x s) (idle_same r false w k))))
      (λ x s. none_left (at r x)) (λ x y s. none_left (touches r x y))

  silent-keeps : (r p : ℕ) (v : Bool) (w : World R) → IsKept net w → IsKept net (tell net (is p r) (with_silent net r p v w))
  silent-keeps r p v w k =
      let same : (x y : ℕ) → is p r x y ≡ false → exported net w x y ≡ exported net (with_silent net r p v w) x y = λ x y f.
      let g : is r p y x ≡ false = sym (is-both p r x y) ∙ f in
      ap (λ z. cond (net.is_router x) (net.export x y (w.route x)) (cond z None (net.announced x))) (sym (cond-false (is r p y x) v (w.silent y x) g)) in
      fewer _ _ _ _ _
      (tell-keeps (is p r) (nobody net) (is p r) (with_silent net r p v w)
      (record { both = k.both; last = k.last; told = λ x y u f. k.told x y u refl ∙ same x y f; chosen = k.chosen; idle = k.idle; empty = k.empty }))
      (λ x s. s) (λ x y s. none_left (is p r x y))

  -- ---- what isn't refused

  is_down : (there down : Bool) → if_there there (unless_down down) ≡ None → down ≡ true
  is_down true true h = refl
  is_down true false h = absurd (cc)
  is_down false down h = absurd (cc)

  pub step-keeps : (e : Event) (w : World R) → IsKept net w → fault_of net e w ≡ None → IsKept net (step net e w)
  step-keeps (Deliver a b) w k m = delivered-keeps a b (w.queue a b) w k refl
  step-keeps (LinkDown a b) w k m = link_down-keeps a b w k
  step-keeps (LinkUp a b) w k m = link_up-keeps a b w k (is_down (net.linked a b) (w.cut a b) m)
  step-keeps (RouterDown r) w k m = router_down-keeps r w k
  step-keeps (RouterUp r) w k m = router_up-keeps r w k (is_down (net.is_router r) (w.down r) m)
  step-keeps (PeerSpeak r p) w k m = silent-keeps r p false w k
  step-keeps (PeerSilent r p) w k m = silent-keeps r p true w k

  pub happens-keeps : (e : Event) (w : World R) → IsKept net w → IsKept net (happens net e w)
  happens-keeps e w k = by (fault_of net e w) refl
    where
      by : (o : Option EventFault) → fault_of net e w ≡ o → IsKept net (or_as_before o (step net e w) w)
      by None m = step-keeps e w k m
      by (Some f) m = k

  pub run-keeps : (es : List Event) (w : World R) → IsKept net w → IsKept net (run net es w)
  run-keeps [] w k = k
  run-keeps (e ∷ es) w k = run-keeps es (happens net e w) (happens-keeps e w k)

  pub quiet_stable : (w : World R) → IsKept net w → IsQuiet w → IsStable net w
  quiet_stable w k q r run =
      let same : (u : ℕ) → offers net w r u ≡ given net w r u = λ u. elim (cases_Bool (live net w u r)) [
        | inl l ↦ ap (λ x. cond (live net w u r) x None) (sym (ap (λ ms. last_of net ms (w.heard u r)) (q u r)) ∙ k.last u r l ∙ k.told u r l refl)
        | inr f ↦ cond-false (live net w u r) (w.heard u r) None f ∙ sym (cond-false (live net w u r) (exported net w u r) None f)
      ] in
      k.chosen r refl ∙ cond-true (running net w r) (net.choose r (offers net w r)) None run ∙ ap (net.choose r) (λ i u. same u i)

  -- ---- the opening

  same_none : (b : Bool) → cond {A = Option R} b None None ≡ None
  same_none true = refl
  same_none false = refl

  pub opening-keeps : IsKept net (opening net)
  opening-keeps =
      let w : World R = before_all net in
      let nothing : (r u : ℕ) → offers net w r u ≡ None = λ r u. same_none (live net w u r) in
      fewer _ _ _ _ _
      (tell-keeps (λ a b. true) (nobody net) (λ a b. true) w (record {
        both = λ a b. refl;
        last = λ a b u. refl;
        told = λ a b u f. absurd (both_ways true f refl);
        chosen =
            λ r s. sym (ap (λ b. cond b (net.choose r (offers net w r)) None) (and-true (net.is_router r))
            ∙ ap (λ (f : ℕ → Option R). cond (net.is_router r) (net.choose r f) None) (λ i u. nothing r u i));
        idle = λ r h. cond-false (net.is_router r) (net.choose r (λ u. None)) None (sym (and-true (net.is_router r)) ∙ h);
        empty = λ a b u. (refl, refl, refl);
      }))
      (λ r s. s) (λ a b s. refl)
