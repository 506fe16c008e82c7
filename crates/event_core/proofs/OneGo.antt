-- Each event as one settling.
use Rattle.std.proofs.Common.{◌≡◌, ◌≢◌, ℕ, Bool, true, false, not, ◌&&◌, ◌||◌, eqb, List, [], ◌∷◌, ◌++◌, Option, None, refl, sym, ap, ◌∙◌, inl, inr}
use Rattle.std.specs.Prelude.{if◌then◌else◌}
use Rattle.std.proofs.lemmas.Bool.{and_left, and_parts, cases_Bool, cond-false, eqb-true, ne_eqb}
use Rattle.std.proofs.Math.Bool.{or-false, and-false}
use Rattle.event_base.specs.World.{Speakers, World, choice, choose_again, emptied, exported, is, joins, live, offers, owes, received, running, tell, touches, with_cut, with_down}
use Rattle.event_base.specs.Steps.{delivered}
use Rattle.event_law.specs.Dead.{AreDead}
use Rattle.event_law.specs.Kept.{among, nowhere}
use Rattle.event_law.specs.Together.{at_once, with_choices}
use Rattle.event_law.proofs.Together.{order_is_free}
use Rattle.event_core.specs.AtOnce.{EventsSettleAtOnce, settled, up_among, with_heard, with_queue}

module _ {R : Type 0} (net : Speakers R) where
  -- at once, and nothing further
  pub settled_alone : (p : ℕ → Bool) (w : World R) → at_once net p w ≡ settled net p (nowhere net) w
  settled_alone p w = ap (λ (q : ℕ → ℕ → Bool). tell net q (with_choices net p w)) (λ i a b. sym (or-false (p a)) i)

  -- ---- what is forgotten on dead sessions might as well be forgotten in the end

  module _ (j : ℕ → ℕ → Bool) (v : World R) (dead : AreDead net j v) (p : ℕ → Bool) where
    abbrev gone : World R
    gone = emptied net j v

    same_offer : (r u : ℕ) → offers net gone r u ≡ offers net v r u
    same_offer r u = elim (cases_Bool (j u r)) [
      | inl t ↦ (let off = dead u r t in cond-false (live net v u r) (if j u r then None else v.heard u r) None off ∙ sym (cond-false (live net v u r) (v.heard u r) None off))
      | inr f ↦ ap (λ m. if live net v u r then m else None) (cond-false (j u r) None (v.heard u r) f)
    ]

    same_choice : (r : ℕ) → choice net gone r ≡ choice net v r
    same_choice r = ap (λ (f : ℕ → Option R). if running net v r then net.choose r f else None) (λ i u. same_offer r u i)

    same_route : (x : ℕ) → (with_choices net p gone).route x ≡ (with_choices net p v).route x
    same_route x = ap (λ h. if p x then h else v.route x) (same_choice x)

    abbrev out : ℕ → ℕ → Option R → Option R
    out a b h = if net.is_router a then net.export a b h else (if v.silent b a then None else net.announced a)

    -- what waits and what was queued, by what is forgotten, who tells, what is live, the route, what was queued and what waits
    abbrev waits : Bool → Bool → Bool → Option R → Option R → List (Option R) → List (Option R)
    waits c l e o s q = if c && (l && not e) then q ++ o ∷ [] else q

    dead_waits : (g c l e e' : Bool) (o o' s : Option R) (q : List (Option R)) → (g ≡ true → l ≡ false) → (g ≡ false → e ≡ e') → o ≡ o'
        → waits c l e o s (if g then [] else q) ≡ (if g then [] else waits c l e' o' s q)
    dead_waits true c l e e' o o' s q h k same = (let off = h refl in rw off (nothing c))
      where
        nothing : (c : Bool) → (if c && false then [] ++ o ∷ [] else []) ≡ []
        nothing true = refl
        nothing false = refl
    dead_waits false c l e e' o o' s q h k same = rw (k refl, same) refl

    abbrev notes : Bool → Bool → Bool → Option R → Option R → Option R
    notes c l e o s = if c && (l && not e) then o else s

    dead_notes : (g c l e e' : Bool) (o o' s : Option R) → (g ≡ true → l ≡ false) → (g ≡ false → e ≡ e') → o ≡ o' → notes c l e o (if g then None else s) ≡ (if g then None else notes c l e' o' s)
    dead_notes true c l e e' o o' s h k same = (let off = h refl in rw off (nothing c))
      where
        nothing : (c : Bool) → (if c && false then o else None) ≡ None
        nothing true = refl
        nothing false = refl
    dead_notes false c l e e' o o' s h k same = rw (k refl, same) refl

    same_out : (a b : ℕ) → out a b ((with_choices net p gone).route a) ≡ out a b ((with_choices net p v).route a)
    same_out a b = ap (out a b) (same_route a)

    same_test : (a b : ℕ) → j a b ≡ false
        → net.same (out a b ((with_choices net p gone).route a)) (if j a b then None else v.queued a b)
        ≡ net.same (out a b ((with_choices net p v).route a)) (v.queued a b)
    same_test a b f = ap (λ s. net.same (out a b ((with_choices net p gone).route a)) s) (cond-false (j a b) None (v.queued a b) f) ∙ ap (λ o. net.same o (v.queued a b)) (same_out a b)

    forgotten_last : at_once net p gone ≡ emptied net j (at_once net p v)
    forgotten_last = λ i. record {
      down = v.down;
      cut = v.cut;
      silent = v.silent;
      queue =
          λ a b. dead_waits (j a b) (p a) (live net v a b)
          (net.same (out a b ((with_choices net p gone).route a)) (if j a b then None else v.queued a b))
          (net.same (out a b ((with_choices net p v).route a)) (v.queued a b))
          (out a b ((with_choices net p gone).route a)) (out a b ((with_choices net p v).route a)) (v.queued a b) (v.queue a b) (dead a b) (same_test a b) (same_out a b) i;
      heard = λ a b. if j a b then None else v.heard a b;
      queued =
          λ a b. dead_notes (j a b) (p a) (live net v a b)
          (net.same (out a b ((with_choices net p gone).route a)) (if j a b then None else v.queued a b))
          (net.same (out a b ((with_choices net p v).route a)) (v.queued a b))
          (out a b ((with_choices net p gone).route a)) (out a b ((with_choices net p v).route a)) (v.queued a b) (dead a b) (same_test a b) (same_out a b) i;
      route = λ x. same_route x i;
    }

  -- ---- who is told twice is told once

  module _ (own : (m : Option R) → net.same m m ≡ true) (p q : ℕ → ℕ → Bool) (w : World R) where
    once : (c d l e : Bool) (o s : Option R) (ms : List (Option R)) → net.same o s ≡ e
        → (if d
        && (l && not (net.same o (if c && (l && not e) then o else s))) then (if c && (l && not e) then ms ++ o ∷ [] else ms) ++ o
        ∷ [] else (if c && (l && not e) then ms ++ o ∷ [] else ms)) ≡ (if (c || d) && (l && not e) then ms ++ o ∷ [] else ms)
    once true true true false o s ms h = rw (own o) refl
    once true false true false o s ms h = refl
    once c d false e o s ms h = rw (and-false c) (rw (and-false d) (rw (and-false (c || d)) refl))
    once c d true true o s ms h = rw (and-false c) (rw h (rw (and-false d) (rw (and-false (c || d)) refl)))
    once false d true false o s ms h = rw h refl

    noted_once : (c d l e : Bool) (o s : Option R) → net.same o s ≡ e
        → (if d && (l && not (net.same o (if c && (l && not e) then o else s))) then o else (if c && (l && not e) then o else s)) ≡ (if (c || d) && (l && not e) then o else s)
    noted_once true true true false o s h = rw (own o) refl
    noted_once true false true false o s h = refl
    noted_once c d false e o s h = rw (and-false c) (rw (and-false d) (rw (and-false (c || d)) refl))
    noted_once c d true true o s h = rw (and-false c) (rw h (rw (and-false d) (rw (and-false (c || d)) refl)))
    noted_once false d true false o s h = rw h refl

    pub told_once : tell net q (tell net p w) ≡ tell net (λ a b. p a b || q a b) w
    told_once = λ i. record {
      down = w.down;
      cut = w.cut;
      silent = w.silent;
      queue = λ a b. once (p a b) (q a b) (live net w a b) (net.same (exported net w a b) (w.queued a b)) (exported net w a b) (w.queued a b) (w.queue a b) refl i;
      heard = w.heard;
      queued = λ a b. noted_once (p a b) (q a b) (live net w a b) (net.same (exported net w a b) (w.queued a b)) (exported net w a b) (w.queued a b) refl i;
      route = w.route;
    }

  -- ---- the events

  apart_list : (a b : ℕ) → a ≢ b → (among (b ∷ []) a ≡ false)
  apart_list a b ne = ap (λ z. z || false) (ne_eqb a b ne)

  link_down : (a b : ℕ) (w : World R) → a ≢ b → AreDead net (joins a b) (with_cut net a b true w)
      → choose_again net b (choose_again net a (emptied net (joins a b) (with_cut net a b true w)))
      ≡ emptied net (joins a b) (settled net (up_among net (a ∷ b ∷ []) (with_cut net a b true w)) (nowhere net) (with_cut net a b true w))
  link_down a b w ne dead =
      let v = with_cut net a b true w in
      order_is_free net (a ∷ b ∷ []) (emptied net (joins a b) v) (apart_list a b ne, (refl, tt))
      ∙ forgotten_last (joins a b) v dead (up_among net (a ∷ b ∷ []) v)
      ∙ ap (emptied net (joins a b)) (settled_alone (up_among net (a ∷ b ∷ []) v) v)

  -- a message that is delivered might as well leave its queue in the end: its sender doesn't choose again
  module _ (a b : ℕ) (m : Option R) (rest : List (Option R)) (w : World R) (ne : a ≢ b) where
    abbrev before : World R
    before = with_heard net a b m w

    abbrev p : ℕ → Bool
    p = up_among net (b ∷ []) before

    quiet_sender : (x y : ℕ) → is a b x y ≡ true → (p x && owes net (with_choices net p before) x y) ≡ false
    quiet_sender x y t =
        let same : x ≡ a = eqb-true x a (and_parts (eqb x a) (eqb y b) t).0 in
        let off : among (b ∷ []) x ≡ false = ap (among (b ∷ [])) same ∙ apart_list a b ne in
        and_left (p x) (owes net (with_choices net p before) x y) (and_left (among (b ∷ []) x) (running net before x) off)

    first_gone : (g c : Bool) (o : Option R) (ms : List (Option R)) → (g ≡ true → c ≡ false)
        → (if c then (if g then rest else ms) ++ o ∷ [] else (if g then rest else ms)) ≡ (if g then rest else (if c then ms ++ o ∷ [] else ms))
    first_gone true c o ms h = rw (h refl) refl
    first_gone false c o ms h = refl

    left_last : at_once net p (received net a b m rest w) ≡ with_queue net a b rest (at_once net p before)
    left_last = λ i. record {
      down = w.down;
      cut = w.cut;
      silent = w.silent;
      queue = λ x y. first_gone (is a b x y) (p x && owes net (with_choices net p before) x y) (exported net (with_choices net p before) x y) (w.queue x y) (quiet_sender x y) i;
      heard = before.heard;
      queued = (at_once net p before).queued;
      route = (with_choices net p before).route;
    }

  pub events_settle_at_once : EventsSettleAtOnce net
  events_settle_at_once = record {
    deliver = λ a b m rest w ne q.
        ap (λ ms. delivered net a b ms w) q
        ∙ order_is_free net (b ∷ []) (received net a b m rest w) (refl, tt)
        ∙ left_last a b m rest w ne
        ∙ ap (with_queue net a b rest) (settled_alone (up_among net (b ∷ []) (with_heard net a b m w)) (with_heard net a b m w));
    link_down = link_down;
    router_down = λ r w distinct dead.
        let v = with_down net r true w in
        order_is_free net (net.neighbours r) (emptied net (touches r) v) distinct
        ∙ forgotten_last (touches r) v dead (up_among net (net.neighbours r) v)
        ∙ ap (emptied net (touches r)) (settled_alone (up_among net (net.neighbours r) v) v);
    router_up = λ r w own.
        let v = with_down net r false w in
        ap (tell net (touches r)) (order_is_free net (r ∷ []) v (refl, tt)) ∙ told_once own (λ a b. up_among net (r ∷ []) v a) (touches r) (with_choices net (up_among net (r ∷ []) v) v);
  }
