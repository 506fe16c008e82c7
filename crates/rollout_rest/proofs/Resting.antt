-- Where no message waits each route is of a kind that the lines keep, whatever has happened before.
use Rattle.std.proofs.Common.{◌≡◌, ℕ, zero, suc, ◌<◌, true, List, Option, Some, None, refl, sym, ap, ◌∙◌, subst, inl, inr, arith}
use Rattle.std.specs.Prelude.{if◌then◌else◌}
use Rattle.std.proofs.lemmas.Bool.{and_parts, cases_Bool, cond-true, cond-false, eqb-true, eq-eqb}
use Rattle.list_law.proofs.Options.{cases_Option, none_or_some}
use Rattle.event_base.specs.Steps.{IsQuiet}
use Rattle.event_base.specs.World.{Speakers, World, at, exported, live, offers, running}
use Rattle.event_law.specs.Kept.{IsKept, last_of}
use Rattle.event_law.specs.Kinds.{AreKinds, Each, Held, IsKind}
use Rattle.event_law.proofs.KindsKept.{held-cond, held-none}
use Rattle.rest_law.specs.Orders.{AreChoosers, Order, Takes}

module _ {R : Type 0} (net : Speakers R) (takes : Takes R) (no_later : Order R) (size : R → ℕ) (choosers : AreChoosers net takes no_later size)
    (hold : ℕ → R → Type 0) (on : ℕ → ℕ → R → Type 0) (kind : IsKind net hold on) (w : World R) (kept : IsKept net w) (quiet : IsQuiet w) where
  -- what was heard is what is sent
  heard_is : (a b : ℕ) → live net w a b ≡ true → w.heard a b ≡ exported net w a b
  heard_is a b up = ap (λ (q : List (Option R)). last_of net q (w.heard a b)) (sym (quiet a b)) ∙ kept.last a b up ∙ kept.told a b up refl

  -- routes smaller than n are of the kind
  abbrev Below : ℕ → Type 0
  Below n = (r : ℕ) (h : R) → size h < n → w.route r ≡ Some h → hold r h

  -- what was heard of a neighbour of whose route h is made
  heard_held : (n r u : ℕ) (h : R) → Below n → size h < suc n → takes r u (offers net w r u) ≡ Some h → live net w u r ≡ true → Held (on u r) (offers net w r u)
  heard_held n r u h before low t up m e =
      let is : offers net w r u ≡ exported net w u r = cond-true (live net w u r) (w.heard u r) None up ∙ heard_is u r up in
      held-cond (on u r) (net.is_router u) (net.export u r (w.route u)) (if w.silent r u then None else net.announced u)
      (λ router. kind.exports u r (w.route u) router (λ y ey.
      let sent : offers net w r u ≡ net.export u r (Some y) =
      is ∙ cond-true (net.is_router u) (net.export u r (w.route u)) (if w.silent r u then None else net.announced u) router ∙ ap (net.export u r) ey in
      let short = choosers.longer r u y h (ap (takes r u) (sym sent) ∙ t) in
      before u y (omega (arith, short, low)) ey))
      (λ off. held-cond (on u r) (w.silent r u) None (net.announced u) (λ mute. held-none (on u r)) (λ speaks. kind.announces u r off)) m (sym is ∙ e)

  -- a choice over what that neighbour says alone
  abbrev only : ℕ → ℕ → ℕ → Option R
  only r u z = if at u z then offers net w r z else None

  only_held : (r u : ℕ) → Held (on u r) (offers net w r u) → (z : ℕ) → Held (on z r) (only r u z)
  only_held r u held z = elim (cases_Bool (at u z)) [
    | inl here ↦ subst (Held (on z r)) (sym (cond-true (at u z) (offers net w r z) None here)) (subst (λ (y : ℕ). Held (on y r) (offers net w r y)) (sym (eqb-true z u here)) held)
    | inr other ↦ subst (Held (on z r)) (sym (cond-false (at u z) (offers net w r z) None other)) (held-none (on z r))
  ]

  chosen_alone : (r u : ℕ) (h : R) → net.choose r (λ z. None) ≡ None → net.linked u r ≡ true → takes r u (offers net w r u) ≡ Some h → net.choose r (only r u) ≡ Some h
  chosen_alone r u h none link t =
      let mine : takes r u (only r u u) ≡ Some h = ap (takes r u) (cond-true (at u u) (offers net w r u) None (eq-eqb u u refl)) ∙ t in
      let x = choosers.first r u (only r u) h none link mine in
      elim (cases_Bool (at u x.0.0)) [
        | inl here ↦ (
            let by : takes r u (only r u u) ≡ Some x.0.1 = subst (λ (y : ℕ). takes r y (only r u y) ≡ Some x.0.1) (eqb-true x.0.0 u here) x.2 in
            x.1 ∙ sym by ∙ mine)
        | inr other ↦ (
            let nothing : takes r x.0.0 (only r u x.0.0) ≡ None = ap (takes r x.0.0) (cond-false (at u x.0.0) (offers net w r x.0.0) None other) ∙ choosers.untaken r x.0.0 in
            absurd (none_or_some (takes r x.0.0 (only r u x.0.0)) x.0.1 nothing x.2))
      ]

  next : (n : ℕ) → Below n → Below (suc n)
  next n before r h low e = elim (cases_Bool (running net w r)) [
    | inr stops ↦ absurd (none_or_some (w.route r) h (kept.idle r stops) e)
    | inl runs ↦ (
        let router = (and_parts (net.is_router r) _ runs).0 in
        let chosen : net.choose r (offers net w r) ≡ Some h = sym (cond-true (running net w r) (net.choose r (offers net w r)) None runs) ∙ sym (kept.chosen r refl) ∙ e in
        elim (cases_Option (net.choose r (λ z. None))) [
          | inr own ↦ kind.chooses r (λ z. None) router (λ z. held-none (on z r)) h (own.1 ∙ sym (choosers.own r (offers net w r) own.0 own.1) ∙ chosen)
          | inl none ↦ (
              let g = choosers.given r (offers net w r) h none chosen in
              elim (cases_Bool (live net w g.0 r)) [
                | inr gone ↦ (
                    let nothing : takes r g.0 (offers net w r g.0) ≡ None = ap (takes r g.0) (cond-false (live net w g.0 r) (w.heard g.0 r) None gone) ∙ choosers.untaken r g.0 in
                    absurd (none_or_some (takes r g.0 (offers net w r g.0)) h nothing g.1))
                | inl up ↦ (
                    let link = (and_parts (net.linked g.0 r) _ up).0 in
                    kind.chooses r (only r g.0) router (only_held r g.0 (heard_held n r g.0 h before low g.1 up)) h (chosen_alone r g.0 h none link g.1))
              ])
        ])
  ]

  below : (n : ℕ) → Below n
  below zero = λ r h low e. absurd (omega (arith, low))
  below (suc n) = next n (below n)

  route_held : (r : ℕ) → Held (hold r) (w.route r)
  route_held r h e = below (suc (size h)) r h (omega arith) e

  sent_held : (a b : ℕ) → Held (on a b) (exported net w a b)
  sent_held a b =
      held-cond (on a b) (net.is_router a) (net.export a b (w.route a)) (if w.silent b a then None else net.announced a)
      (λ router. kind.exports a b (w.route a) router (route_held a))
      (λ off. held-cond (on a b) (w.silent b a) None (net.announced a) (λ mute. held-none (on a b)) (λ speaks. kind.announces a b off))

  pub rest_kinds : AreKinds hold on w
  rest_kinds = record {
    queue = λ a b. subst (Each (on a b)) (sym (quiet a b)) tt;
    heard = λ a b y e. elim (cases_Bool (live net w a b)) [
      | inl up ↦ sent_held a b y (sym (heard_is a b up) ∙ e)
      | inr gone ↦ absurd (none_or_some (w.heard a b) y (kept.empty a b gone).1 e)
    ];
    queued = λ a b y e. elim (cases_Bool (live net w a b)) [
      | inl up ↦ sent_held a b y (sym (kept.told a b up refl) ∙ e)
      | inr gone ↦ absurd (none_or_some (w.queued a b) y (kept.empty a b gone).2 e)
    ];
    route = route_held;
  }
