-- Secure routers settle, one after the other, until the outcome is settled.
use Rattle.std.proofs.Common.{◌≡◌, ℕ, zero, suc, ◌+◌, ◌<◌, ◌≤◌, Bool, true, false, cond, ◌⊎◌, inl, inr, List, [], ◌∷◌, length, Option, Some, None, eqb, refl, sym, ap, ◌∙◌, subst, arith}
use Rattle.std.specs.Option.{is_some}
use Rattle.std.proofs.lemmas.Bool.{both_ways, eq-eqb, eqb-true, false≢true, or_left}
use Rattle.routing_law.specs.Graph.{WellFormed}
use Rattle.routing_law.specs.Network.{chooses, stands_on}
use Rattle.routing_law.specs.Outcome.{FullyStable, NoLater, Route, Routes, Setup, heard, own_route}
use Rattle.routing_law.proofs.Heard.{Heard, chooses_parts, heard_parts}
use Rattle.routing_law.proofs.Rules.{Everywhere, everywhere}
use Rattle.routing_law.proofs.Saturate.{count_below, count_bound, count_more}
use Rattle.routing_law.proofs.Sound.{heard_again, route_is, sound_of}
use Rattle.routing_law.proofs.Unique.{unique}
use Rattle.rest_law.specs.SecureLaws.{CanHoldNoMore, FirmAtFirst, FirmAtLast, FirmIsOutcome, FirmOn, NextSettles}
use Rattle.rest_law.specs.Partial.{Before, CanHold, Detour, FirmlySettled, IsFirm, IsOpen, IsSecure, PartlySettled, at_first, settled_with}
use Rattle.rest_law.proofs.Cycle.{Offered, offer_known}
use Rattle.rest_law.proofs.Order.{by_length, by_number}
use Rattle.rest_law.proofs.Search.{search_below}
use Rattle.rest_law.proofs.Secure.{Quiet, backed_of, next_secure}

pub before_no_later : (w : Setup) (x y : Route) → Before w x y → NoLater w x y
before_no_later w x y (inl l) = by_number w x y l
before_no_later w x y (inr l) = by_length w x y l.0 l.1

at_first_open : (w : Setup) (v : ℕ) (x : Route) → chooses w.net w.alive v ≡ true → at_first w v ≡ Some x → ⊥
at_first_open w v x c h = let o = (chooses_parts w v c).2 in let z : None ≡ Some x = subst (λ b. cond b (own_route w v) None ≡ Some x) o h in cc

pub firm_at_first : FirmAtFirst
firm_at_first w = record {
  partly = record { own = λ v o. rw o refl; none = λ v o c. rw o refl; given = λ v x c h. absurd (at_first_open w v x c h) };
  firm = λ v x c h. absurd (at_first_open w v x c h);
}

module _ (r : Routes) (v : ℕ) (x : Route) where
  pub with_at : settled_with r v x v ≡ Some x
  with_at = rw (eq-eqb v v refl) refl

  -- what is held then is x, or was held before
  pub with_cases : (u : ℕ) (y : Route) → settled_with r v x u ≡ Some y → ((u ≡ v) × (x ≡ y)) ⊎ (r u ≡ Some y)
  with_cases u y h = by (eqb u v) refl h
    where
      by : (b : Bool) → eqb u v ≡ b → cond b (Some x) (r u) ≡ Some y → ((u ≡ v) × (x ≡ y)) ⊎ (r u ≡ Some y)
      by true e g = inl (eqb-true u v e, cc)
      by false e g = inr g

  with_none : (u : ℕ) → settled_with r v x u ≡ None → r u ≡ None
  with_none u h = by (eqb u v) refl h
    where
      by : (b : Bool) → eqb u v ≡ b → cond b (Some x) (r u) ≡ None → r u ≡ None
      by true e g = absurd (cc)
      by false e g = g

  pub with_other : (u : ℕ) → (u ≡ v → ⊥) → settled_with r v x u ≡ r u
  with_other u h = by (eqb u v) refl
    where
      by : (b : Bool) → eqb u v ≡ b → cond b (Some x) (r u) ≡ r u
      by true e = absurd (h (eqb-true u v e))
      by false e = refl

  pub with_kept : r v ≡ None → (u : ℕ) (y : Route) → r u ≡ Some y → settled_with r v x u ≡ Some y
  with_kept none u y h = with_other u (λ e. let z = sym none ∙ ap r (sym e) ∙ h in absurd (cc)) ∙ h

-- what an open router is given it can hold
pub given_held : (w : Setup) (r : Routes) → PartlySettled w r → (v u : ℕ) (x : Route) → IsOpen w r v → heard w r v u ≡ Some x → (rest : List ℕ) × (x.path ≡ v ∷ rest) × CanHold w r (v ∷ rest) x.node
given_held w r ps v u x o h =
    let a = heard_parts w r v u x h in
    let s = sound_of w r (backed_of w r ps) u a.from a.has in
    let has : r u ≡ Some (record { path = u ∷ s.rest; node = a.from.node }) = a.has ∙ ap Some (route_is a.from (u ∷ s.rest) s.begins) in
    (u ∷ s.rest, a.path ∙ ap (λ p. v ∷ p) s.begins, (o, a.carries, (a.from.node, a.step, inl has)))

module _ (w : Setup) (r : Routes) (v : ℕ) (x : Route) (ps : PartlySettled w r) (sec : IsSecure w r v x) where
  abbrev then' : Routes
  then' = settled_with r v x

  gave : Heard w r v sec.from x
  gave = heard_parts w r v sec.from x sec.gives

  -- v could hold x before
  held_before : CanHold w r x.path x.node
  held_before = let a = given_held w r ps v sec.from x sec.is_open sec.gives in subst (λ p. CanHold w r p x.node) (sym a.1) a.2

  pub no_more : (p : List ℕ) (n : ℕ) → CanHold w then' p n → CanHold w r p n
  no_more [] n h = absurd h
  no_more (t ∷ []) n h = absurd h
  no_more (t ∷ u ∷ p) n h = ((h.0.0, with_none r v x t h.0.1), h.1, (h.2.0, h.2.1, by h.2.2 (no_more (u ∷ p) h.2.0)))
    where
      by_cases : (m : ℕ) → ((u ≡ v) × (x ≡ record { path = u ∷ p; node = m })) ⊎ (r u ≡ Some (record { path = u ∷ p; node = m }))
          → (r u ≡ Some (record { path = u ∷ p; node = m })) ⊎ CanHold w r (u ∷ p) m
      by_cases m (inl e) = inr (subst (λ (y : Route). CanHold w r y.path y.node) e.1 held_before)
      by_cases m (inr e) = inl e

      by : (then' u ≡ Some (record { path = u ∷ p; node = h.2.0 })) ⊎ CanHold w then' (u ∷ p) h.2.0
          → (CanHold w then' (u ∷ p) h.2.0 → CanHold w r (u ∷ p) h.2.0)
          → (r u ≡ Some (record { path = u ∷ p; node = h.2.0 })) ⊎ CanHold w r (u ∷ p) h.2.0
      by (inl e) again = by_cases h.2.0 (with_cases r v x u (record { path = u ∷ p; node = h.2.0 }) e)
      by (inr c) again = inr (again c)

  detour_before : (t : ℕ) (y : Route) → Detour w then' t y → Detour w r t y
  detour_before t y d = record { by = d.by; rest = d.rest; node = d.node; path = d.path; carries = d.carries; held = no_more (d.by ∷ d.rest) d.node d.held; step = d.step }

  -- what v gives then was a detour
  detour_of : (t : ℕ) (y : Route) (h : Heard w then' t v y) → x ≡ h.from → Detour w r t y
  detour_of t y h e =
      let path : x.path ≡ v ∷ gave.from.path = gave.path in
      record {
        by = v;
        rest = gave.from.path;
        node = x.node;
        path = h.path ∙ ap (λ (z : Route). t ∷ z.path) (sym e) ∙ ap (λ p. t ∷ p) path;
        carries = h.carries;
        held = subst (λ p. CanHold w r p x.node) path held_before;
        step = ap (λ (z : Route). w.graph.next z.node t) e ∙ h.step;
      }

  heard_later : (t u : ℕ) (y : Route) → heard w r t u ≡ Some y → heard w then' t u ≡ Some y
  heard_later t u y h =
      let a = heard_parts w r t u y h in
      heard_again w r then' t u y a (with_kept r v x sec.is_open.1 u a.from a.has)

  partly_on : PartlySettled w then'
  partly_on = record {
    own = λ u o. with_other r v x u (λ e. both_ways (w.net.origin v) (chooses_parts w v sec.is_open.0).2 (ap w.net.origin (sym e) ∙ o)) ∙ ps.own u o;
    none = λ u o c. with_other r v x u (λ e. both_ways (chooses w.net w.alive u) c (ap (chooses w.net w.alive) e ∙ sec.is_open.0)) ∙ ps.none u o c;
    given = λ u y c h. given u y c (with_cases r v x u y h);
  }
    where
      given : (u : ℕ) (y : Route) → chooses w.net w.alive u ≡ true → ((u ≡ v) × (x ≡ y)) ⊎ (r u ≡ Some y) → (t : ℕ) × (heard w then' u t ≡ Some y)
      given u y c (inl e) = (sec.from, ap (λ z. heard w then' z sec.from) e.0 ∙ heard_later v sec.from x sec.gives ∙ ap Some e.1)
      given u y c (inr e) = let a = ps.given u y c e in (a.0, heard_later u a.0 y a.1)

  -- x is firm then too
  firm_new : IsFirm w then' v x
  firm_new = record { first = λ u y h. first u y (heard_parts w then' v u y h); before = λ y d. sec.firm.before y (detour_before v y d) }
    where
      first : (u : ℕ) (y : Route) → Heard w then' v u y → NoLater w x y
      first u y h = by (with_cases r v x u h.from h.has)
        where
          by : ((u ≡ v) × (x ≡ h.from)) ⊎ (r u ≡ Some h.from) → NoLater w x y
          by (inr e) = sec.firm.first u y (heard_again w then' r v u y h e)
          by (inl e) =
              let on : stands_on v (v ∷ gave.from.path) ≡ true = or_left (eqb v v) (stands_on v gave.from.path) (eq-eqb v v refl) in
              let off : stands_on v (v ∷ gave.from.path) ≡ false = ap (stands_on v) (sym gave.path) ∙ ap (λ (z : Route). stands_on v z.path) e.1 ∙ h.off in
              absurd (both_ways _ off on)

  -- and so is what was
  firm_old : (t : ℕ) (z : Route) → IsFirm w r t z → IsFirm w then' t z
  firm_old t z f = record { first = λ u y h. first u y (heard_parts w then' t u y h); before = λ y d. f.before y (detour_before t y d) }
    where
      first : (u : ℕ) (y : Route) → Heard w then' t u y → NoLater w z y
      first u y h = by (with_cases r v x u h.from h.has)
        where
          by : ((u ≡ v) × (x ≡ h.from)) ⊎ (r u ≡ Some h.from) → NoLater w z y
          by (inr e) = f.first u y (heard_again w then' r t u y h e)
          by (inl e) =
              let at_v : Heard w then' t v y =
              record { from = h.from; has = ap then' (sym e.0) ∙ h.has; carries = ap (λ k. w.alive.carries k t) (sym e.0) ∙ h.carries; off = h.off; step = h.step; path = h.path }
              in
              before_no_later w z y (f.before y (detour_of t y at_v e.1))

pub can_hold_no_more : CanHoldNoMore
can_hold_no_more w r v x ps sec p n h = no_more w r v x ps sec p n h

pub firm_on : FirmOn
firm_on w r v x f sec = record {
  partly = partly_on w r v x f.partly sec;
  firm = λ t y c h. by t y c (with_cases r v x t y h);
}
  where
    by : (t : ℕ) (y : Route) → chooses w.net w.alive t ≡ true → ((t ≡ v) × (x ≡ y)) ⊎ (r t ≡ Some y) → IsFirm w (settled_with r v x) t y
    by t y c (inl e) = subst (λ z. IsFirm w (settled_with r v x) t z) e.1 (subst (λ k. IsFirm w (settled_with r v x) k x) (sym e.0) (firm_new w r v x f.partly sec))
    by t y c (inr e) = firm_old w r v x f.partly sec t y (f.firm t y c e)

pub firm_at_last : FirmAtLast
firm_at_last w r f quiet = record {
  stable = record { own = f.partly.own; none = f.partly.none; given = f.partly.given; best = λ v u y c h. best v u y c h (r v) refl };
  first = λ v u x y c e h. (f.firm v x c e).first u y h;
}
  where
    best : (v u : ℕ) (y : Route) → chooses w.net w.alive v ≡ true → heard w r v u ≡ Some y → (o : Option Route) → r v ≡ o
        → (x : Route) × (r v ≡ Some x) × (w.graph.number y.node ≤ w.graph.number x.node)
    best v u y c h None e = absurd (quiet v u y (c, e) h)
    best v u y c h (Some x) e = (x, e, ((f.firm v x c e).first u y h).number)

module _ (w : Setup) (wf : WellFormed w.net w.graph) (ev : Everywhere w.net w.graph) where
  abbrev pub Ended : Routes → Type 0
  Ended r = (v u : ℕ) (x : Route) → IsOpen w r v → heard w r v u ≡ Some x → ⊥

  pub ended_or_secure : (r : Routes) → FirmlySettled w r → Ended r ⊎ ((z : ℕ) × (y : Route) × IsSecure w r z y)
  ended_or_secure r f = by (search_below (Quiet w wf r (backed_of w r f.partly)) (λ b. (z : ℕ) × (y : Route) × IsSecure w r z y) w.net.size (next_secure w wf r (backed_of w r f.partly) ev))
    where
      by : ((b : ℕ) → b < w.net.size → Quiet w wf r (backed_of w r f.partly) b) ⊎ ((b : ℕ) × (b < w.net.size) × ((z : ℕ) × (y : Route) × IsSecure w r z y))
          → Ended r ⊎ ((z : ℕ) × (y : Route) × IsSecure w r z y)
      by (inr a) = inr (a.2.0, a.2.1, a.2.2)
      by (inl quiet) = inl (λ v u x o h.
          let a : Offered w r v x = record { is_open = o; from = u; gives = h } in
          quiet v (offer_known w (λ q. length q) wf ev r v x a).0 x a)

  abbrev pub settled_marks : Routes → ℕ → Bool
  settled_marks r v = is_some (r v)

  -- each time one more is settled
  pub one_more : (r : Routes) (v : ℕ) (x : Route) → IsSecure w r v x → count_below (settled_marks r) w.net.size < count_below (settled_marks (settled_with r v x)) w.net.size
  one_more r v x sec =
      let a : Offered w r v x = record { is_open = sec.is_open; from = sec.from; gives = sec.gives } in
      count_more (settled_marks r) (settled_marks (settled_with r v x)) grows w.net.size v (offer_known w (λ q. length q) wf ev r v x a).0 (ap is_some sec.is_open.1) (ap is_some (with_at r v x))
    where
      grows : (u : ℕ) → is_some (r u) ≡ true → is_some (settled_with r v x u) ≡ true
      grows u h = by (r u) refl
        where
          by : (o : Option Route) → r u ≡ o → is_some (settled_with r v x u) ≡ true
          by None e = absurd (false≢true (sym (ap is_some e) ∙ h))
          by (Some y) e = ap is_some (with_kept r v x sec.is_open.1 u y e)

  -- an outcome that keeps what is settled
  record Kept (r : Routes) : Type 0 where
    outcome : Routes
    stable : FullyStable w outcome
    keeps : (v : ℕ) (x : Route) → r v ≡ Some x → outcome v ≡ Some x

  finish : (k : ℕ) (r : Routes) → FirmlySettled w r → w.net.size ≤ count_below (settled_marks r) w.net.size + k → Kept r
  finish zero r f l = by (ended_or_secure r f)
    where
      by : Ended r ⊎ ((z : ℕ) × (y : Route) × IsSecure w r z y) → Kept r
      by (inl e) = record { outcome = r; stable = firm_at_last w r f e; keeps = λ v x h. h }
      by (inr s) = absurd (omega (arith, l, one_more r s.0 s.1 s.2, count_bound (settled_marks (settled_with r s.0 s.1)) w.net.size))
  finish (suc k) r f l = by (ended_or_secure r f) (finish k)
    where
      by : Ended r ⊎ ((z : ℕ) × (y : Route) × IsSecure w r z y) → ((q : Routes) → FirmlySettled w q → w.net.size ≤ count_below (settled_marks q) w.net.size + k → Kept q) → Kept r
      by (inl e) again = record { outcome = r; stable = firm_at_last w r f e; keeps = λ v x h. h }
      by (inr s) again =
          let a = again (settled_with r s.0 s.1) (firm_on w r s.0 s.1 f s.2) (omega (arith, l, one_more r s.0 s.1 s.2)) in
          record { outcome = a.outcome; stable = a.stable; keeps = λ v x h. a.keeps v x (with_kept r s.0 s.1 s.2.is_open.1 v x h) }

pub firm_is_outcome : FirmIsOutcome
firm_is_outcome w r s differ wf rules f fs v x h =
    let a = finish w wf (everywhere w.net w.graph wf rules) w.net.size r f (omega arith) in
    sym (unique w a.outcome s differ wf rules a.stable fs v) ∙ a.keeps v x h

pub next_settles : NextSettles
next_settles w r s differ wf rules f fs = by (ended_or_secure w wf (everywhere w.net w.graph wf rules) r f)
  where
    by : ((v u : ℕ) (x : Route) → IsOpen w r v → heard w r v u ≡ Some x → ⊥) ⊎ ((z : ℕ) × (y : Route) × IsSecure w r z y)
        → ((v : ℕ) → r v ≡ s v) ⊎ ((v : ℕ) × (x : Route) × IsSecure w r v x × (s v ≡ Some x) × FirmlySettled w (settled_with r v x))
    by (inl e) = inl (unique w r s differ wf rules (firm_at_last w r f e) fs)
    by (inr a) =
        let on = firm_on w r a.0 a.1 f a.2 in
        inr (a.0, a.1, a.2, firm_is_outcome w (settled_with r a.0 a.1) s differ wf rules on fs a.0 a.1 (with_at r a.0 a.1), on)
