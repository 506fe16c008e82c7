-- Each chosen path is sound.
use Rattle.std.proofs.Common.{◌≡◌, ℕ, suc, Bool, true, false, ◌&&◌, ◌⊎◌, inl, inr, List, [], ◌∷◌, ◌++◌, length, Some, None, refl, sym, ap, ◌∙◌, subst}
use Rattle.std.specs.Option.{option_and_then}
use Rattle.std.proofs.lemmas.Bool.{and_from}
use Rattle.routing_law.specs.Graph.{run}
use Rattle.routing_law.specs.Laws.{Sound}
use Rattle.routing_law.specs.Network.{chooses, giver, loop_free, survives}
use Rattle.routing_law.specs.Outcome.{ReachedAt, Route, Routes, Setup, Stable, heard, own_route}
use Rattle.routing_law.proofs.Heard.{Heard, chooses_parts, heard_from, heard_parts, own_parts}
use Rattle.routing_law.proofs.Runs.{no_end}

-- how v came by its route
pub record Origin (w : Setup) (v : ℕ) (x : Route) : Type 0 where
  pub live : w.alive.live v ≡ true
  pub start : w.graph.start v ≡ Some x.node
  pub path : x.path ≡ v ∷ []

pub record Taken (w : Setup) (r : Routes) (v : ℕ) (x : Route) : Type 0 where
  pub live : w.alive.live v ≡ true
  pub router : w.net.router v ≡ true
  pub from : ℕ
  pub heard : Heard w r v from x

-- an assignment that may not be finished: what is there was given
pub record Backed (w : Setup) (r : Routes) : Type 0 where
  pub own : (v : ℕ) → w.net.origin v ≡ true → r v ≡ own_route w v
  pub none : (v : ℕ) → w.net.origin v ≡ false → chooses w.net w.alive v ≡ false → r v ≡ None
  pub given : (v : ℕ) (x : Route) → chooses w.net w.alive v ≡ true → r v ≡ Some x → (u : ℕ) × (heard w r v u ≡ Some x)

pub backed : (w : Setup) (r : Routes) → Stable w r → Backed w r
backed w r s = record { own = s.own; none = s.none; given = s.given }

pub how : (w : Setup) (r : Routes) → Backed w r → (v : ℕ) (x : Route) → r v ≡ Some x → Origin w v x ⊎ Taken w r v x
how w r s v x h = by_origin (w.net.origin v) refl
  where
    by_choice : w.net.origin v ≡ false → (b : Bool) → chooses w.net w.alive v ≡ b → Origin w v x ⊎ Taken w r v x
    by_choice o true e =
        let g = s.given v x e h in
        let c = chooses_parts w v e in
        inr (record { live = c.1; router = c.0; from = g.0; heard = heard_parts w r v g.0 x g.1 })
    by_choice o false e = let f = sym (s.none v o e) ∙ h in absurd (cc)

    by_origin : (b : Bool) → w.net.origin v ≡ b → Origin w v x ⊎ Taken w r v x
    by_origin true e =
        let p = own_parts w v x (sym (s.own v e) ∙ h) in
        inl (record { live = p.0; start = p.1; path = p.2 })
    by_origin false e = by_choice e (chooses w.net w.alive v) refl

pub route_is : (x : Route) (p : List ℕ) → x.path ≡ p → x ≡ record { path = p; node = x.node }
route_is x p e = λ i. record { path = e i; node = x.node }

-- the route itself, read as a suffix of its path
itself : (w : Setup) (r : Routes) (v : ℕ) (x : Route) (q back : List ℕ) (u : ℕ) → r v ≡ Some x → x.path ≡ v ∷ q → v ∷ q ≡ u ∷ back → (m : ℕ) × (r u ≡ Some (record { path = u ∷ back; node = m }))
itself w r v x q back u h e f =
    let vu : v ≡ u = cc in
    (x.node, ap r (sym vu) ∙ h ∙ ap Some (route_is x (u ∷ back) (e ∙ f)))

sound_origin : (w : Setup) (r : Routes) (v : ℕ) (x : Route) → r v ≡ Some x → Origin w v x → Sound w r v x
sound_origin w r v x h o = record {
  rest = [];
  begins = o.path;
  free = rw o.path;
  lives = rw o.path o.live;
  runs = rw o.path o.start;
  suffixes = λ front back u e. suffixes front back u (sym o.path ∙ e);
}
  where
    suffixes : (front back : List ℕ) (u : ℕ) → v ∷ [] ≡ front ++ u ∷ back → (m : ℕ) × (r u ≡ Some (record { path = u ∷ back; node = m }))
    suffixes [] back u e = itself w r v x [] back u h o.path e
    suffixes (f ∷ fs) back u e = let t : [] ≡ fs ++ u ∷ back = cc in absurd (no_end fs back u t)

sound_taken : (w : Setup) (r : Routes) (v : ℕ) (x : Route) → r v ≡ Some x → (t : Taken w r v x) → Sound w r t.from t.heard.from → Sound w r v x
sound_taken w r v x h t s =
    let y = t.heard.from in
    let path : x.path ≡ v ∷ t.from ∷ s.rest = t.heard.path ∙ ap (λ p. v ∷ p) s.begins in
    let free : loop_free (v ∷ y.path) ≡ true = rw (t.heard.off, s.free) in
    let lives' : survives w.alive (t.from ∷ s.rest) ≡ true = subst (λ p. survives w.alive p ≡ true) s.begins s.lives in
    let runs' : run w.graph (t.from ∷ s.rest) ≡ Some y.node = subst (λ p. run w.graph p ≡ Some y.node) s.begins s.runs in
    record {
      rest = y.path;
      begins = t.heard.path;
      free = rw t.heard.path free;
      lives = subst (λ p. survives w.alive p ≡ true) (sym path) (rw (t.live, t.heard.carries) lives');
      runs = subst (λ p. run w.graph p ≡ Some x.node) (sym path) (ap (option_and_then (λ n. w.graph.next n v)) runs' ∙ t.heard.step);
      suffixes = λ front back u e. suffixes front back u (sym t.heard.path ∙ e);
    }
  where
    suffixes : (front back : List ℕ) (u : ℕ) → v ∷ t.heard.from.path ≡ front ++ u ∷ back → (m : ℕ) × (r u ≡ Some (record { path = u ∷ back; node = m }))
    suffixes [] back u e = itself w r v x t.heard.from.path back u h t.heard.path e
    suffixes (f ∷ fs) back u e = s.suffixes fs back u (cc)

-- each chosen path is sound
sound_at : (w : Setup) (r : Routes) → Backed w r → (path : List ℕ) (v : ℕ) (x : Route) → x.path ≡ path → r v ≡ Some x → Sound w r v x
sound_at w r s [] v x e h =
    elim (how w r s v x h) [
      | inl o ↦ sound_origin w r v x h o
      | inr t ↦ let f = sym e ∙ t.heard.path in absurd (cc)
    ]
sound_at w r s (z ∷ q) v x e h =
    elim (how w r s v x h) [
      | inl o ↦ sound_origin w r v x h o
      | inr t ↦ let f = sym e ∙ t.heard.path in sound_taken w r v x h t (sound_at w r s q t.from t.heard.from (cc) t.heard.has)
    ]

pub sound_of : (w : Setup) (r : Routes) → Backed w r → (v : ℕ) (x : Route) → r v ≡ Some x → Sound w r v x
sound_of w r s v x h = sound_at w r s x.path v x refl h

pub sound : (w : Setup) (r : Routes) → Stable w r → (v : ℕ) (x : Route) → r v ≡ Some x → Sound w r v x
sound w r s v x h = sound_of w r (backed w r s) v x h

-- what is said of a route that is heard
pub giver_is : (w : Setup) (r : Routes) → Backed w r → (v u : ℕ) (x : Route) → Heard w r v u x → giver x.path ≡ u
giver_is w r b v u x h =
    let a = sound_of w r b u h.from h.has in
    ap giver (h.path ∙ ap (λ p. v ∷ p) a.begins)

pub length_is : (w : Setup) (r : Routes) (v u : ℕ) (x : Route) → (h : Heard w r v u x) → length x.path ≡ suc (length h.from.path)
length_is w r v u x h = ap length h.path

-- heard again where the neighbour has the same route
pub heard_again : (w : Setup) (r s : Routes) (v u : ℕ) (x : Route) → (h : Heard w r v u x) → s u ≡ Some h.from → heard w s v u ≡ Some x
heard_again w r s v u x h e =
    let n : Some (record { path = v ∷ h.from.path; node = x.node }) ≡ Some x = ap Some (sym (route_is x (v ∷ h.from.path) h.path)) in
    heard_from w s v u h.from x.node e h.carries h.off h.step ∙ n

pub heard_reached : (w : Setup) (r : Routes) → Backed w r → (v u : ℕ) (x : Route) → w.alive.live v ≡ true → Heard w r v u x → ReachedAt w v x.node
heard_reached w r b v u x l h =
    let a = sound_of w r b u h.from h.has in
    let lives' : survives w.alive (u ∷ a.rest) ≡ true = subst (λ p. survives w.alive p ≡ true) a.begins a.lives in
    let runs' : run w.graph (u ∷ a.rest) ≡ Some h.from.node = subst (λ p. run w.graph p ≡ Some h.from.node) a.begins a.runs in
    record {
      rest = u ∷ a.rest;
      runs = ap (option_and_then (λ n. w.graph.next n v)) runs' ∙ h.step;
      lives = and_from (w.alive.live v) (w.alive.carries u v && survives w.alive (u ∷ a.rest)) l (and_from (w.alive.carries u v) (survives w.alive (u ∷ a.rest)) h.carries lives');
    }
