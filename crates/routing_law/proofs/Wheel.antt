-- Where routers are left, one of them can be settled: else the arcs between those left would form a wheel.
use Rattle.std.proofs.Common.{◌≡◌, ℕ, zero, suc, ◌+◌, ◌-◌, ◌<◌, ◌≤◌, Bool, true, false, ◌&&◌, ◌||◌, ◌⊎◌, inl, inr, ⊎_elim, List, [], ◌∷◌, ◌++◌, Option, Some, None, refl, sym, ap, ◌∙◌, subst, arith}
use Rattle.std.specs.Option.{option_and_then}
use Rattle.std.proofs.lemmas.Bool.{and_parts, false≢true}
use Rattle.routing_law.specs.Graph.{AtLeast, Reaches, WellFormed, follow, run}
use Rattle.routing_law.specs.Network.{chooses, stands_on, survives}
use Rattle.routing_law.specs.Outcome.{Route, Routes, Setup, heard}
use Rattle.routing_law.specs.Settling.{Tops}
use Rattle.routing_law.proofs.Heard.{chooses_from, chooses_parts, heard_from, own_from}
use Rattle.routing_law.proofs.Highest.{known_of, place_of}
use Rattle.routing_law.proofs.Rules.{AllRouters, Everywhere, all_more, along, no_growth}
use Rattle.routing_law.proofs.Runs.{first_lives, follow_append, follow_more, node_below, place_below, run_more, run_place, stands_split, start_is}
use Rattle.routing_law.proofs.Saturate.{comes_again}
use Rattle.routing_law.proofs.Sound.{Backed, Origin, Taken, how, sound_of}

-- v isn't settled, though a node is reached at it
pub record Left (w : Setup) (r : Routes) (t : Tops w) (v : ℕ) : Type 0 where
  pub chooses : chooses w.net w.alive v ≡ true
  pub none : r v ≡ None
  pub top : ℕ
  pub is_top : t.top v ≡ Some top

-- the way from the last entry into what is left, by a low node at hub, to n
record Arc (w : Setup) (r : Routes) (t : Tops w) (n : ℕ) : Type 0 where
  hub : ℕ
  entry : ℕ
  left : Left w r t hub
  known : entry < w.graph.nodes
  place : w.graph.place entry ≡ hub
  low : w.graph.number entry < w.graph.number left.top
  way : List ℕ
  routers : AllRouters w.net way
  runs : follow w.graph entry way ≡ Some n

-- each settled router has its best number
abbrev pub Topped : (w : Setup) (r : Routes) → Tops w → Type 0
Topped w r t = (v : ℕ) (x : Route) → chooses w.net w.alive v ≡ true → r v ≡ Some x → (n : ℕ) × (t.top v ≡ Some n) × (w.graph.number n ≤ w.graph.number x.node)

-- no router that is left is given its best number
abbrev pub Stuck : (w : Setup) (r : Routes) → Tops w → Type 0
Stuck w r t = (v u n : ℕ) (x : Route) → chooses w.net w.alive v ≡ true → r v ≡ None → t.top v ≡ Some n → heard w r v u ≡ Some x → w.graph.number x.node < w.graph.number n

-- a router that is left
record Spoke (w : Setup) (r : Routes) (t : Tops w) : Type 0 where
  at : ℕ
  left : Left w r t at

module _ (w : Setup) (wf : WellFormed w.net w.graph) (ev : Everywhere w.net w.graph) (r : Routes) (bk : Backed w r) (t : Tops w) (topped : Topped w r t) (stuck : Stuck w r t) where
  -- a walk's node at a settled location is no higher than the route's
  high_enough : (u m : ℕ) (q : List ℕ) (y : Route) → run w.graph (u ∷ q) ≡ Some m → survives w.alive (u ∷ q) ≡ true → r u ≡ Some y → AtLeast w.graph y.node m
  high_enough u m q y h l e =
      record {
        known = known_of w wf r bk u y e;
        other = node_below wf q u m h;
        place = place_of w wf r bk u y e ∙ sym (run_place wf u q m h);
        number = number (how w r bk u y e);
      }
    where
      number : Origin w u y ⊎ Taken w r u y → w.graph.number m ≤ w.graph.number y.node
      number (inl o) =
          let my : m ≡ y.node = cc (o.start, start_is wf u m (node_below wf q u m h) (run_place wf u q m h) (wf.start_origin u y.node o.start)) in
          subst (λ k. w.graph.number m ≤ w.graph.number k) my (omega arith)
      number (inr k) =
          let a = topped u y (chooses_from w u k.router k.live (wf.next_origin k.heard.from.node u y.node k.heard.step)) e in
          let b = t.over u m (record { rest = q; runs = h; lives = l }) in
          let same : b.0 ≡ a.0 = cc (a.1, b.1) in
          let le : w.graph.number m ≤ w.graph.number a.0 = subst (λ k. w.graph.number m ≤ w.graph.number k) same b.2 in
          omega (arith, a.2)

  -- a location on a surviving walk has a route, or is left
  has_or_left : (u m : ℕ) (q : List ℕ) → run w.graph (u ∷ q) ≡ Some m → survives w.alive (u ∷ q) ≡ true → (w.net.origin u || w.net.router u) ≡ true → ((y : Route) × (r u ≡ Some y)) ⊎ Left w r t u
  has_or_left u m q h l from = by (r u) refl
    where
      at_origin : w.net.origin u ≡ true → r u ≡ None → Left w r t u
      at_origin o e =
          let start = start_is wf u m (node_below wf q u m h) (run_place wf u q m h) o in
          let f = sym e ∙ bk.own u o ∙ own_from w u m (first_lives w.alive u q l) start in
          absurd (cc)

      left : (b : Bool) → w.net.origin u ≡ b → r u ≡ None → Left w r t u
      left true o e = at_origin o e
      left false o e =
          let ro : w.net.router u ≡ true = subst (λ x. (x || w.net.router u) ≡ true) o from in
          let b = t.over u m (record { rest = q; runs = h; lives = l }) in
          record { chooses = chooses_from w u ro (first_lives w.alive u q l) o; none = e; top = b.0; is_top = b.1 }

      by : (o : Option Route) → r u ≡ o → ((y : Route) × (r u ≡ Some y)) ⊎ Left w r t u
      by (Some y) e = inl (y, e)
      by None e = inr (left (w.net.origin u) refl e)

  -- what comes to a router that is left from a settled one is low
  comes_low : (v u m n : ℕ) (y : Route) (l : Left w r t v) → AtLeast w.graph y.node m → w.graph.next m v ≡ Some n → w.alive.carries u v ≡ true → r u ≡ Some y → w.graph.number n < w.graph.number l.top
  comes_low v u m n y l al st k e = by (stands_on v y.path) refl
    where
      by : (b : Bool) → stands_on v y.path ≡ b → w.graph.number n < w.graph.number l.top
      by true on =
          let a = stands_split v y.path on in
          let c = (sound_of w r bk u y e).suffixes a.0 a.1 v a.2 in
          let f = sym l.none ∙ c.1 in
          absurd (cc)
      by false off =
          let a = ev.step y.node m v n al (chooses_parts w v l.chooses).0 st in
          let b = stuck v u l.top (record { path = v ∷ y.path; node = a.0 }) l.chooses l.none l.is_top (heard_from w r v u y a.0 e k off a.1) in
          omega (arith, a.2, b)

  low_or_arc : (q : List ℕ) (v n : ℕ) (l : Left w r t v) → run w.graph (v ∷ q) ≡ Some n → survives w.alive (v ∷ q) ≡ true → (w.graph.number n < w.graph.number l.top) ⊎ Arc w r t n
  low_or_arc [] v n l h s = absurd (false≢true (sym (chooses_parts w v l.chooses).2 ∙ wf.start_origin v n h))
  low_or_arc (u ∷ q) v n l h s =
      let ro = (chooses_parts w v l.chooses).0 in
      let a = run_more w.graph v u q n h in
      let b = and_parts (w.alive.live v) (w.alive.carries u v && survives w.alive (u ∷ q)) s in
      let c = and_parts (w.alive.carries u v) (survives w.alive (u ∷ q)) b.1 in
      let at = run_place wf u q a.0 a.1 in
      let from : (w.net.origin u || w.net.router u) ≡ true = subst (λ x. (w.net.origin x || w.net.router x) ≡ true) at (wf.next_from a.0 v n a.2) in
      by a.0 ro a.1 a.2 c.0 c.1 at (has_or_left u a.0 q a.1 c.1 from) (λ k. low_or_arc q u a.0 k a.1 c.1)
    where
      by : (m : ℕ) → w.net.router v ≡ true → run w.graph (u ∷ q) ≡ Some m → w.graph.next m v ≡ Some n → w.alive.carries u v ≡ true
          → survives w.alive (u ∷ q) ≡ true → w.graph.place m ≡ u → ((y : Route) × (r u ≡ Some y)) ⊎ Left w r t u
          → ((k : Left w r t u) → (w.graph.number m < w.graph.number k.top) ⊎ Arc w r t m) → (w.graph.number n < w.graph.number l.top) ⊎ Arc w r t n
      by m ro g st k sv at (inl y) again = inl (comes_low v u m n y.0 l (high_enough u m q y.0 g sv y.1) st k y.1)
      by m ro g st k sv at (inr k') again = inr (arc (again k'))
        where
          arc : (w.graph.number m < w.graph.number k'.top) ⊎ Arc w r t m → Arc w r t n
          arc (inl low) = record { hub = u; entry = m; left = k'; known = node_below wf q u m g; place = at; low = low; way = v ∷ []; routers = (ro, tt); runs = ap (option_and_then (λ j. Some j)) st }
          arc (inr x) = record {
            hub = x.hub;
            entry = x.entry;
            left = x.left;
            known = x.known;
            place = x.place;
            low = x.low;
            way = x.way ++ v ∷ [];
            routers = all_more w.net x.way v x.routers ro;
            runs = follow_more w.graph x.way x.entry m v n x.runs st;
          }

  -- each router that is left has an arc to its best node
  arc_of : (v : ℕ) (l : Left w r t v) → Arc w r t l.top
  arc_of v l =
      let a = t.is_reached v l.top l.is_top in
      ⊎_elim (λ low. absurd (omega (arith, low))) (λ x. x) (low_or_arc a.rest v l.top l a.runs a.lives)

  abbrev next_spoke : Spoke w r t → Spoke w r t
  next_spoke s = record { at = (arc_of s.at s.left).hub; left = (arc_of s.at s.left).left }

  abbrev spin : Spoke w r t → ℕ → Spoke w r t
  spin s zero = s
  spin s (suc j) = next_spoke (spin s j)

  abbrev arc : (s : Spoke w r t) (i : ℕ) → Arc w r t (spin s i).left.top
  arc s i = arc_of (spin s i).at (spin s i).left

  -- a best node is one, and at its router
  top_is : (s : Spoke w r t) → (s.left.top < w.graph.nodes) × (w.graph.place s.left.top ≡ s.at)
  top_is s =
      let a = t.is_reached s.at s.left.top s.left.is_top in
      (node_below wf a.rest s.at s.left.top a.runs, run_place wf s.at a.rest s.left.top a.runs)

  -- the entry of the k-th arc reaches, along the arcs back to the i-th, a node no worse than the one in which that ends
  comes : (s : Spoke w r t) (d i k : ℕ) → k ≡ i + d → (m : ℕ) × Reaches w.graph (arc s k).entry m × AtLeast w.graph m (spin s i).left.top
  comes s zero i k e =
      let same : i ≡ k = omega arith in
      let b = top_is (spin s i) in
      subst (λ j. (m : ℕ) × Reaches w.graph (arc s j).entry m × AtLeast w.graph m (spin s i).left.top) same
      ((spin s i).left.top, ((arc s i).way, (arc s i).runs), record { known = b.0; other = b.0; place = refl; number = omega arith })
  comes s (suc d) i k e =
      let a = arc s i in
      let c = comes s d (suc i) k (omega arith) in
      let high : AtLeast w.graph c.0 a.entry = record {
        known = c.2.known;
        other = a.known;
        place = c.2.place ∙ (top_is (spin s (suc i))).1 ∙ sym a.place;
        number = omega (arith, c.2.number, a.low);
      } in
      let h = along wf ev a.way c.0 a.entry (spin s i).left.top a.routers high a.runs in
      (h.0, (c.1.0 ++ a.way, follow_append w.graph c.1.0 a.way (arc s k).entry c.0 h.0 c.1.1 h.1), h.2)

  wheel_at : (s : Spoke w r t) (i j : ℕ) → i < j → (spin s i).at ≡ (spin s j).at → ⊥
  wheel_at s i zero l same = omega arith
  wheel_at s i (suc k) l same =
      let b = arc s k in
      let c = comes s (k - i) i k (omega arith) in
      let at : w.graph.place c.0 ≡ (spin s i).at = c.2.place ∙ (top_is (spin s i)).1 in
      let ro : w.net.router (w.graph.place c.0) ≡ true = ap w.net.router at ∙ (chooses_parts w (spin s i).at (spin s i).left.chooses).0 in
      let le = no_growth wf ev b.entry c.0 b.known (b.place ∙ sym same ∙ sym at) ro c.1 in
      let tops_same : (spin s i).left.top ≡ b.left.top = cc ((spin s i).left.is_top, b.left.is_top, ap t.top same) in
      let low : w.graph.number b.entry < w.graph.number (spin s i).left.top = subst (λ n. w.graph.number b.entry < w.graph.number n) (sym tops_same) b.low in
      omega (arith, le, low, c.2.number)

  pub wheel : (v : ℕ) → Left w r t v → ⊥
  wheel v l =
      let s : Spoke w r t = record { at = v; left = l } in
      let c = comes_again w.net.size (λ i. (spin s i).at) (λ i. below (spin s i)) in
      wheel_at s c.0 c.1 c.2 c.3
    where
      below : (s : Spoke w r t) → s.at < w.net.size
      below s = let a = t.is_reached s.at s.left.top s.left.is_top in place_below wf a.rest s.at s.left.top a.runs
