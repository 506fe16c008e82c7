-- A live router's number is at least that of each node that is reached at it.
use Rattle.std.proofs.Common.{◌≡◌, ℕ, ◌<◌, ◌≤◌, Bool, true, false, ◌&&◌, ◌||◌, List, [], ◌∷◌, Some, refl, sym, ap, ◌∙◌, subst, arith}
use Rattle.std.proofs.lemmas.Bool.{and_parts, or_right}
use Rattle.routing_law.specs.Graph.{AtLeast, WellFormed, run}
use Rattle.routing_law.specs.Laws.{GraphNodeIsReached, GraphNumberIsGreatest}
use Rattle.routing_law.specs.Network.{chooses, stands_on, survives}
use Rattle.routing_law.specs.Outcome.{Route, Routes, Setup, Stable}
use Rattle.routing_law.proofs.Heard.{chooses_from, heard_from, own_from}
use Rattle.routing_law.proofs.Rules.{Everywhere, everywhere}
use Rattle.routing_law.proofs.Runs.{node_below, run_more, run_passes, run_place, stands_split}
use Rattle.routing_law.proofs.Sound.{Backed, backed, sound, sound_of}

-- a route's node is one
pub known_of : (w : Setup) → WellFormed w.net w.graph → (r : Routes) → Backed w r → (v : ℕ) (x : Route) → r v ≡ Some x → x.node < w.graph.nodes
known_of w wf r b v x h =
    let a = sound_of w r b v x h in
    node_below wf a.rest v x.node (subst (λ p. run w.graph p ≡ Some x.node) a.begins a.runs)

-- where a route's node is
pub place_of : (w : Setup) → WellFormed w.net w.graph → (r : Routes) → Backed w r → (v : ℕ) (x : Route) → r v ≡ Some x → w.graph.place x.node ≡ v
place_of w wf r b v x h =
    let a = sound_of w r b v x h in
    run_place wf v a.rest x.node (subst (λ p. run w.graph p ≡ Some x.node) a.begins a.runs)

-- v has a route whose node stands at least as high as n
abbrev pub Over : Setup → Routes → ℕ → ℕ → Type 0
Over w r v n = (x : Route) × (r v ≡ Some x) × AtLeast w.graph x.node n

module _ (w : Setup) (r : Routes) (wf : WellFormed w.net w.graph) (s : Stable w r) where
  over_start : (v n : ℕ) → w.alive.live v ≡ true → w.graph.start v ≡ Some n → Over w r v n
  over_start v n l h = (
    record { path = v ∷ []; node = n },
    s.own v (wf.start_origin v n h) ∙ own_from w v n l h,
    record { known = (wf.start_below v n h).1; other = (wf.start_below v n h).1; place = refl; number = omega arith },
  )

  -- the neighbour's route is heard
  over_heard : (v u m' n : ℕ) (y : Route) → chooses w.net w.alive v ≡ true → w.graph.place n ≡ v → n < w.graph.nodes → r u ≡ Some y
      → w.alive.carries u v ≡ true → stands_on v y.path ≡ false → w.graph.next y.node v ≡ Some m' → w.graph.number n ≤ w.graph.number m'
      → Over w r v n
  over_heard v u m' n y c p nb h k off st le =
      let b = s.best v u (record { path = v ∷ y.path; node = m' }) c (heard_from w r v u y m' h k off st) in
      (b.0, b.1, record { known = known_of w wf r (backed w r s) v b.0 b.1; other = nb; place = place_of w wf r (backed w r s) v b.0 b.1 ∙ sym p; number = omega (arith, b.2) })

  -- the neighbour's route passes v already
  over_passed : Everywhere w.net w.graph → (v u m n : ℕ) (y : Route) → w.net.router v ≡ true → w.graph.place n ≡ v → r u ≡ Some y
      → AtLeast w.graph y.node m → w.graph.next m v ≡ Some n → stands_on v y.path ≡ true → Over w r v n
  over_passed ev v u m n y ro p h al st on =
      let a = sound w r s u y h in
      let b = stands_split v y.path on in
      let c = a.suffixes b.0 b.1 v b.2 in
      let d = run_passes w.graph b.0 b.1 v y.node (subst (λ q. run w.graph q ≡ Some y.node) b.2 a.runs) in
      let e = sound w r s v (record { path = v ∷ b.1; node = c.0 }) c.1 in
      let same : d.0 ≡ c.0 = cc (d.1, e.runs) in
      let at : w.graph.place d.0 ≡ v = run_place wf v b.1 d.0 d.1 in
      let le = ev.loop y.node m v n d.0 al ro st (node_below wf b.1 v d.0 d.1) at d.2 in (
        record { path = v ∷ b.1; node = c.0 },
        c.1,
        record {
          known = known_of w wf r (backed w r s) v (record { path = v ∷ b.1; node = c.0 }) c.1;
          other = (wf.next_below m v n st).2;
          place = ap w.graph.place (sym same) ∙ at ∙ sym p;
          number = subst (λ k. w.graph.number n ≤ w.graph.number k) same le;
        },
      )

  over_step : Everywhere w.net w.graph → (v u m n : ℕ) → w.net.router v ≡ true → w.alive.live v ≡ true → w.alive.carries u v ≡ true → w.graph.next m v ≡ Some n → Over w r u m → Over w r v n
  over_step ev v u m n ro l k st o = split (stands_on v o.0.path) refl
    where
      split : (b : Bool) → stands_on v o.0.path ≡ b → Over w r v n
      split true e = over_passed ev v u m n o.0 ro (wf.next_place m v n st) o.1 o.2 st e
      split false e =
          let a = ev.step o.0.node m v n o.2 ro st in
          over_heard v u a.0 n o.0 (chooses_from w v ro l (wf.next_origin m v n st)) (wf.next_place m v n st) (wf.next_below m v n st).2 o.1 k e a.1 a.2

  pub over : Everywhere w.net w.graph → (rest : List ℕ) (v n : ℕ) → (w.net.origin v || w.net.router v) ≡ true → run w.graph (v ∷ rest) ≡ Some n → survives w.alive (v ∷ rest) ≡ true → Over w r v n
  over ev [] v n o h l = over_start v n l h
  over ev (u ∷ q) v n o h l =
      let a = run_more w.graph v u q n h in
      let b = and_parts (w.alive.live v) (w.alive.carries u v && survives w.alive (u ∷ q)) l in
      let c = and_parts (w.alive.carries u v) (survives w.alive (u ∷ q)) b.1 in
      let ro : w.net.router v ≡ true = subst (λ x. (x || w.net.router v) ≡ true) (wf.next_origin a.0 v n a.2) o in
      let from : (w.net.origin u || w.net.router u) ≡ true = subst (λ x. (w.net.origin x || w.net.router x) ≡ true) (run_place wf u q a.0 a.1) (wf.next_from a.0 v n a.2) in
      over_step ev v u a.0 n ro b.0 c.0 a.2 (over ev q u a.0 from a.1 c.1)

pub greatest : GraphNumberIsGreatest
greatest w r wf rules s v n ro a =
    let o = over w r wf s (everywhere w.net w.graph wf rules) a.rest v n (or_right (w.net.origin v) (w.net.router v) ro) a.runs a.lives in
    (o.0, o.1, o.2.number)

pub chosen_is_reached : GraphNodeIsReached
chosen_is_reached w r s v x h =
    let a = sound w r s v x h in
    record { rest = a.rest; runs = subst (λ p. run w.graph p ≡ Some x.node) a.begins a.runs; lives = subst (λ p. survives w.alive p ≡ true) a.begins a.lives }
