-- If each router at the boundary could come to hold, by another one, what doesn't come after its offers, those others would go round.
use Rattle.std.proofs.Common.{◌≡◌, ℕ, zero, suc, ◌+◌, ◌-◌, ◌<◌, ◌≤◌, List, ◌++◌, Some, refl, sym, ap, ◌∙◌, subst, arith}
use Rattle.routing_law.specs.Graph.{AtLeast, Reaches, WellFormed, follow}
use Rattle.routing_law.specs.Outcome.{Route, Routes, Setup, heard}
use Rattle.routing_law.proofs.Heard.{chooses_parts, heard_parts}
use Rattle.routing_law.proofs.Rules.{AllRouters, Everywhere, along, no_growth}
use Rattle.routing_law.proofs.Runs.{follow_append}
use Rattle.routing_law.proofs.Saturate.{comes_again}
use Rattle.rest_law.specs.Partial.{IsOpen}
use Rattle.rest_law.specs.Sizes.{Size}

-- an open router that is given x by a settled neighbour
pub record Offered (w : Setup) (r : Routes) (v : ℕ) (x : Route) : Type 0 where
  pub is_open : IsOpen w r v
  pub from : ℕ
  pub gives : heard w r v from ≡ Some x

-- what is offered to hub comes on to b, with a number no lower than that of any offer there, and sooner than those of that number
pub record Turn (w : Setup) (len : Size) (r : Routes) (hub : ℕ) (offer : Route) (b : ℕ) : Type 0 where
  pub begins : Offered w r hub offer
  pub node : ℕ
  pub known : node < w.graph.nodes
  pub place : w.graph.place node ≡ b
  pub way : List ℕ
  pub routers : AllRouters w.net way
  pub runs : follow w.graph offer.node way ≡ Some node
  pub high : (x : Route) → Offered w r b x → w.graph.number x.node ≤ w.graph.number node
  pub short : (x : Route) → Offered w r b x → w.graph.number x.node ≡ w.graph.number node → len offer.path < len x.path

abbrev pub iterate : (ℕ → ℕ) → ℕ → ℕ → ℕ
iterate f zero b = b
iterate f (suc k) b = f (iterate f k b)

-- from where a place comes again, all do
iterate_again : (f : ℕ → ℕ) (b i j s : ℕ) → iterate f i b ≡ iterate f j b → iterate f (s + i) b ≡ iterate f (s + j) b
iterate_again f b i j zero e =
    let p : zero + i ≡ i = omega arith in
    let q : zero + j ≡ j = omega arith in
    ap (λ k. iterate f k b) p ∙ e ∙ sym (ap (λ k. iterate f k b) q)
iterate_again f b i j (suc s) e =
    let p : suc s + i ≡ suc (s + i) = omega arith in
    let q : suc s + j ≡ suc (s + j) = omega arith in
    ap (λ k. iterate f k b) p ∙ ap f (iterate_again f b i j s e) ∙ sym (ap (λ k. iterate f k b) q)

module _ (w : Setup) (len : Size) (wf : WellFormed w.net w.graph) (ev : Everywhere w.net w.graph) (r : Routes) where
  pub offer_place : (v : ℕ) (x : Route) → Offered w r v x → w.graph.place x.node ≡ v
  offer_place v x o = let a = heard_parts w r v o.from x o.gives in wf.next_place a.from.node v x.node a.step

  pub offer_known : (v : ℕ) (x : Route) → Offered w r v x → (v < w.net.size) × (x.node < w.graph.nodes)
  offer_known v x o = let a = heard_parts w r v o.from x o.gives in let b = wf.next_below a.from.node v x.node a.step in (b.1, b.2)

  module _ (hub : ℕ → ℕ) (offer : ℕ → Route) (turn : (b : ℕ) (x : Route) → Offered w r b x → Turn w len r (hub b) (offer b) b) (v : ℕ) (x : Route) (begin : Offered w r v x) where
    abbrev at : ℕ → ℕ
    at k = iterate hub k v

    -- what is offered to the place that is come to
    abbrev offer_at : ℕ → Route
    offer_at zero = x
    offer_at (suc k) = offer (at k)

    offered : (k : ℕ) → Offered w r (at k) (offer_at k)
    offered zero = begin
    offered (suc k) = (turn (at k) (offer_at k) (offered k)).begins

    abbrev turn_at : (k : ℕ) → Turn w len r (at (suc k)) (offer_at (suc k)) (at k)
    turn_at k = turn (at k) (offer_at k) (offered k)

    -- the node that comes to a place is no worse than what is offered there
    over_offer : (k : ℕ) → AtLeast w.graph (turn_at k).node (offer_at k).node
    over_offer k =
        let o = offered k in
        record {
          known = (turn_at k).known;
          other = (offer_known (at k) (offer_at k) o).1;
          place = (turn_at k).place
              ∙ sym (offer_place (at k) (offer_at k) o);
          number = (turn_at k).high (offer_at k) o;
        }

    -- a later offer reaches, along the turns back, a node no worse than the one that comes to the place
    comes : (d t k : ℕ) → k ≡ suc t + d → (m : ℕ) × Reaches w.graph (offer_at k).node m × AtLeast w.graph m (turn_at t).node
    comes zero t k e =
        let same : suc t ≡ k = omega (arith, e) in
        let a = turn_at t in
        subst (λ j. (m : ℕ) × Reaches w.graph (offer_at j).node m × AtLeast w.graph m a.node) same
        (a.node, (a.way, a.runs), record { known = a.known; other = a.known; place = refl; number = omega arith })
    comes (suc d) t k e =
        let a = turn_at t in
        let c = comes d (suc t) k (omega (arith, e)) in
        let over = over_offer (suc t) in
        let high : AtLeast w.graph c.0 (offer_at (suc t)).node = record { known = c.2.known; other = over.other; place = c.2.place ∙ over.place; number = omega (arith, c.2.number, over.number) } in
        let h = along wf ev a.way c.0 (offer_at (suc t)).node a.node a.routers high a.runs in
        (h.0, (c.1.0 ++ a.way, follow_append w.graph c.1.0 a.way (offer_at k).node c.0 h.0 c.1.1 h.1), h.2)

    -- where an offer is made again, later, what comes to its place has its number
    level : (t k : ℕ) → t < k → offer_at k ≡ offer_at t → w.graph.number (offer_at t).node ≡ w.graph.number (turn_at t).node
    level t k l e =
        let c = comes (k - suc t) t k (omega (arith, l)) in
        let over = over_offer t in
        let o = offered t in
        let here : w.graph.place (offer_at t).node ≡ at t = offer_place (at t) (offer_at t) o in
        let there : w.graph.place c.0 ≡ at t = c.2.place ∙ (turn_at t).place in
        let ro = ap w.net.router there ∙ (chooses_parts w (at t) o.is_open.0).0 in
        let reaches : Reaches w.graph (offer_at t).node c.0 = subst (λ (y : Route). Reaches w.graph y.node c.0) e c.1 in
        let le = no_growth wf ev (offer_at t).node c.0 over.other (here ∙ sym there) ro reaches in
        omega (arith, le, c.2.number, over.number)

    -- so offers would get shorter for ever
    shorter : (i j : ℕ) → i < j → at i ≡ at j → (s : ℕ) → s + len (offer_at (suc s + i)).path ≤ len (offer_at (suc i)).path
    shorter i j l e zero =
        let p : suc i ≡ suc zero + i = omega arith in
        let same : len (offer_at (suc zero + i)).path ≡ len (offer_at (suc i)).path = ap (λ k. len (offer_at k).path) (sym p) in
        omega (arith, same)
    shorter i j l e (suc s) =
        let t = suc (s + i) in
        let again : offer_at (suc (s + j)) ≡ offer_at t = ap offer (sym (iterate_again hub v i j s e)) in
        let even = level t (suc (s + j)) (omega (arith, l)) again in
        let less = (turn_at t).short (offer_at t) (offered t) even in
        let p : suc (suc s) + i ≡ suc t = omega arith in
        let q : suc s + i ≡ t = omega arith in
        let here : len (offer_at (suc (suc s) + i)).path ≡ len (offer_at (suc t)).path = ap (λ k. len (offer_at k).path) p in
        let before : len (offer_at (suc s + i)).path ≡ len (offer_at t).path = ap (λ k. len (offer_at k).path) q in
        omega (arith, shorter i j l e s, less, here, before)

    pub no_round : ⊥
    no_round =
        let c = comes_again w.net.size at (λ k. (offer_known (at k) (offer_at k) (offered k)).0) in
        let s = suc (len (offer_at (suc c.0)).path) in
        let h = shorter c.0 c.1 c.2 c.3 s in
        omega (arith, h)
