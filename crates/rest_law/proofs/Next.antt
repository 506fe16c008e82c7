-- At each location: no offer, a secure router, or a turn; turns at all of them would go round.
use Rattle.std.proofs.Common.{◌≡◌, ℕ, suc, ◌<◌, ◌≤◌, Bool, true, false, ◌⊎◌, inl, inr, ⊎_elim, [], ◌∷◌, Option, Some, None, eqb, refl, sym, ap, ◌∙◌, subst, arith}
use Rattle.std.proofs.lemmas.Bool.{both_ways, cases_lt, eqb-false, eqb-true}
use Rattle.routing_law.specs.Graph.{MeetsRules, WellFormed, run}
use Rattle.routing_law.specs.Network.{chooses}
use Rattle.routing_law.specs.Outcome.{Route, Routes, Setup, heard}
use Rattle.routing_law.proofs.Heard.{heard_parts}
use Rattle.routing_law.proofs.Rules.{Everywhere, everywhere}
use Rattle.routing_law.proofs.Runs.{place_below}
use Rattle.routing_law.proofs.Sound.{Backed, sound_of}
use Rattle.rest_law.specs.Partial.{Detour, IsOpen, PartlySettled}
use Rattle.rest_law.specs.Sizes.{IsNext, IsSize, NoneSooner, Size, Sooner}
use Rattle.rest_law.proofs.Cycle.{Offered, Turn, no_round, offer_known}
use Rattle.rest_law.proofs.First.{First, first_of}
use Rattle.rest_law.proofs.Sooner.{chained, itself, total}
use Rattle.rest_law.proofs.Search.{arc_through, comes_through, detour_comes, enough, held_open, offered_short, search_below, top}

pub backed_of : (w : Setup) (r : Routes) → PartlySettled w r → Backed w r
backed_of w r ps = record { own = ps.own; none = ps.none; given = ps.given }

module _ (w : Setup) (wf : WellFormed w.net w.graph) (r : Routes) (bk : Backed w r) where
  pub giver_below : (v u : ℕ) (x : Route) → heard w r v u ≡ Some x → u < w.net.size
  giver_below v u x h =
      let a = heard_parts w r v u x h in
      let s = sound_of w r bk u a.from a.has in
      place_below wf s.rest u a.from.node (subst (λ p. run w.graph p ≡ Some a.from.node) s.begins s.runs)

module _ (w : Setup) (len : Size) (sized : IsSize w len) (wf : WellFormed w.net w.graph) (r : Routes) (bk : Backed w r) where
  abbrev FirstOf : (ℕ → Option Route) → ℕ → Type 0
  FirstOf = First (NoneSooner w len) (itself w len) (total w len) (chained w len)

  -- at b the node n, with so many locations behind it, comes after x
  abbrev After : ℕ → Route → ℕ → ℕ → Type 0
  After b x size n = w.graph.place n ≡ b → comes_through w len r size n ≡ true → (w.graph.number n < w.graph.number x.node) ⊎ ((w.graph.number n ≡ w.graph.number x.node) × (len x.path < suc size))

  -- or it doesn't
  record NotAfter (b : ℕ) (x : Route) (size n : ℕ) : Type 0 where
    place : w.graph.place n ≡ b
    comes : comes_through w len r size n ≡ true
    high : w.graph.number x.node ≤ w.graph.number n
    short : w.graph.number x.node ≡ w.graph.number n → suc size ≤ len x.path

  after_or_not : (b : ℕ) (x : Route) (size n : ℕ) → After b x size n ⊎ NotAfter b x size n
  after_or_not b x size n =
      by (eqb (w.graph.place n) b) refl (comes_through w len r size n) refl (cases_lt (w.graph.number n) (w.graph.number x.node))
      (cases_lt (w.graph.number x.node) (w.graph.number n)) (cases_lt (len x.path) (suc size))
    where
      by : (i : Bool) → eqb (w.graph.place n) b ≡ i → (j : Bool) → comes_through w len r size n ≡ j
          → (w.graph.number n < w.graph.number x.node) ⊎ (w.graph.number x.node ≤ w.graph.number n)
          → (w.graph.number x.node < w.graph.number n) ⊎ (w.graph.number n ≤ w.graph.number x.node)
          → (len x.path < suc size) ⊎ (suc size ≤ len x.path) → After b x size n ⊎ NotAfter b x size n
      by false e j f k l m = inl (λ at c. absurd (eqb-false (w.graph.place n) b e at))
      by true e false f k l m = inl (λ at c. absurd (both_ways _ f c))
      by true e true f (inl k) l m = inl (λ at c. inl k)
      by true e true f (inr k) (inl l) m = inr (record { place = eqb-true (w.graph.place n) b e; comes = f; high = k; short = λ s. absurd (omega (arith, l, s)) })
      by true e true f (inr k) (inr l) (inl m) = inl (λ at c. inr (omega (arith, k, l), m))
      by true e true f (inr k) (inr l) (inr m) = inr (record { place = eqb-true (w.graph.place n) b e; comes = f; high = k; short = λ s. m })

  abbrev bound : ℕ
  bound = (enough w len sized wf r bk).bound

  -- all that comes to b by open routers comes after x, or something doesn't
  all_after : (b : ℕ) (x : Route) → ((size : ℕ) → size < bound → (n : ℕ) → n < w.graph.nodes → After b x size n) ⊎ ((size n : ℕ) × (n < w.graph.nodes) × NotAfter b x size n)
  all_after b x =
      let a =
      search_below (λ size. (n : ℕ) → n < w.graph.nodes → After b x size n) (λ size. (n : ℕ) × (n < w.graph.nodes) × NotAfter b x size n) bound
      (λ size. search_below (After b x size) (NotAfter b x size) w.graph.nodes (after_or_not b x size)) in
      ⊎_elim (λ h. inl h) (λ h. inr (h.0, h.2.0, h.2.1, h.2.2)) a

  secure_at : (b : ℕ) → IsOpen w r b → (f : FirstOf (heard w r b) w.net.size) → ((size : ℕ) → size < bound → (n : ℕ) → n < w.graph.nodes → After b f.route size n) → IsNext w len r b f.route
  secure_at b o f all = record {
    is_open = o;
    from = f.from;
    gives = f.gives;
    first = λ u y h. f.first u y (giver_below w wf r bk b u y h) h;
    before = before;
  }
    where
      no_longer : len f.route.path ≤ top w len sized wf r bk
      no_longer =
          let a = heard_parts w r b f.from f.route f.gives in
          let here = (wf.next_below a.from.node b f.route.node a.step).1 in
          let short = offered_short w len sized wf r bk b f.from a.from here f.below a.has in
          let same : len f.route.path ≡ len (b ∷ a.from.path) = ap len a.path in
          omega (arith, short, same)

      before : (y : Route) → Detour w r b y → Sooner w len f.route y
      before y d =
          let size = len (d.by ∷ d.rest) in
          let long : len y.path ≡ suc size = ap len d.path ∙ sized.grows b d.by d.rest (held_open w len sized wf r bk d.by d.rest d.node d.held).0 in
          let known = (wf.next_below d.node b y.node d.step).2 in
          let at = wf.next_place d.node b y.node d.step in
          let comes = detour_comes w len sized wf r bk b y o d in
          ⊎_elim (λ l.
          let a = all size l y.node known at comes in
          ⊎_elim (λ m. inl m) (λ m. inr (m.0, omega (arith, m.1, long))) a)
          (λ l.
          let e = (enough w len sized wf r bk).all size y.node comes in
          let a = all e.0 e.1 y.node known at e.2 in
          ⊎_elim (λ m. inl m) (λ m. inr (m.0, omega (arith, no_longer, (enough w len sized wf r bk).over, l, long))) a)
          (cases_lt size bound)

  pub record Turning (b : ℕ) : Type 0 where
    pub hub : ℕ
    pub offer : Route
    pub turn : Turn w len r hub offer b

  turning_at : (b : ℕ) → (f : FirstOf (heard w r b) w.net.size) → (size n : ℕ) → n < w.graph.nodes → NotAfter b f.route size n → Turning b
  turning_at b f size n known c =
      let a = arc_through w len sized wf r bk size n c.comes in
      record {
        hub = a.hub;
        offer = a.offer;
        turn = record {
          begins = a.begins;
          node = n;
          known = known;
          place = c.place;
          way = a.way;
          routers = a.routers;
          runs = a.runs;
          high = λ y o. let first = f.first o.from y (giver_below w wf r bk b o.from y o.gives) o.gives in omega (arith, first.number, c.high);
          short = λ y o same.
              let first = f.first o.from y (giver_below w wf r bk b o.from y o.gives) o.gives in
              let even : w.graph.number y.node ≡ w.graph.number f.route.node = omega (arith, first.number, c.high, same) in
              let level : w.graph.number f.route.node ≡ w.graph.number n = omega (arith, even, same) in
              omega (arith, first.shorter even, c.short level, a.size_is, a.hops);
        };
      }

  abbrev pub Quiet : ℕ → Type 0
  Quiet b = (x : Route) → Offered w r b x → ⊥

  abbrev Secured : ℕ → Type 0
  Secured b = (x : Route) × IsNext w len r b x

  abbrev View : ℕ → Type 0
  View b = Quiet b ⊎ (Secured b ⊎ Turning b)

  view : (b : ℕ) → View b
  view b = by_open (chooses w.net w.alive b) refl (r b) refl
    where
      by_all : IsOpen w r b → (f : FirstOf (heard w r b) w.net.size)
          → ((size : ℕ) → size < bound → (n : ℕ) → n < w.graph.nodes → After b f.route size n) ⊎ ((size n : ℕ) × (n < w.graph.nodes) × NotAfter b f.route size n)
          → View b
      by_all o f (inl all) = inr (inl (f.route, secure_at b o f all))
      by_all o f (inr c) = inr (inr (turning_at b f c.0 c.1 c.2 c.3))

      by_first : IsOpen w r b → ((u : ℕ) → u < w.net.size → heard w r b u ≡ None) ⊎ FirstOf (heard w r b) w.net.size → View b
      by_first o (inl none) = inl (λ x a. let z = sym (none a.from (giver_below w wf r bk b a.from x a.gives)) ∙ a.gives in absurd (cc))
      by_first o (inr f) = by_all o f (all_after b f.route)

      by_open : (c : Bool) → chooses w.net w.alive b ≡ c → (o : Option Route) → r b ≡ o → View b
      by_open false e o f = inl (λ x a. absurd (both_ways _ e a.is_open.0))
      by_open true e (Some y) f = inl (λ x a. let z = sym a.is_open.1 ∙ f in absurd (cc))
      by_open true e None f = by_first (e, f) (first_of (NoneSooner w len) (itself w len) (total w len) (chained w len) (heard w r b) w.net.size)

  abbrev hub_of : (b : ℕ) → View b → ℕ
  hub_of b (inl a) = b
  hub_of b (inr (inl a)) = b
  hub_of b (inr (inr t)) = t.hub

  abbrev offer_of : (b : ℕ) → View b → Route
  offer_of b (inl a) = record { path = []; node = 0 }
  offer_of b (inr (inl a)) = record { path = []; node = 0 }
  offer_of b (inr (inr t)) = t.offer

  abbrev Turns : (b : ℕ) → View b → Type 0
  Turns b c = (x : Route) → Offered w r b x → Turn w len r (hub_of b c) (offer_of b c) b

  turns_or_secured : (b : ℕ) (c : View b) → Turns b c ⊎ Secured b
  turns_or_secured b (inl quiet) = inl (λ x o. absurd (quiet x o))
  turns_or_secured b (inr (inl a)) = inr a
  turns_or_secured b (inr (inr t)) = inl (λ x o. t.turn)

  pub somebody : Everywhere w.net w.graph → (v : ℕ) (x : Route) → Offered w r v x → (z : ℕ) × (y : Route) × IsNext w len r z y
  somebody ev v x o = by (search_below (λ b. Turns b (view b)) Secured w.net.size (λ b. turns_or_secured b (view b)))
    where
      by : ((b : ℕ) → b < w.net.size → Turns b (view b)) ⊎ ((b : ℕ) × (b < w.net.size) × Secured b) → (z : ℕ) × (y : Route) × IsNext w len r z y
      by (inr s) = (s.0, s.2.0, s.2.1)
      by (inl turns) = absurd (no_round w len wf ev r (λ b. hub_of b (view b)) (λ b. offer_of b (view b)) (λ b y a. turns b (offer_known w len wf ev r b y a).0 y a) v x o)

  pub next_secure : Everywhere w.net w.graph → (b : ℕ) → Quiet b ⊎ ((z : ℕ) × (y : Route) × IsNext w len r z y)
  next_secure ev b = by (view b)
    where
      by : View b → Quiet b ⊎ ((z : ℕ) × (y : Route) × IsNext w len r z y)
      by (inl quiet) = inl quiet
      by (inr (inl a)) = inr (b, a.0, a.1)
      by (inr (inr t)) = inr (somebody ev t.hub t.offer t.turn.begins)

pub some_router_is_next : (w : Setup) (size : Size) (r : Routes) → IsSize w size → WellFormed w.net w.graph → MeetsRules w.net w.graph → PartlySettled w r → (v u : ℕ) (x : Route) → IsOpen w r v
    → heard w r v u ≡ Some x → (z : ℕ) × (y : Route) × IsNext w size r z y
some_router_is_next w size r sized wf rules ps v u x o h = somebody w size sized wf r (backed_of w r ps) (everywhere w.net w.graph wf rules) v x (record { is_open = o; from = u; gives = h })
