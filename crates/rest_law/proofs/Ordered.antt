-- The order in which the routers of a graph settle is one of the speakers.
use Rattle.std.proofs.Common.{◌≡◌, ℕ, ◌<◌, ◌+◌, zero, suc, Bool, true, false, not, ◌||◌, ◌⊎◌, eqb, List, [], ◌∷◌, length, Option, Some, None, refl, sym, ap, ◌∙◌, subst, inl, inr, arith}
use Rattle.std.specs.Prelude.{if◌then◌else◌}
use Rattle.std.specs.List.{list_any}
use Rattle.std.specs.Option.{option_map}
use Rattle.std.proofs.lemmas.Bool.{and_parts, both_ways, cases_Bool, cond-true, cond-false, eqb-true, eq-eqb, false_from_ne_true, true_from_ne_false, not-false, or_cases, or_left, or_parts, or_right}
use Rattle.list_law.proofs.Options.{cases_Option}
use Rattle.event_base.specs.World.{Speakers, World, at, live, running}
use Rattle.rest_law.specs.Orders.{AreChoosers, Comes, Comes as comes, IsFirst, IsOrder, IsUnreached, Order, Takes, at_rest, rests, said}
use Rattle.routing_law.specs.Graph.{WellFormed, MeetsRules}
use Rattle.routing_law.specs.Network.{NamesDiffer, chooses, stands_on}
use Rattle.routing_law.specs.Outcome.{FullyStable, Route, Routes, Setup, heard, own_route}
use Rattle.routing_law.proofs.Heard.{Heard, chooses_parts, heard_parts, own_parts}
use Rattle.routing_law.proofs.Sound.{route_is, sound_of}
use Rattle.rest_law.specs.Partial.{CanHold, IsCandidate, IsOpen, IsSecure, PartlySettled, SettlingOrder, at_first, settled_with}
use Rattle.rest_law.proofs.Candidates.{firm_comes_first, given_are_candidates, nothing_is_left}
use Rattle.rest_law.proofs.Search.{held_runs, in_length}
use Rattle.rest_law.proofs.Secure.{backed_of}
use Rattle.rest_law.proofs.Stages.{routers_settle_in_order}
use Rattle.rest_law.proofs.Graphs.{AreOfGraph, Runs, Steps, held_in, stepped}

abbrev down_from : ℕ → List ℕ
down_from zero = []
down_from (suc n) = n ∷ down_from n

is_below : (n u : ℕ) → u < n → list_any (eqb u) (down_from n) ≡ true
is_below zero u l = absurd (omega (arith, l))
is_below (suc n) u l = elim (cases_Bool (eqb u n)) [
  | inl here ↦ or_left (eqb u n) (list_any (eqb u) (down_from n)) here
  | inr there ↦ or_right (eqb u n) (list_any (eqb u) (down_from n)) (is_below n u (let apart : u ≡ n → ⊥ = λ e. both_ways (eqb u n) there (eq-eqb u n e) in less u n l apart))
]
  where
    less : (u n : ℕ) → u < suc n → (u ≡ n → ⊥) → u < n
    less u n l apart = grind (arith, l, apart)

module _ {R : Type 0} (net : Speakers R) (w : World R) (takes : Takes R) (no_later : Order R) (size : R → ℕ) (choosers : AreChoosers net takes no_later size) (setup : Setup) (route_of : Route → R)
    (of_graph : AreOfGraph net w takes no_later setup route_of) (differ : NamesDiffer setup.net) (formed : WellFormed setup.net setup.graph) (s : Routes) where
  abbrev outcome : ℕ → Option R
  outcome = held_in net w route_of s

  abbrev Chooses : ℕ → Type 0
  Chooses r = chooses setup.net setup.alive r ≡ true

  -- S is those that rest, those that are settled, and maybe more that hold nothing in the outcome
  pub record Covers (S : ℕ → Bool) (r : Routes) : Type 0 where
    pub rest : (x : ℕ) → rests net w x ≡ true → S x ≡ true
    pub settled : (x : ℕ) (y : Route) → r x ≡ Some y → S x ≡ true
    pub back : (x : ℕ) → S x ≡ true → (rests net w x ≡ true) ⊎ ((rests net w x ≡ false) × (r x ≡ s x))

  at_rester : (x : ℕ) → rests net w x ≡ true → outcome x ≡ at_rest net w x
  at_rester x t = cond-true (rests net w x) (at_rest net w x) (option_map route_of (s x)) t

  at_chooser : (x : ℕ) → rests net w x ≡ false → outcome x ≡ option_map route_of (s x)
  at_chooser x f = cond-false (rests net w x) (at_rest net w x) (option_map route_of (s x)) f

  module _ (S : ℕ → Bool) (r : Routes) (covers : Covers S r) (partly : PartlySettled setup r) where
    not_rester : (x : ℕ) → S x ≡ false → rests net w x ≡ false
    not_rester x f = false_from_ne_true (rests net w x) (λ t. both_ways (S x) f (covers.rest x t))

    open_at : (x : ℕ) → S x ≡ false → IsOpen setup r x
    open_at x f = (
      of_graph.chooser x (not_rester x f),
      elim (cases_Option (r x)) [
        | inl none ↦ none
        | inr y ↦ absurd (both_ways (S x) f (covers.settled x y.0 y.1))
      ],
    )

    runs_at : (x : ℕ) (y : Route) → r x ≡ Some y → Runs setup x y
    runs_at x y e = (let a = sound_of setup r (backed_of setup r partly) x y e in record { rest = a.rest; begins = a.begins; runs = a.runs })

    -- what comes to v can be held in the graph, and is a candidate
    pub record Holds (v u : ℕ) (h : R) : Type 0 where
      pub path : List ℕ
      pub node : ℕ
      pub is : h ≡ route_of (record { path = v ∷ u ∷ path; node = node })
      pub held : CanHold setup r (v ∷ u ∷ path) node
      pub candidate : IsCandidate setup r v (record { path = v ∷ u ∷ path; node = node })

    holds_of : (v u : ℕ) (h : R) (y : Route) (rest : List ℕ) (m : ℕ) → y.path ≡ u ∷ rest → IsOpen setup r v → Steps setup u v y m
        → h ≡ route_of (stepped v y m) → (r u ≡ Some y) ⊎ CanHold setup r y.path y.node → Holds v u h
    holds_of v u h y rest m begins opens steps is from =
        let whole : (r u ≡ Some (record { path = u ∷ rest; node = y.node })) ⊎ CanHold setup r (u ∷ rest) y.node = elim from [
          | inl e ↦ inl (e ∙ ap Some (route_is y (u ∷ rest) begins))
          | inr c ↦ inr (subst (λ (z : List ℕ). CanHold setup r z y.node) begins c)
        ] in
        record {
          path = rest;
          node = m;
          is = is ∙ ap (λ (z : List ℕ). route_of (record { path = v ∷ z; node = m })) begins;
          held = (opens, steps.carries, (y.node, steps.step, whole));
          candidate = given_are_candidates setup r v u y.node m rest steps.carries (ap (stands_on v) (sym begins) ∙ steps.off) steps.step whole;
        }

    comes_held : (v u : ℕ) (h : R) → S v ≡ false → Comes net w takes outcome S v u h → Holds v u h
    comes_held v u h off (comes.settled among on t) = elim (covers.back u among) [
      | inl rest ↦ (
          let a = of_graph.own_down u v h rest (open_at v off).0 on (ap (λ (z : Option R). takes v u (said net w u v z)) (sym (at_rester u rest)) ∙ t) in
          let has : r u ≡ Some a.1.0 = partly.own u a.0 ∙ a.1.2 in
          holds_of v u h a.1.0 [] a.1.1 a.1.3 (open_at v off) a.1.4 a.1.5 (inl has))
      | inr known ↦ elim (cases_Option (s u)) [
        | inl none ↦ (
            let router : net.is_router u ≡ true = (and_parts (net.is_router u) (not (w.down u)) (not-false (running net w u) (or_parts (not (running net w u)) _ known.0).0)).0 in
            let nothing : outcome u ≡ None = at_chooser u known.0 ∙ ap (option_map route_of) none in
            let sent : said net w u v None ≡ None = cond-true (net.is_router u) (net.export u v None) (if w.silent v u then None else net.announced u) router ∙ choosers.unsent u v in
            let no : None ≡ Some h = sym (ap (λ (z : Option R). takes v u (said net w u v z)) nothing ∙ ap (takes v u) sent ∙ choosers.untaken v u) ∙ t in
            absurd (cc))
        | inr y ↦ (
            let has : r u ≡ Some y.0 = known.1 ∙ y.1 in
            let there : outcome u ≡ Some (route_of y.0) = at_chooser u known.0 ∙ ap (option_map route_of) y.1 in
            let runs = runs_at u y.0 has in
            let a = of_graph.down u v y.0 h (of_graph.chooser u known.0) (open_at v off).0 runs on (ap (λ (z : Option R). takes v u (said net w u v z)) (sym there) ∙ t) in
            holds_of v u h y.0 runs.rest a.0 runs.begins (open_at v off) a.1 a.2 (inl has))
      ]
    ]
    comes_held v u h off (comes.further {z = z} {g = g} other c on t) =
        let b = comes_held u z g other c in
        let y : Route = record { path = u ∷ z ∷ b.path; node = b.node } in
        let runs : Runs setup u y = record { rest = z ∷ b.path; begins = refl; runs = held_runs setup (λ q. length q) (in_length setup) formed r (backed_of setup r partly) (u ∷ z ∷ b.path) b.node b.held } in
        let a = of_graph.down u v y h (open_at u other).0 (open_at v off).0 runs on (ap (λ (k : R). takes v u (said net w u v (Some k))) (sym b.is) ∙ t) in
        holds_of v u h y (z ∷ b.path) a.0 refl (open_at v off) a.1 a.2 (inr b.held)

    -- a router that is secure is first
    module _ (v : ℕ) (x : Route) (secure : IsSecure setup r v x) (holds : s v ≡ Some x) where
      chooser_here : rests net w v ≡ false
      chooser_here = of_graph.rester v secure.is_open.0

      pub off_here : S v ≡ false
      off_here = false_from_ne_true (S v) (λ t. elim (covers.back v t) [
        | inl rest ↦ both_ways (rests net w v) chooser_here rest
        | inr known ↦ (let e : None ≡ Some x = sym secure.is_open.1 ∙ known.1 ∙ holds in absurd (cc))
      ])

      -- its giver is settled
      pub record Gives : Type 0 where
        pub rest : List ℕ
        pub begins : x.path ≡ v ∷ secure.from ∷ rest
        pub among : S secure.from ≡ true
        pub lives : live net w secure.from v ≡ true
        pub takes_it : takes v secure.from (said net w secure.from v (outcome secure.from)) ≡ Some (route_of x)

      gives : Gives
      gives = elim (cases_Bool (setup.net.origin secure.from)) [
        | inl origin ↦ (
            let own : own_route setup secure.from ≡ Some a.from = sym (partly.own secure.from origin) ∙ a.has in
            let b = of_graph.own_up secure.from v a.from x.node origin own secure.is_open.0 steps in
            let path = (own_parts setup secure.from a.from own).2 in
            record {
              rest = [];
              begins = a.path ∙ ap (λ (z : List ℕ). v ∷ z) path;
              among = covers.rest secure.from b.0;
              lives = b.1;
              takes_it = ap (λ (z : Option R). takes v secure.from (said net w secure.from v z)) (at_rester secure.from b.0) ∙ b.2 ∙ ap Some (sym is);
            })
        | inr other ↦ elim (cases_Bool (chooses setup.net setup.alive secure.from)) [
          | inr none ↦ (let e : None ≡ Some a.from = sym (partly.none secure.from other none) ∙ a.has in absurd (cc))
          | inl choosing ↦ (
              let runs = runs_at secure.from a.from a.has in
              let b = of_graph.up secure.from v a.from x.node choosing secure.is_open.0 runs steps in
              let among = covers.settled secure.from a.from a.has in
              let there : outcome secure.from ≡ Some (route_of a.from) = elim (covers.back secure.from among) [
                | inl rest ↦ absurd (both_ways (rests net w secure.from) (of_graph.rester secure.from choosing) rest)
                | inr known ↦ at_chooser secure.from known.0 ∙ ap (option_map route_of) (sym known.1 ∙ a.has)
              ] in
              record {
                rest = runs.rest;
                begins = a.path ∙ ap (λ (z : List ℕ). v ∷ z) runs.begins;
                among = among;
                lives = b.0;
                takes_it = ap (λ (z : Option R). takes v secure.from (said net w secure.from v z)) there ∙ b.1 ∙ ap Some (sym is);
              })
        ]
      ]
        where
          a : Heard setup r v secure.from x
          a = heard_parts setup r v secure.from x secure.gives

          steps : Steps setup secure.from v a.from x.node
          steps = record { carries = a.carries; off = a.off; step = a.step }

          is : route_of x ≡ route_of (stepped v a.from x.node)
          is = ap route_of (route_is x (v ∷ a.from.path) a.path)

      pub is_first : IsFirst net w takes no_later outcome S v
      is_first = record {
        giver = secure.from;
        route = route_of x;
        holds = at_chooser v chooser_here ∙ ap (option_map route_of) holds;
        among = gives.among;
        lives = gives.lives;
        takes_it = gives.takes_it;
        first = λ u h c later.
            let b = comes_held v u h off_here c in
            let y : Route = record { path = v ∷ u ∷ b.path; node = b.node } in
            let both = firm_comes_first setup r differ formed partly v secure.from x y secure.firm secure.gives b.candidate in
            let late = of_graph.order v u secure.from y x b.path gives.rest refl gives.begins (subst (λ (k : R). no_later (u, k) (secure.from, route_of x)) b.is later) in
            b.is ∙ ap route_of (both.1 late);
      }

      pub with_it : Covers (λ z. S z || at v z) (settled_with r v x)
      with_it = record {
        rest = λ u t. or_left (S u) (at v u) (covers.rest u t);
        settled = λ u y e. elim (cases_Bool (at v u)) [
          | inl here ↦ or_right (S u) (at v u) here
          | inr there ↦ or_left (S u) (at v u) (covers.settled u y (sym (cond-false (at v u) (Some x) (r u) there) ∙ e))
        ];
        back = λ u t. elim (cases_Bool (at v u)) [
          | inl here ↦ (
              let same : u ≡ v = eqb-true u v here in
              inr (ap (rests net w) same ∙ chooser_here, cond-true (at v u) (Some x) (r u) here ∙ sym holds ∙ ap s (sym same)))
          | inr there ↦ elim (or_cases (S u) (at v u) t) [
            | inr here ↦ absurd (both_ways (at v u) there here)
            | inl old ↦ elim (covers.back u old) [
              | inl rest ↦ inl rest
              | inr known ↦ inr (known.0, cond-false (at v u) (Some x) (r u) there ∙ known.1)
            ]
          ]
        ];
      }

  abbrev AnOrder : (ℕ → Bool) → Type 0
  AnOrder S = (vs : List ℕ) × IsOrder net w takes no_later outcome S vs

  -- ---- when the outcome is settled, nothing comes to the others

  module _ (r : Routes) (partly : PartlySettled setup r) (stable : FullyStable setup s) (all : (v : ℕ) → r v ≡ s v) where
    ended : (v u : ℕ) (x : Route) → IsOpen setup r v → heard setup r v u ≡ Some x → ⊥
    ended v u x opens h =
        let same : r ≡ s = λ i v. all v i in
        let b = stable.stable.best v u x opens.0 (ap (λ (q : Routes). heard setup q v u) (sym same) ∙ h) in
        let e : None ≡ Some b.0 = sym opens.1 ∙ all v ∙ b.1 in
        absurd (cc)

    finish : (vs : List ℕ) (S : ℕ → Bool) → Covers S r → ((u : ℕ) → S u ≡ false → list_any (eqb u) vs ≡ true) → AnOrder S
    finish [] S covers there = ([], λ u. true_from_ne_false (S u) (λ f. both_ways false refl (there u f)))
    finish (v ∷ vs) S covers there = elim (cases_Bool (S v)) [
      | inl known ↦ finish vs S covers (λ u f. elim (or_cases (eqb u v) (list_any (eqb u) vs) (there u f)) [
        | inl here ↦ absurd (both_ways (S u) f (ap S (eqb-true u v here) ∙ known))
        | inr later ↦ later
      ])
      | inr off ↦ (
          let opens = open_at S r covers partly v off in
          let resting = not_rester S r covers partly v off in
          let unreached : IsUnreached net w takes no_later outcome S v = record {
            holds = at_chooser v resting ∙ ap (option_map route_of) (sym (all v) ∙ opens.1);
            never = λ u h c. (let b = comes_held S r covers partly v u h off c in nothing_is_left setup r partly ended (v ∷ u ∷ b.path) b.node b.held);
          } in
          let more : Covers (λ z. S z || at v z) r = record {
            rest = λ u t. or_left (S u) (at v u) (covers.rest u t);
            settled = λ u y e. or_left (S u) (at v u) (covers.settled u y e);
            back = λ u t. elim (or_cases (S u) (at v u) t) [
              | inl old ↦ covers.back u old
              | inr here ↦ (let same : u ≡ v = eqb-true u v here in inr (ap (rests net w) same ∙ resting, all u))
            ];
          } in
          let rest = finish vs (λ z. S z || at v z) more (λ u f.
          let parts = or_parts (S u) (at v u) f in
          elim (or_cases (eqb u v) (list_any (eqb u) vs) (there u parts.0)) [
            | inl here ↦ absurd (both_ways (at v u) parts.1 here)
            | inr later ↦ later
          ]) in
          (v ∷ rest.0, (off, inr unreached, rest.1)))
    ]

  -- ---- from stage to stage

  module _ (stable : FullyStable setup s) (order : SettlingOrder setup s) where
    walk : (k i : ℕ) → i + k ≡ order.count → (S : ℕ → Bool) → Covers S (order.stage i) → AnOrder S
    walk zero i here S covers =
        let at_end : i ≡ order.count = omega (arith, here) in
        finish (order.stage i) (order.firm i (omega (arith, here))).partly stable (λ v. ap (λ (j : ℕ). order.stage j v) at_end ∙ order.ends v) (down_from setup.net.size) S covers
        (λ u f. is_below setup.net.size u (of_graph.below u (open_at S (order.stage i) covers (order.firm i (omega (arith, here))).partly u f).0))
    walk (suc k) i here S covers =
        let a = order.next i (omega (arith, here)) in
        let partly = (order.firm i (omega (arith, here))).partly in
        let off = off_here S (order.stage i) covers partly a.0 a.1 a.2 a.3 in
        let first = is_first S (order.stage i) covers partly a.0 a.1 a.2 a.3 in
        let next = subst (Covers (λ z. S z || at a.0 z)) (sym a.4) (with_it S (order.stage i) covers partly a.0 a.1 a.2 a.3) in
        let rest = walk k (suc i) (omega (arith, here)) (λ z. S z || at a.0 z) next in
        (a.0 ∷ rest.0, (off, inl first, rest.1))

    at_start : Covers (rests net w) (at_first setup)
    at_start = record {
      rest = λ x t. t;
      settled = λ x y e. true_from_ne_false (rests net w x) (λ f. (
          let c = chooses_parts setup x (of_graph.chooser x f) in
          let none : None ≡ Some y = sym (cond-false (setup.net.origin x) (own_route setup x) None c.2) ∙ e in
          absurd (cc)));
      back = λ x t. inl t;
    }

    pub an_order : AnOrder (rests net w)
    an_order = walk order.count 0 (omega arith) (rests net w) (subst (Covers (rests net w)) (sym order.begins) at_start)

  pub ordered : MeetsRules setup.net setup.graph → FullyStable setup s → AnOrder (rests net w)
  ordered meets stable = an_order stable (routers_settle_in_order setup s differ formed meets stable)

-- ---- speakers that take nothing

module _ {R : Type 0} (net : Speakers R) (w : World R) (takes : Takes R) (no_later : Order R) (bound : ℕ)
    (below : (r : ℕ) → net.is_router r ≡ true → r < bound) (nothing : (r u : ℕ) (o : Option R) → takes r u o ≡ None) where
  abbrev pub bare : ℕ → Option R
  bare r = if rests net w r then at_rest net w r else None

  never : (S : ℕ → Bool) (v u : ℕ) (h : R) → Comes net w takes bare S v u h → ⊥
  never S v u h (comes.settled {x = x} among on t) = (let no : None ≡ Some h = sym (nothing v x (said net w x v (bare x))) ∙ t in absurd (cc))
  never S v u h (comes.further {x = x} {g = g} other c on t) = (let no : None ≡ Some h = sym (nothing v x (said net w x v (Some g))) ∙ t in absurd (cc))

  add : (vs : List ℕ) (S : ℕ → Bool) → ((x : ℕ) → rests net w x ≡ true → S x ≡ true) → ((u : ℕ) → S u ≡ false → list_any (eqb u) vs ≡ true) → (ws : List ℕ) × IsOrder net w takes no_later bare S ws
  add [] S all there = ([], λ u. true_from_ne_false (S u) (λ f. both_ways false refl (there u f)))
  add (v ∷ vs) S all there = elim (cases_Bool (S v)) [
    | inl known ↦ add vs S all (λ u f. elim (or_cases (eqb u v) (list_any (eqb u) vs) (there u f)) [
      | inl here ↦ absurd (both_ways (S u) f (ap S (eqb-true u v here) ∙ known))
      | inr later ↦ later
    ])
    | inr off ↦ (
        let resting = false_from_ne_true (rests net w v) (λ t. both_ways (S v) off (all v t)) in
        let unreached : IsUnreached net w takes no_later bare S v = record { holds = cond-false (rests net w v) (at_rest net w v) None resting; never = never S v } in
        let rest = add vs (λ z. S z || at v z) (λ x t. or_left (S x) (at v x) (all x t)) (λ u f.
        let parts = or_parts (S u) (at v u) f in
        elim (or_cases (eqb u v) (list_any (eqb u) vs) (there u parts.0)) [
          | inl here ↦ absurd (both_ways (at v u) parts.1 here)
          | inr later ↦ later
        ]) in
        (v ∷ rest.0, (off, inr unreached, rest.1)))
  ]

  pub bare_order : (ws : List ℕ) × IsOrder net w takes no_later bare (rests net w) ws
  bare_order = add (down_from bound) (rests net w) (λ x t. t) (λ u f.
      let runs = not-false (running net w u) (or_parts (not (running net w u)) _ f).0 in
      is_below bound u (below u (and_parts (net.is_router u) (not (w.down u)) runs).0))
