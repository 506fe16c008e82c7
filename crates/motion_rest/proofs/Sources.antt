-- After a round each router has chosen over what its neighbours had to say at some time since the round's start, and after so many rounds
-- the numbers behind each route are those that the peer at its end says now.
use Rattle.std.proofs.Common.{◌≡◌, ℕ, ◌<◌, ◌≤◌, ◌+◌, zero, suc, Bool, true, false, ◌⊎◌, List, [], ◌∷◌, length, Option, Some, None, refl, sym, ap, ◌∙◌, subst, inl, inr, arith}
use Rattle.std.specs.Prelude.{◌&&◌, not, if◌then◌else◌}
use Rattle.std.specs.Option.{option_and_then}
use Rattle.std.proofs.lemmas.Bool.{and_parts, and_right, cases_Bool, cond-true, cond-false, not-true, true≢false}
use Rattle.list_law.proofs.Options.{none_or_some}
use Rattle.net_base.specs.Network.{PlainNet, IsNet, is_peer, is_router, linked}
use Rattle.net_base.specs.Prefixes.{PlainPrefix, IsPrefix}
use Rattle.net_base.proofs.Links.{linked_flips, linked_known}
use Rattle.net_base.proofs.RoutersAndPeers.{router_or_peer}
use Rattle.policy_base.specs.Policies.{PlainPolicy, IsPolicyOf}
use Rattle.policy_base.specs.Governing.{is_origin}
use Rattle.config_base.specs.Configs.{PlainConfig}
use Rattle.config_base.specs.Lines.{class_of, own_route}
use Rattle.evidence_base.specs.Made.{PlainCaseEvidence}
use Rattle.outcome_base.specs.Announcements.{Announced, FullRoute, Sent, given_under, sent_under, taken_under}
use Rattle.outcome_base.specs.Outcomes.{Failures, is_live, is_silent, no_failures}
use Rattle.evidence_law.specs.Passes.{Passes}
use Rattle.settled_law.proofs.SettledLaw.{CaseFound}
use Rattle.routing_law.specs.Graph as graph
use Rattle.outcome_law.proofs.Inside.{given-parts, router-sends, taken-parts}
use Rattle.event_law.proofs.Offers.{lines_here}
use Rattle.motion_law.specs.Ever.{MayHold}
use Rattle.motion_law.specs.Ever.{MayHold as may}
use Rattle.motion_law.specs.Motion.{Motion, Move, choice_of, gift, has_to_say, live_in, picked}
use Rattle.motion_law.specs.Rounds.{IsCalm, IsRound, Schedule, stepped, world_at}
use Rattle.motion_law.proofs.Ever.{fine}
use Rattle.motion_law.proofs.Kept.{IsKept}
use Rattle.motion_law.proofs.Memory.{dead_since, fresh_since, live_at}
use Rattle.motion_law.proofs.Within.{AreKinds, moved-kinds}
use Rattle.motion_rest.proofs.Choices.{picked_some, top_parts}
use Rattle.motion_rest.proofs.Match.{G, Good, IsFineAt, full_held, gift_given, live_same}
use Rattle.motion_rest.proofs.Still.{Made, made, marks_at, chooses_own, chooses_picked}
use Rattle.motion_rest.specs.Rest.{IsScenarioIn, full_of}

module _ (net : PlainNet) (policy : PlainPolicy) (config : PlainConfig) (cs : List PlainCaseEvidence) (rules : IsNet net)
    (kept : IsPolicyOf net policy) (passes : Passes net policy config cs) (p : PlainPrefix) (prefix : IsPrefix p)
    (c : CaseFound net policy config cs rules kept passes no_failures p) (f : Failures) (w : Motion) (scenario : IsScenarioIn net w f)
    (s : Schedule) (calm : IsCalm s) (keeps : IsKept net policy config p w) (kinds : AreKinds net policy config p rules w)
    (time : ℕ → ℕ) (grows : (k : ℕ) → time k ≤ time (suc k)) (count : ℕ) (rounds : (k : ℕ) → k < count → IsRound net policy config p s w (time k) (time (suc k))) where
  abbrev pub X : ℕ → Motion
  X t = world_at net policy config p s w t

  kinds_at : (t : ℕ) → AreKinds net policy config p rules (X t)
  kinds_at zero = kinds
  kinds_at (suc t) = by (s t) (kinds_at t)
    where
      by : (o : Option Move) → AreKinds net policy config p rules (X t) → AreKinds net policy config p rules (stepped net policy config p o (X t))
      by None k = k
      by (Some m) k = moved-kinds net policy config p rules m (X t) k

  pub fine_at : (t r : ℕ) (x : FullRoute) → (X t).route r ≡ Some x → IsFineAt net policy config cs rules kept passes p prefix c f w scenario r x
  fine_at t r x e = fine net policy config cs rules kept passes p prefix c r x ((kinds_at t).route r x e)

  pub later : (i d : ℕ) → time i ≤ time (i + d)
  later i zero = (let e : i ≡ i + 0 = omega arith in subst (λ k. time i ≤ time k) e (omega arith))
  later i (suc d) = (let e : suc (i + d) ≡ i + suc d = omega arith in subst (λ k. time i ≤ time k) e (omega (arith, later i d, grows (i + d))))

  down_at : (t r : ℕ) → (X t).down r ≡ w.down r
  down_at t r = ap (λ (h : ℕ → Bool). h r) (marks_at net policy config p s calm w keeps t).down

  abbrev Gr : graph.Graph
  Gr = G net policy config cs rules kept passes p prefix c f w scenario

  abbrev given : ℕ → ℕ → ℕ → Option FullRoute
  given t u r = given_under net config f w.says p (full_of net (X t)) u r

  -- ---- the choice that a router holds after a round

  module _ (i : ℕ) (within : i < count) where
    abbrev pub round : IsRound net policy config p s w (time i) (time (suc i))
    round = rounds i within

    abbrev pub MadeAt : ℕ → ℕ → Type 0
    MadeAt t r = Made net policy config p s calm w keeps (time i) (time (suc i)) round t r

    pub made_at : (r : ℕ) → is_router net r ≡ true → (t : ℕ) → time (suc i) ≤ t → MadeAt t r
    made_at = made net policy config p s calm w keeps (time i) (time (suc i)) round

    -- a router that chooses holds what it picked then
    pub made_picked : (r t : ℕ) (m : MadeAt t r) → is_router net r ≡ true → w.down r ≡ false → is_origin net policy p r ≡ false → (X t).route r ≡ picked net policy config p (X m.time) r m.by
    made_picked r t m router up other = m.is ∙ chooses_picked net policy config p (X m.time) r m.by router (down_at m.time r ∙ up) other

    -- what r makes of what it has heard from u by then is what it is given at some time since the round's start, or u is cut off
    pub record From (now u r : ℕ) : Type 0 where
      pub live : is_live net f u r ≡ true
      pub then' : ℕ
      pub since_start : time i ≤ then'
      pub is : gift net policy config p (X now) r u ≡ given_under net config f w.says p (full_of net (X then')) u r

    pub from_at : (now u r : ℕ) → round.all_heard ≤ now → linked net r u ≡ true → From now u r ⊎ ((is_live net f u r ≡ false) × (gift net policy config p (X now) r u ≡ None))
    from_at now u r late on = elim (cases_Bool (live_in net policy config p w u r)) [
      | inl t ↦ (
          let q = fresh_since net policy config p s calm w keeps (time i) (time (suc i)) round u r t
          (λ m. (j : ℕ) × (time i ≤ j) × (m ≡ has_to_say net policy config p (X j) u r)) (λ j l. (j, l, refl)) now late in
          let said = q.0 in
          let lives : is_live net f u r ≡ true =
          live_same net policy config p f w scenario (X said.0) (marks_at net policy config p s calm w keeps said.0) u r ∙ live_at net policy config p s calm w keeps said.0 u r ∙ t in
          inl (record {
            live = lives;
            then' = said.0;
            since_start = said.1;
            is = gift_given net policy config p f w scenario (X said.0) (marks_at net policy config p s calm w keeps said.0) (X now) r u rules lives said.2;
          }))
      | inr off ↦ (
          let none = dead_since net policy config p s calm w keeps (time i) (time (suc i)) round u r (linked_flips net u r ∙ on) off now late in
          let dead : is_live net f u r ≡ false = live_same net policy config p f w scenario w (marks_at net policy config p s calm w keeps 0) u r ∙ off in
          inr (dead, unheard now u r none (class_of config p)))
    ]
      where
        unheard : (now u r : ℕ) → (X now).heard u r ≡ None → (k : Option ℕ) → option_and_then (λ class. option_and_then (taken_under net config class r u) ((X now).heard u r)) k ≡ None
        unheard now u r none None = refl
        unheard now u r none (Some class) = ap (option_and_then (taken_under net config class r u)) none

  -- ---- after the first round origins hold their own

  pub good_at : 0 < count → (t : ℕ) → time 1 ≤ t → Good net policy config cs rules kept passes p prefix c f w scenario (X t)
  good_at one t l = record {
    marks = marks_at net policy config p s calm w keeps t;
    fine = fine_at t;
    own = λ r router up origin. (let m = made_at 0 one r router t l in m.is ∙ chooses_own net policy config p (X m.time) r m.by router (down_at m.time r ∙ up) origin);
  }

  -- ---- the numbers behind a route

  abbrev said_behind : Option Announced → List ℕ
  said_behind None = []
  said_behind (Some a) = a.behind

  -- what stands behind a path: what the peer at its end says to the router before it
  abbrev pub tail : List ℕ → List ℕ
  tail [] = []
  tail (r ∷ []) = []
  tail (r ∷ u ∷ []) = if is_peer net u then said_behind (w.says u r) else []
  tail (r ∷ u ∷ z ∷ q) = tail (u ∷ z ∷ q)

  -- of all routes of at most k places
  abbrev pub AreCurrent : ℕ → ℕ → Type 0
  AreCurrent k t = (r : ℕ) (x : FullRoute) → is_origin net policy p r ≡ false → (X t).route r ≡ Some x → length x.route.path ≤ k → x.behind ≡ tail x.route.path

  longer : (r : ℕ) (x : FullRoute) → IsFineAt net policy config cs rules kept passes p prefix c f w scenario r x → is_origin net policy p r ≡ false
      → (u : ℕ) × (rest : List ℕ) × (x.route.path ≡ r ∷ u ∷ rest)
  longer r x fine other = by (fine.other other).rest (fine.other other).begins (fine.other other).runs
    where
      by : (rest : List ℕ) → x.route.path ≡ r ∷ rest → graph.run Gr x.route.path ≡ Some (fine.other other).node → (u : ℕ) × (rest : List ℕ) × (x.route.path ≡ r ∷ u ∷ rest)
      by (u ∷ rest) begins runs = (u, rest, begins)
      by [] begins runs =
          let start = ap (graph.run Gr) (sym begins) ∙ runs in
          absurd (true≢false (sym ((lines_here net policy config cs rules kept passes p no_failures c).formed.start_origin r (fine.other other).node start) ∙ other))

  -- an origin holds its own route, with nothing behind
  own_held : (r : ℕ) (x : FullRoute) → is_origin net policy p r ≡ true → MayHold net policy config p r x → x ≡ record { route = own_route net config p r; behind = [] }
  own_held r x o (may.own who) = refl
  own_held r x o (may.of_peer peer k a who at_peer here takes) = absurd (true≢false (sym o ∙ not-true _ (and_parts (is_router net r) (not (is_origin net policy p r)) who).1))
  own_held r x o (may.of_router u k y s who at_router held here out takes) = absurd (true≢false (sym o ∙ not-true _ (and_parts (is_router net r) (not (is_origin net policy p r)) who).1))

  -- what is given is as current as the giver's route
  pub current_given : (k t u r : ℕ) (x : FullRoute) → is_router net r ≡ true → AreCurrent k t → given t u r ≡ Some x → length x.route.path ≤ suc k → x.behind ≡ tail x.route.path
  current_given k t u r x router current e short =
      let g = given-parts net policy config f w.says p (full_of net (X t)) u r x e in
      let m = taken-parts net config g.1 r u g.3 x g.5 in
      let link = (and_parts _ _ (and_parts _ _ (and_parts _ _ g.0).0).0).0 in
      elim (cases_Bool (is_peer net u)) [
        | inl peer ↦ of_peer g.3 m.1 m.2 peer (is_silent f r u) refl (w.says u r) refl g.4
        | inr off ↦ of_router g.3 m.1 m.2 off (router_or_peer net u (linked_known net u r rules link).0 off) g.4
      ]
    where
      of_peer : (m : Sent) → x.route.path ≡ r ∷ m.path → x.behind ≡ m.behind → is_peer net u ≡ true → (b : Bool) → is_silent f r u ≡ b → (o : Option Announced) → w.says u r ≡ o
          → sent_under net config f w.says p (full_of net (X t)) u r ≡ Some m → x.behind ≡ tail x.route.path
      of_peer m path behind peer true q o a e = (let clash : None ≡ Some m = sym (rw (q, peer) refl) ∙ e in absurd (cc))
      of_peer m path behind peer false q None a e = (let clash : None ≡ Some m = sym (rw (q, a, peer) refl) ∙ e in absurd (cc))
      of_peer m path behind peer false q (Some o) a e =
          let same : Some (record { path = u ∷ []; behind = o.behind; tag = o.tag }) ≡ Some m = sym (rw (q, a, peer) refl) ∙ e in
          let one : record { path = u ∷ []; behind = o.behind; tag = o.tag } ≡ m = cc in
          let here : x.route.path ≡ r ∷ u ∷ [] = path ∙ ap (λ (z : Sent). r ∷ z.path) (sym one) in
          let there : tail (r ∷ u ∷ []) ≡ o.behind = cond-true (is_peer net u) (said_behind (w.says u r)) [] peer ∙ ap said_behind a in
          behind ∙ ap (λ (z : Sent). z.behind) (sym one) ∙ sym there ∙ ap tail (sym here)

      of_router : (m : Sent) → x.route.path ≡ r ∷ m.path → x.behind ≡ m.behind → is_peer net u ≡ false → is_router net u ≡ true
          → sent_under net config f w.says p (full_of net (X t)) u r ≡ Some m → x.behind ≡ tail x.route.path
      of_router m path behind off router' e =
          let from = router-sends net policy config f w.says p (full_of net (X t)) u r m off e in
          let at : (X t).route u ≡ Some from.0 = sym (full_held net (X t) u router') ∙ from.1 in
          let here : x.route.path ≡ r ∷ from.0.route.path = path ∙ ap (λ (q : List ℕ). r ∷ q) from.2 in
          elim (cases_Bool (is_origin net policy p u)) [
            | inl o ↦ (
                let one = own_held u from.0 o ((kinds_at t).route u from.0 at) in
                let place : x.route.path ≡ r ∷ u ∷ [] = here ∙ ap (λ (z : FullRoute). r ∷ z.route.path) one in
                behind ∙ from.3 ∙ ap (λ (z : FullRoute). z.behind) one ∙ sym (cond-false (is_peer net u) (said_behind (w.says u r)) [] off) ∙ ap tail (sym place))
            | inr o ↦ (
                let l = longer u from.0 (fine_at t u from.0 at) o in
                let few : length from.0.route.path ≤ k = (let n : length x.route.path ≡ suc (length from.0.route.path) = ap length here in omega (arith, n, short)) in
                let same : tail (r ∷ from.0.route.path) ≡ tail from.0.route.path = ap (λ (q : List ℕ). tail (r ∷ q)) l.2 ∙ ap tail (sym l.2) in
                behind ∙ from.3 ∙ current u from.0 o at few ∙ sym same ∙ ap tail (sym here))
          ]

  -- with each round those of one place more
  pub current_after : (k : ℕ) → k ≤ count → (t : ℕ) → time k ≤ t → AreCurrent (suc k) t
  current_after zero within t late r x other e short =
      let l = longer r x (fine_at t r x e) other in
      let long : length x.route.path ≡ suc (suc (length l.1)) = ap length l.2 in
      absurd (omega (arith, long, short))
  current_after (suc k) within t late r x other e short = elim (cases_Bool (w.down r)) [
    | inl off ↦ (
        let router = (fine_at t r x e).router in
        let m = made_at k begun r router t late in
        let none : choice_of net policy config p (X m.time) r m.by ≡ None = cond-false (is_router net r && not ((X m.time).down r)) _ None (and_right (is_router net r) _ (ap not (down_at m.time r ∙ off))) in
        absurd (none_or_some ((X t).route r) x (m.is ∙ none) e))
    | inr up ↦ (
        let router = (fine_at t r x e).router in
        let m = made_at k begun r router t late in
        let pick : picked net policy config p (X m.time) r m.by ≡ Some x = sym (made_picked k begun r t m router up other) ∙ e in
        let top = picked_some net policy config p rules (X m.time) r m.by x pick in
        let on = (top_parts net policy config p rules (X m.time) r top.0 top.1).0 in
        by router top.0 m.time top.2 (current_after k (omega (arith, within))) (from_at k begun m.time top.0 r m.late on))
  ]
    where
      begun : k < count
      begun = omega (arith, within)

      by : is_router net r ≡ true → (u now : ℕ) → gift net policy config p (X now) r u ≡ Some x → ((t : ℕ) → time k ≤ t → AreCurrent (suc k) t)
          → From k begun now u r ⊎ ((is_live net f u r ≡ false) × (gift net policy config p (X now) r u ≡ None)) → x.behind ≡ tail x.route.path
      by router u now g before (inr none) = absurd (none_or_some (gift net policy config p (X now) r u) x none.1 g)
      by router u now g before (inl from) =
          current_given (suc k) from.then' u r x router (before from.then' from.since_start) (sym from.is ∙ g) short
