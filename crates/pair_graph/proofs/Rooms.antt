-- The ways in which walks of pairs go on: each step is one, and where there is no room for one more step there are more than that.
use Rattle.std.proofs.Common.{◌≡◌, ℕ, zero, suc, ◌+◌, ◌<◌, ◌≤◌, List, [], ◌∷◌, ◌++◌, length, map, Some, None, refl, sym, ap, ◌∙◌, subst, arith, inl, inr}
use Rattle.std.specs.Prelude.{◌&&◌, ◌==◌, slice_get, unwrap_or}
use Rattle.std.specs.Option.{option_and_then}
use Rattle.std.proofs.lemmas.Bool.{and_from, and_parts, cases_lt, eq-eqb, eqb-true}
use Rattle.std.proofs.lemmas.List.{length-append, length-map}
use Rattle.std.proofs.lemmas.Option.{slice_get-map, slice_get_within}
use Rattle.list_law.proofs.Items.{from_front, slice_get-there}
use Rattle.list_law.specs.Members.{IsIn}
use Rattle.list_law.proofs.Members.{IsIn-map, list_any-from_IsIn, list_any_member}
use Rattle.list_law.proofs.Options.{is_some_from, option_map_parts}
use Rattle.graph_base.specs.Graphs.{PlainGraph}
use Rattle.pair_graph.specs.declared.pair.NodePair.{NodePair}
use Rattle.pair_graph.specs.Growth.{AreWalks, IsEarlier, IsGrown, IsLink, finder, links}
use Rattle.pair_graph.specs.Pairs.{run_pair, step_pair, walks_of}
use Rattle.pair_graph.specs.Room.{AreWays, GoesOn, PassesRoom}
use Rattle.pair_graph.proofs.WalkPairs.{run_pair_next}

abbrev pub place_of_pair : NodePair → ℕ
place_of_pair x = x.place

-- where none is there again later, none is there twice
apart_from : {A : Type 0} (xs : List A) → ((i j : ℕ) (x : A) → i < j → slice_get xs i ≡ Some x → slice_get xs j ≡ Some x → ⊥) → (i j : ℕ) (x : A)
    → slice_get xs i ≡ Some x → slice_get xs j ≡ Some x → i ≡ j
apart_from xs later i j x at_i at_j = elim (cases_lt i j) [
  | inl less ↦ absurd (later i j x less at_i at_j)
  | inr ge ↦ elim (cases_lt j i) [
    | inl more ↦ absurd (later j i x more at_j at_i)
    | inr le ↦ omega (arith, ge, le)
  ]
]

module _ (g h : PlainGraph) (starts : ℕ) (pairs : List NodePair) (before : List ℕ) (steps : List (ℕ × ℕ)) (k l : ℕ) (walks : AreWalks (walks_of g h))
    (is : IsGrown (walks_of g h) starts pairs before steps k l) where
  -- some walk leads to each pair
  reached_below : (b n : ℕ) (x : NodePair) → n < b → slice_get pairs n ≡ Some x → (i : ℕ) × (ls : List ℕ) × (run_pair g h (i ∷ ls) ≡ Some x)
  reached_below zero n x lt at = absurd (omega (arith, lt))
  reached_below (suc b) n x lt at = elim (cases_lt n starts) [
    | inl less ↦ (x.place, [], is.start n x less at)
    | inr ge ↦ (
        let found = is.found n x ge at in
        let link = is.link (finder before n) n found.step in
        let rest = reached_below b (finder before n) link.from (omega (arith, found.less, lt)) link.at_from in
        let both : Some link.to ≡ Some x = sym link.at_to ∙ at in
        let to : link.to ≡ x = cc in
        (link.to.place, rest.0 ∷ rest.1, run_pair_next g h link.to.place rest.0 rest.1 ∙ ap (option_and_then (λ y. step_pair g h y link.to.place)) rest.2 ∙ link.goes ∙ ap Some to))
  ]

  -- the pair and the location of a step
  abbrev pub pair_at : ℕ → NodePair
  pair_at n = unwrap_or (slice_get pairs n) (record { place = 0; first = None; second = None })

  pair_there : (n : ℕ) (x : NodePair) → slice_get pairs n ≡ Some x → pair_at n ≡ x
  pair_there n x at = ap (λ o. unwrap_or o (record { place = 0; first = None; second = None })) at

  abbrev pub way_of : ℕ × ℕ → NodePair × ℕ
  way_of s = (pair_at s.0, place_of_pair (pair_at s.1))

  link_at : (i : ℕ) (s : ℕ × ℕ) → slice_get steps i ≡ Some s → IsLink (walks_of g h) pairs k l s.0 s.1
  link_at i s got = is.link s.0 s.1 (list_any-from_IsIn (λ (t : ℕ × ℕ). t.0 == s.0 && t.1 == s.1) steps s (i, got) (and_from _ _ (eq-eqb s.0 s.0 refl) (eq-eqb s.1 s.1 refl)))

  -- ---- the ways that the steps go

  abbrev pub ways_of_steps : List (NodePair × ℕ)
  ways_of_steps = map way_of steps

  -- a way is that of a step
  record IsOfStep (i : ℕ) (way : NodePair × ℕ) : Type 0 where
    step : ℕ × ℕ
    at : slice_get steps i ≡ Some step
    link : IsLink (walks_of g h) pairs k l step.0 step.1
    from : link.from ≡ way.0
    place : link.to.place ≡ way.1

  of_step : (i : ℕ) (way : NodePair × ℕ) → slice_get ways_of_steps i ≡ Some way → IsOfStep i way
  of_step i way got =
      let one = option_map_parts way_of (slice_get steps i) way (sym (slice_get-map way_of steps i) ∙ got) in
      let s = one.0 in
      let link = link_at i s one.1 in
      record {
        step = s;
        at = one.1;
        link = link;
        from = sym (pair_there s.0 link.from link.at_from) ∙ ap (λ (v : NodePair × ℕ). v.0) one.2;
        place = ap place_of_pair (sym (pair_there s.1 link.to link.at_to)) ∙ ap (λ (v : NodePair × ℕ). v.1) one.2;
      }

  -- the steps of one pair to one location are one
  not_earlier : (m i n j : ℕ) → m ≡ n → i ≡ j → IsEarlier m i n j → ⊥
  not_earlier m i n j row column (inl lt) = absurd (omega (arith, lt, row))
  not_earlier m i n j row column (inr e) = absurd (omega (arith, e.1, column))

  steps_in_order : (i j : ℕ) (way : NodePair × ℕ) → i < j → slice_get ways_of_steps i ≡ Some way → slice_get ways_of_steps j ≡ Some way → ⊥
  steps_in_order i j way lt got_i got_j =
      let a = of_step i way got_i in
      let b = of_step j way got_j in
      let same : a.step.0 ≡ b.step.0 = is.apart a.step.0 b.step.0 a.link.from a.link.at_from (b.link.at_from ∙ ap Some (b.from ∙ sym a.from)) in
      not_earlier a.step.0 a.link.to.place b.step.0 b.link.to.place same (a.place ∙ sym b.place)
      (is.steps_order i j a.step b.step a.link.to b.link.to lt a.at b.at a.link.at_to b.link.at_to)

  step_taken : (i : ℕ) (way : NodePair × ℕ) → slice_get ways_of_steps i ≡ Some way → GoesOn g h way.0 way.1
  step_taken i way got =
      let a = of_step i way got in
      let lead = reached_below (suc a.step.0) a.step.0 a.link.from (omega arith) a.link.at_from in
      subst (λ z. GoesOn g h z way.1) a.from (subst (GoesOn g h a.link.from) a.place
      (record { path = lead.0 ∷ lead.1; leads = lead.2; on = is_some_from (step_pair g h a.link.from a.link.to.place) a.link.to a.link.goes }))

  pub steps_are_ways : AreWays g h ways_of_steps
  steps_are_ways = record { apart = apart_from ways_of_steps steps_in_order; taken = step_taken }

  -- a step from one pair to another is among them
  pub step_among : (m n : ℕ) (x y : NodePair) → links steps m n → slice_get pairs m ≡ Some x → slice_get pairs n ≡ Some y → IsIn ways_of_steps (x, y.place)
  step_among m n x y has at_m at_n =
      let found = list_any_member (λ (s : ℕ × ℕ). s.0 == m && s.1 == n) steps has in
      let s = found.0 in
      let same = and_parts (s.0 == m) (s.1 == n) found.2 in
      let from : pair_at s.0 ≡ x = ap pair_at (eqb-true s.0 m same.0) ∙ pair_there m x at_m in
      let to : pair_at s.1 ≡ y = ap pair_at (eqb-true s.1 n same.1) ∙ pair_there n y at_n in
      let way : way_of s ≡ (x, y.place) = λ i. (from i, place_of_pair (to i)) in
      subst (IsIn ways_of_steps) way (IsIn-map way_of steps s found.1)

  -- ---- where the pair k goes on at l

  module _ (x y : NodePair) (at : slice_get pairs k ≡ Some x) (goes : step_pair g h x l ≡ Some y) where
    abbrev pub ways : List (NodePair × ℕ)
    ways = ways_of_steps ++ (x, l) ∷ []

    longer : length ways ≡ length steps + 1
    longer = length-append ways_of_steps ((x, l) ∷ []) ∙ ap (λ n. n + 1) (length-map steps way_of)

    of_front : (i : ℕ) (way : NodePair × ℕ) → i < length steps → slice_get ways i ≡ Some way → slice_get ways_of_steps i ≡ Some way
    of_front i way lt got = let size : length ways_of_steps ≡ length steps = length-map steps way_of in from_front ways_of_steps ((x, l) ∷ []) i way got (omega (arith, lt, size))

    of_last : (i : ℕ) (way : NodePair × ℕ) → length steps ≤ i → slice_get ways i ≡ Some way → (i ≡ length steps) × (way ≡ (x, l))
    of_last i way ge got =
        let size : length ways_of_steps ≡ length steps = length-map steps way_of in
        let here : i ≡ length steps = omega (arith, ge, slice_get_within ways i way got, longer) in
        let item : Some way ≡ Some (x, l) = sym got ∙ ap (slice_get ways) (here ∙ sym size) ∙ slice_get-there ways_of_steps (x, l) [] in
        (here, cc)

    in_order : (i j : ℕ) (way : NodePair × ℕ) → i < j → slice_get ways i ≡ Some way → slice_get ways j ≡ Some way → ⊥
    in_order i j way lt got_i got_j =
        let last : j < length ways = slice_get_within ways j way got_j in
        let one = of_front i way (omega (arith, lt, last, longer)) got_i in
        elim (cases_lt j (length steps)) [
          | inl less ↦ steps_in_order i j way lt one (of_front j way less got_j)
          | inr ge ↦ (
              let a = of_step i way one in
              let last_is = of_last j way ge got_j in
              let first : a.link.from ≡ x = a.from ∙ ap (λ (v : NodePair × ℕ). v.0) last_is.1 in
              let there : a.link.to.place ≡ l = a.place ∙ ap (λ (v : NodePair × ℕ). v.1) last_is.1 in
              let same : a.step.0 ≡ k = is.apart a.step.0 k x (a.link.at_from ∙ ap Some first) at in
              not_earlier a.step.0 a.link.to.place k l same there a.link.asked)
        ]

    taken_there : (i : ℕ) (way : NodePair × ℕ) → slice_get ways i ≡ Some way → GoesOn g h way.0 way.1
    taken_there i way got = elim (cases_lt i (length steps)) [
      | inl less ↦ step_taken i way (of_front i way less got)
      | inr ge ↦ (
          let last_is = of_last i way ge got in
          let lead = reached_below (suc k) k x (omega arith) at in
          subst (λ (v : NodePair × ℕ). GoesOn g h v.0 v.1) (sym last_is.1) (record { path = lead.0 ∷ lead.1; leads = lead.2; on = is_some_from (step_pair g h x l) y goes }))
    ]

    pub no_room : (room : ℕ) → room ≤ length steps → PassesRoom g h room
    no_room room full = record { ways = ways; are = record { apart = apart_from ways in_order; taken = taken_there }; more = omega (arith, full, longer) }
