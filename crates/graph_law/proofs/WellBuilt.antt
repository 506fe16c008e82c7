-- The graph that is built is well formed.
use Rattle.std.proofs.Common.{◌≡◌, ℕ, ◌+◌, ◌<◌, ◌≤◌, true, false, not, ◌&&◌, ◌||◌, ◌==◌, IsTrue, nat_eq, List, [], ◌∷◌, map, length, slice_get, flat_map, Some, refl, sym}
use Rattle.std.proofs.Common.{ap, ◌∙◌, subst, inl, inr, ⊎_elim, arith, eqb-true}
use Rattle.std.proofs.lemmas.Bool.{and_parts, and_from, or_cases, not-true, false≢true}
use Rattle.std.proofs.lemmas.Option.{same_Some}
use Rattle.list_law.proofs.Apart.{Apart, Apart-append, Apart-weaken, Apart-map, IsDistinct-from_apart, place_is_one}
use Rattle.list_law.proofs.Members.{IsIn-map_parts, IsIn-flat_map_parts, IsIn-later, list_any_member, AllByRecursion-from_IsIn}
use Rattle.list_law.specs.Members.{IsIn}
use Rattle.list_law.proofs.Truth.{same_tests}
use Rattle.net_base.specs.Network.{PlainNet, is_peer, is_router, linked}
use Rattle.net_base.specs.NetSets.{locations}
use Rattle.path_exprs.specs.Runs.{start_of}
use Rattle.graph_base.specs.Graphs.{IsGraph}
use Rattle.graph_base.specs.Runs.{place_of, is_start, has_step}
use Rattle.graph_base.specs.Rules.{IsWellFormed, same_pair}
use Rattle.walk_states.specs.Built.{place_in, steps_from, node_of, graph_over}
use Rattle.path_exprs.specs.Standings.{Plan, Standing, AreStandings, starts, moved, targets, is_dead, same_standing}
use Rattle.net_base.specs.Locations.{numbers_below}
use Rattle.graph_base.specs.Walks.{IsEnteredFromBefore}
use Rattle.graph_base.proofs.NodesRead.{is_listener-node}
use Rattle.net_base.proofs.NumbersBelow.{below_from_In, Apart-numbers_below}
use Rattle.graph_law.proofs.Standings.{slice_get-place_in}
use Rattle.graph_law.proofs.Targets.{IsBegin, IsNext, begin_from_In, next_from_In, Apart-targets}
use Rattle.net_base.proofs.RoutersAndPeers.{peer_no_router}
use Rattle.graph_law.proofs.Nodes.{node_at, place_at, standing_at, standings_apart, start_at_front, start_or_target, In-next, start_below, start_from_below, step_parts}
use Rattle.graph_law.proofs.Nodes.{step_made, steps_from_parts, node_within}
use Rattle.graph_base.proofs.StartsAndSteps.{in_step}
use Rattle.walk_states.proofs.SameStandings.{same-equal}

-- what `may_go` says
pub record Goes (net : PlainNet) (plan : Plan) (x : Standing) (y : Standing) : Type 0 where
  pub link : linked net x.at y.at ≡ true
  pub no_origin : plan.origin y.at ≡ false
  pub inside : (is_router net y.at || not plan.external) ≡ true
  pub alive : is_dead y.left ≡ false

pub goes_parts : (net : PlainNet) (plan : Plan) (x y : Standing) → IsNext net plan x y → Goes net plan x y
goes_parts net plan x y h =
    let a = and_parts (linked net x.at y.at && not (plan.origin y.at) && (is_router net y.at || not plan.external)) _ h.goes in
    let b = and_parts (linked net x.at y.at && not (plan.origin y.at)) _ a.0 in
    let c = and_parts (linked net x.at y.at) _ b.0 in
    record {
      link = c.0;
      no_origin = not-true (plan.origin y.at) c.1;
      inside = b.1;
      alive = ap (λ (s : Standing). is_dead s.left) h.moves ∙ not-true _ a.1;
    }

-- a target's place is its location
abbrev ArePlaced : PlainNet → Plan → List Standing → List Standing → Type 0
ArePlaced net plan xs ys = (x y : Standing) → IsIn ys x → IsIn (targets net plan x) y → place_of (graph_over net plan xs) (place_in xs y) ≡ y.at

-- steps of one node to one location
abbrev AreAlike : PlainNet → Plan → List Standing → ℕ × ℕ → ℕ × ℕ → Type 0
AreAlike net plan xs s t = same_pair (s.0, place_of (graph_over net plan xs) s.1) (t.0, place_of (graph_over net plan xs) t.1) ≡ true

alike_parts : (net : PlainNet) (plan : Plan) (xs : List Standing) (s t : ℕ × ℕ) → AreAlike net plan xs s t →
    (s.0 ≡ t.0) × (place_of (graph_over net plan xs) s.1 ≡ place_of (graph_over net plan xs) t.1)
alike_parts net plan xs s t h =
    let parts = and_parts (s.0 == t.0) (place_of (graph_over net plan xs) s.1 == place_of (graph_over net plan xs) t.1) h in
    (eqb-true s.0 t.0 parts.0, eqb-true (place_of (graph_over net plan xs) s.1) (place_of (graph_over net plan xs) t.1) parts.1)

rows_apart : (net : PlainNet) (plan : Plan) (xs : List Standing) (k : ℕ) (ys : List Standing) → ArePlaced net plan xs ys →
    Apart (AreAlike net plan xs) (steps_from net plan xs k ys)
rows_apart net plan xs k [] placed = tt
rows_apart net plan xs k (x ∷ ys) placed =
    Apart-append (AreAlike net plan xs) row (steps_from net plan xs (k + 1) ys)
    (Apart-map (λ (y : Standing) (z : Standing). y.at ≡ z.at) (AreAlike net plan xs) (λ t. (k, place_in xs t)) (targets net plan x) (Apart-targets net plan x) back)
    (rows_apart net plan xs (k + 1) ys (λ y z h t. placed y z (IsIn-later x y ys h) t))
    cross
  where
    row : List (ℕ × ℕ)
    row = map (λ t. (k, place_in xs t)) (targets net plan x)

    back : (y z : Standing) → IsIn (targets net plan x) y → IsIn (targets net plan x) z → AreAlike net plan xs (k, place_in xs y) (k, place_in xs z) → y.at ≡ z.at
    back y z h t e = sym (placed x y (0, refl) h) ∙ (alike_parts net plan xs (k, place_in xs y) (k, place_in xs z) e).1 ∙ placed x z (0, refl) t

    cross : (s t : ℕ × ℕ) → IsIn row s → IsIn (steps_from net plan xs (k + 1) ys) t → AreAlike net plan xs s t → ⊥
    cross s t h h' e =
        let here : s.0 ≡ k = ap (λ (r : ℕ × ℕ). r.0) (sym (IsIn-map_parts (λ u. (k, place_in xs u)) (targets net plan x) s h).2) in
        let later = (steps_from_parts net plan xs (k + 1) ys t h').5 in
        let both = (alike_parts net plan xs s t e).0 in
        omega (arith, here, later, both)

module _ (net : PlainNet) (plan : Plan) (xs : List Standing) (are : AreStandings net plan xs) where
  target_no_origin : (x : Standing) → IsIn (flat_map (targets net plan) xs) x → plan.origin x.at ≡ false
  target_no_origin x h =
      let r = IsIn-flat_map_parts (targets net plan) xs x h in
      (goes_parts net plan r.0 x (next_from_In net plan r.0 x r.2)).no_origin

  pub start_at_origin : (n : ℕ) (x : Standing) → slice_get xs n ≡ Some x → is_start (graph_over net plan xs) n ≡ true → IsBegin net plan x
  start_at_origin n x h s =
      let a = start_at_front net plan xs are n (start_below net plan xs are n s) in
      let same : a.0 ≡ x = same_Some a.0 x (sym a.1 ∙ h) in
      subst (IsBegin net plan) same (begin_from_In net plan a.0 a.2)

  pub origin_start : (n : ℕ) (x : Standing) → slice_get xs n ≡ Some x → is_start (graph_over net plan xs) n ≡ plan.origin x.at
  origin_start n x h =
      same_tests (is_start (graph_over net plan xs) n) (plan.origin x.at)
      (λ s. (start_at_origin n x h s).origin)
      (λ o. ⊎_elim (λ lt. start_from_below net plan xs are n lt)
      (λ (r : (length (starts net plan) ≤ n) × IsIn (flat_map (targets net plan) xs) x). absurd (false≢true (sym (target_no_origin x r.1) ∙ o)))
      (start_or_target net plan xs are n x h))

  starts_differ : (i j : ℕ) → IsIn (numbers_below (length (starts net plan))) i → IsIn (numbers_below (length (starts net plan))) j →
      nat_eq (place_of (graph_over net plan xs) i) (place_of (graph_over net plan xs) j) ≡ true → i ≡ j
  starts_differ i j h k e =
      let a = start_at_front net plan xs are i (below_from_In i (length (starts net plan)) h) in
      let b = start_at_front net plan xs are j (below_from_In j (length (starts net plan)) k) in
      let at : a.0.at ≡ b.0.at = sym (place_at net plan xs are i a.0 a.1) ∙ eqb-true _ _ e ∙ place_at net plan xs are j b.0 b.1 in
      let same : a.0 ≡ b.0 =
      (begin_from_In net plan a.0 a.2).moves ∙ ap (moved (start_of (locations net) plan.expressions)) at ∙ sym (begin_from_In net plan b.0 b.2).moves
      in
      place_is_one xs (standings_apart net plan xs are) i j b.0 (a.1 ∙ ap Some same) b.1

  placed : ArePlaced net plan xs xs
  placed x y h t = place_at net plan xs are (place_in xs y) y (slice_get-place_in xs y (In-next net plan xs are x y h t))

  into_peer : (y : Standing) → (is_router net y.at || not plan.external) ≡ true → is_peer net y.at ≡ true → plan.external ≡ false
  into_peer y inside peer =
      ⊎_elim (λ r. absurd (false≢true (sym (peer_no_router net y.at peer) ∙ r))) (λ e. not-true plan.external e)
      (or_cases (is_router net y.at) (not plan.external) inside)

  pub well_formed : IsWellFormed net plan.origin plan.external (graph_over net plan xs)
  well_formed = record {
    starts = λ n h.
        let a = start_at_front net plan xs are n (start_below net plan xs are n h) in
        ap plan.origin (place_at net plan xs are n a.0 a.1) ∙ (begin_from_In net plan a.0 a.2).origin;
    one_start =
        IsDistinct-from_apart nat_eq (place_of (graph_over net plan xs)) (numbers_below (length (starts net plan)))
        (Apart-weaken (λ (i : ℕ) (j : ℕ). i ≡ j) _ (numbers_below (length (starts net plan))) (Apart-numbers_below (length (starts net plan))) starts_differ);
    alone = λ n lt o.
        let s = standing_at net plan xs are n lt in
        origin_start n s.0 s.1 ∙ ap plan.origin (sym (place_at net plan xs are n s.0 s.1)) ∙ o;
    links = λ m n h.
        let p = step_parts net plan xs are m n h in
        let goes = goes_parts net plan p.0 p.1 (next_from_In net plan p.0 p.1 p.4) in
        and_from _ _ ((λ i. linked net (place_at net plan xs are m p.0 p.2 i) (place_at net plan xs are n p.1 p.3 i)) ∙ goes.link)
        (ap not (origin_start n p.1 p.3 ∙ goes.no_origin));
    one_step = IsDistinct-from_apart same_pair (λ (s : ℕ × ℕ). (s.0, place_of (graph_over net plan xs) s.1)) (steps_from net plan xs 0 xs) (rows_apart net plan xs 0 xs placed);
    from = λ m n h.
        let p = step_parts net plan xs are m n h in
        (λ i. origin_start m p.0 p.2 i || is_router net (place_at net plan xs are m p.0 p.2 i)) ∙ (next_from_In net plan p.0 p.1 p.4).sends;
    into = λ m n h.
        let parts = and_parts (has_step (graph_over net plan xs) m n) _ h in
        let p = step_parts net plan xs are m n parts.0 in
        into_peer p.1 (goes_parts net plan p.0 p.1 (next_from_In net plan p.0 p.1 p.4)).inside (ap (is_peer net) (sym (place_at net plan xs are n p.1 p.3)) ∙ parts.1);
    listeners = λ n lt.
        let s = standing_at net plan xs are n lt in
        is_listener-node (graph_over net plan xs) n (node_of net plan s.0) (node_at net plan xs are n s.0 s.1)
        ∙ sym (λ i. is_peer net (place_at net plan xs are n s.0 s.1 i) && not (origin_start n s.0 s.1 i));
  }

  pub entered : IsEnteredFromBefore (graph_over net plan xs)
  entered n lt =
      let s = standing_at net plan xs are n lt in
      ⊎_elim (λ below. inl (start_from_below net plan xs are n below))
      (λ (r : (length (starts net plan) ≤ n) × IsIn (flat_map (targets net plan) xs) s.0). inr (from_before s.0 s.1 r.0))
      (start_or_target net plan xs are n s.0 s.1)
    where
      from_before : (x : Standing) → slice_get xs n ≡ Some x → length (starts net plan) ≤ n → (m : ℕ) × (m < n) × IsTrue (has_step (graph_over net plan xs) m n)
      from_before x h le =
          let e = are.earlier n x le h in
          let t = list_any_member (same_standing x) (targets net plan e.1) e.4 in
          let made = step_made net plan xs are e.0 e.1 x e.3 (subst (λ z. IsIn (targets net plan e.1) z) (sym (same-equal x t.0 t.2)) t.1) in
          let at : made.0 ≡ n = place_is_one xs (standings_apart net plan xs are) made.0 n x made.1 h in
          (e.0, e.2, ap (has_step (graph_over net plan xs) e.0) (sym at) ∙ made.2)

  pub named : length (graph_over net plan xs).nodes ≤ 4294967000 → IsGraph (graph_over net plan xs)
  named few = record {
    count = few;
    starts = AllByRecursion-from_IsIn (λ n. n < length (graph_over net plan xs).nodes) (numbers_below (length (starts net plan))) start_named;
    steps = AllByRecursion-from_IsIn (λ (s : ℕ × ℕ). (s.0 < length (graph_over net plan xs).nodes) × (s.1 < length (graph_over net plan xs).nodes)) (steps_from net plan xs 0 xs) step_named;
  }
    where
      start_named : (n : ℕ) → IsIn (numbers_below (length (starts net plan))) n → n < length (graph_over net plan xs).nodes
      start_named n h =
          let a = start_at_front net plan xs are n (below_from_In n (length (starts net plan)) h) in
          node_within net plan xs are n a.0 a.1

      step_named : (s : ℕ × ℕ) → IsIn (steps_from net plan xs 0 xs) s → (s.0 < length (graph_over net plan xs).nodes) × (s.1 < length (graph_over net plan xs).nodes)
      step_named s h =
          let p = step_parts net plan xs are s.0 s.1 (in_step (graph_over net plan xs) s.0 s.1 h) in
          (node_within net plan xs are s.0 p.0 p.2, node_within net plan xs are s.1 p.1 p.3)
