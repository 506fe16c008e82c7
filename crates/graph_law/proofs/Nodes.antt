-- The nodes and steps of a graph that is built, by their standings.
use Rattle.std.proofs.Common.{◌≡◌, ◌⊎◌, ℕ, zero, suc, ◌+◌, ◌<◌, ◌≤◌, true, List, [], ◌∷◌, ◌++◌, map, length, slice_get, option_map, flat_map, Some, refl, sym, ap, ◌∙◌, subst, inl, inr, ⊎_elim, arith}
use Rattle.std.proofs.lemmas.List.{length-map}
use Rattle.std.proofs.lemmas.Option.{none-some, same_Some, slice_get-map, slice_get_within}
use Rattle.list_law.proofs.Apart.{Apart}
use Rattle.list_law.proofs.Items.{slice_get_inside, slice_get-append_left}
use Rattle.list_law.proofs.Members.{IsIn-append_left, IsIn-append_right, IsIn-append_cases, IsIn-map, IsIn-map_parts, IsIn-flat_map, IsIn-nil}
use Rattle.list_law.specs.Members.{IsIn}
use Rattle.net_base.specs.Network.{PlainNet}
use Rattle.graph_base.specs.Runs.{place_of, is_start, has_step}
use Rattle.graph_base.proofs.NodesRead.{place_of-node}
use Rattle.walk_states.specs.Built.{place_in, steps_from, node_of, graph_over}
use Rattle.path_exprs.specs.Standings.{Plan, Standing, AreStandings, starts, targets, without_repeats}
use Rattle.net_base.proofs.NumbersBelow.{In-numbers_below, below_from_In}
use Rattle.graph_law.proofs.Standings.{without_repeats_cases, without_repeats_parts, apart_without_repeats, without_repeats-append, without_repeats-apart, slice_get-place_in}
use Rattle.graph_law.proofs.Targets.{Apart-starts}
use Rattle.graph_base.proofs.StartsAndSteps.{start_in, in_start, step_in, in_step}

slice_get-append_cases : (xs ys : List Standing) (i : ℕ) (x : Standing) → slice_get (xs ++ ys) i ≡ Some x → (i < length xs) ⊎ ((length xs ≤ i) × IsIn ys x)
slice_get-append_cases [] ys i x h = inr (omega arith, (i, h))
slice_get-append_cases (z ∷ zs) ys zero x h = inl (omega arith)
slice_get-append_cases (z ∷ zs) ys (suc i) x h =
    ⊎_elim (λ lt. inl (omega arith)) (λ (r : (length zs ≤ i) × IsIn ys x). let le = r.0 in inr (omega arith, r.1)) (slice_get-append_cases zs ys i x h)

pub steps_from_parts : (net : PlainNet) (plan : Plan) (all : List Standing) (k : ℕ) (ys : List Standing) (s : ℕ × ℕ) → IsIn (steps_from net plan all k ys) s →
    (i : ℕ) × (x y : Standing) × (slice_get ys i ≡ Some x) × IsIn (targets net plan x) y × (s.0 ≡ k + i) × (s.1 ≡ place_in all y)
steps_from_parts net plan all k [] s h = absurd (IsIn-nil s h)
steps_from_parts net plan all k (x ∷ ys) s h =
    ⊎_elim
    (λ a. let o = IsIn-map_parts (λ t. (k, place_in all t)) (targets net plan x) s a in
    let from : s.0 ≡ k = ap (λ (r : ℕ × ℕ). r.0) (sym o.2) in
    (0, x, o.0, refl, o.1, omega (arith, from), ap (λ (r : ℕ × ℕ). r.1) (sym o.2)))
    (λ b. let r = steps_from_parts net plan all (k + 1) ys s b in
    let from = r.5 in
    (suc r.0, r.1, r.2, r.3, r.4, omega (arith, from), r.6))
    (IsIn-append_cases (map (λ t. (k, place_in all t)) (targets net plan x)) (steps_from net plan all (k + 1) ys) s h)

pub In-steps_from : (net : PlainNet) (plan : Plan) (all : List Standing) (k : ℕ) (ys : List Standing) (i : ℕ) (x y : Standing) → slice_get ys i ≡ Some x →
    IsIn (targets net plan x) y → IsIn (steps_from net plan all k ys) (k + i, place_in all y)
In-steps_from net plan all k [] i x y h t = absurd (none-some x h)
In-steps_from net plan all k (z ∷ zs) zero x y h t =
    let at : k + zero ≡ k = omega arith in
    IsIn-append_left (map (λ u. (k, place_in all u)) (targets net plan z)) (steps_from net plan all (k + 1) zs) (k + zero, place_in all y)
    (subst (λ j. IsIn {A = ℕ × ℕ} (map (λ u. (k, place_in all u)) (targets net plan z)) (j, place_in all y)) (sym at)
    (IsIn-map (λ u. (k, place_in all u)) (targets net plan z) y (subst (λ w. IsIn (targets net plan w) y) (sym (same_Some z x h)) t)))
In-steps_from net plan all k (z ∷ zs) (suc i) x y h t =
    let at : k + 1 + i ≡ k + suc i = omega arith in
    IsIn-append_right (map (λ u. (k, place_in all u)) (targets net plan z)) (steps_from net plan all (k + 1) zs) (k + suc i, place_in all y)
    (subst (λ j. IsIn (steps_from net plan all (k + 1) zs) (j, place_in all y)) at (In-steps_from net plan all (k + 1) zs i x y h t))

-- the graph over these standings
module _ (net : PlainNet) (plan : Plan) (xs : List Standing) (are : AreStandings net plan xs) where
  pub node_at : (n : ℕ) (x : Standing) → slice_get xs n ≡ Some x → slice_get (graph_over net plan xs).nodes n ≡ Some (node_of net plan x)
  node_at n x h = slice_get-map (node_of net plan) xs n ∙ ap (option_map (node_of net plan)) h

  pub place_at : (n : ℕ) (x : Standing) → slice_get xs n ≡ Some x → place_of (graph_over net plan xs) n ≡ x.at
  place_at n x h = place_of-node (graph_over net plan xs) n (node_of net plan x) (node_at n x h)

  pub standing_at : (n : ℕ) → n < length (graph_over net plan xs).nodes → (x : Standing) × (slice_get xs n ≡ Some x)
  standing_at n lt = slice_get_inside xs n (omega (arith, length-map xs (node_of net plan), lt))

  pub node_within : (n : ℕ) (x : Standing) → slice_get xs n ≡ Some x → n < length (graph_over net plan xs).nodes
  node_within n x h = let lt = slice_get_within xs n x h in omega (arith, length-map xs (node_of net plan), lt)

  pub standings_apart : Apart (λ x y. x ≡ y) xs
  standings_apart = subst (Apart (λ x y. x ≡ y)) (sym are.order) (apart_without_repeats [] (starts net plan ++ flat_map (targets net plan) xs))

  begins : (more : List Standing) × (xs ≡ starts net plan ++ without_repeats more (flat_map (targets net plan) xs))
  begins =
      let r = without_repeats-append [] (starts net plan) (flat_map (targets net plan) xs) in
      let same = without_repeats-apart [] (starts net plan) (Apart-starts net plan) (λ x h k. IsIn-nil x k) in
      (r.0, are.order ∙ r.1 ∙ ap (λ l. l ++ without_repeats r.0 (flat_map (targets net plan) xs)) same)

  pub start_at_front : (n : ℕ) → n < length (starts net plan) → (x : Standing) × (slice_get xs n ≡ Some x) × IsIn (starts net plan) x × (slice_get (starts net plan) n ≡ Some x)
  start_at_front n lt =
      let a = slice_get_inside (starts net plan) n lt in
      let b = begins in
      (a.0, ap (λ l. slice_get l n) b.1 ∙ slice_get-append_left (starts net plan) (without_repeats b.0 (flat_map (targets net plan) xs)) n lt ∙ a.1, (n, a.1), a.1)

  pub start_or_target : (n : ℕ) (x : Standing) → slice_get xs n ≡ Some x → (n < length (starts net plan)) ⊎ ((length (starts net plan) ≤ n) × IsIn (flat_map (targets net plan) xs) x)
  start_or_target n x h =
      let b = begins in
      ⊎_elim inl
      (λ (r : (length (starts net plan) ≤ n) × IsIn (without_repeats b.0 (flat_map (targets net plan) xs)) x). inr (r.0, (without_repeats_parts b.0 (flat_map (targets net plan) xs) x r.1).0))
      (slice_get-append_cases (starts net plan) (without_repeats b.0 (flat_map (targets net plan) xs)) n x (ap (λ l. slice_get l n) (sym b.1) ∙ h))

  pub In-standings : (x : Standing) → IsIn (starts net plan ++ flat_map (targets net plan) xs) x → IsIn xs x
  In-standings x h =
      subst (λ ys. IsIn ys x) (sym are.order)
      (⊎_elim (λ (none : IsIn [] x). absurd (IsIn-nil x none)) (λ k. k) (without_repeats_cases [] (starts net plan ++ flat_map (targets net plan) xs) x h))

  pub In-next : (x y : Standing) → IsIn xs x → IsIn (targets net plan x) y → IsIn xs y
  In-next x y h t = In-standings y (IsIn-append_right (starts net plan) (flat_map (targets net plan) xs) y (IsIn-flat_map (targets net plan) xs x y h t))

  pub start_below : (n : ℕ) → is_start (graph_over net plan xs) n ≡ true → n < length (starts net plan)
  start_below n h = below_from_In n (length (starts net plan)) (start_in (graph_over net plan xs) n h)

  pub start_from_below : (n : ℕ) → n < length (starts net plan) → is_start (graph_over net plan xs) n ≡ true
  start_from_below n lt = in_start (graph_over net plan xs) n (In-numbers_below n (length (starts net plan)) lt)

  pub step_parts : (m n : ℕ) → has_step (graph_over net plan xs) m n ≡ true →
      (x y : Standing) × (slice_get xs m ≡ Some x) × (slice_get xs n ≡ Some y) × IsIn (targets net plan x) y
  step_parts m n h =
      let r = steps_from_parts net plan xs 0 xs (m, n) (step_in (graph_over net plan xs) m n h) in
      let from = r.5 in
      let at : r.0 ≡ m = omega (arith, from) in
      let y-in = In-next r.1 r.2 (r.0, r.3) r.4 in
      (r.1, r.2, ap (slice_get xs) (sym at) ∙ r.3, ap (slice_get xs) r.6 ∙ slice_get-place_in xs r.2 y-in, r.4)

  pub step_made : (m : ℕ) (x y : Standing) → slice_get xs m ≡ Some x → IsIn (targets net plan x) y →
      (n : ℕ) × (slice_get xs n ≡ Some y) × (has_step (graph_over net plan xs) m n ≡ true)
  step_made m x y h t =
      let at : 0 + m ≡ m = omega arith in (
        place_in xs y,
        slice_get-place_in xs y (In-next x y (m, h) t),
        in_step (graph_over net plan xs) m (place_in xs y)
            (subst (λ j. IsIn (steps_from net plan xs 0 xs) (j, place_in xs y)) at (In-steps_from net plan xs 0 xs m x y h t)),
      )
