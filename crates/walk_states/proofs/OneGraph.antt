-- One graph is built of a plan, and it holds all that walks reach.
use Rattle.std.proofs.Common.{◌≡◌, ℕ, zero, suc, ◌+◌, ◌<◌, ◌≤◌, false, List, [], ◌∷◌, ◌++◌, take, drop, length, Some, inl, inr, refl, sym, ap, subst, ◌∙◌, arith, append_assoc}
use Rattle.std.specs.Prelude.{slice_get}
use Rattle.std.specs.List.{flat_map, AllByRecursion, IsDistinct}
use Rattle.std.proofs.lemmas.Bool.{cases_lt, false≢true}
use Rattle.std.proofs.lemmas.Grind.{flat_map-append}
use Rattle.std.proofs.lemmas.List.{take_all, take-append-drop, take-append-le, length-map}
use Rattle.std.proofs.lemmas.Map.Keys.{IsDistinct-head, IsDistinct-tail}
use Rattle.std.proofs.lemmas.Map.Made.{length-le_from_is_member}
use Rattle.list_law.proofs.Items.{slice_get-append_left}
use Rattle.net_base.specs.Network.{PlainNet}
use Rattle.graph_base.specs.Graphs.{PlainGraph}
use Rattle.net_base.specs.NetSets.{locations}
use Rattle.path_exprs.specs.Runs.{start_of}
use Rattle.walk_states.specs.Built.{IsBuilt, graph_over, node_of}
use Rattle.path_exprs.specs.Standings.{AreStandings, Plan, Standing, same_standing, starts, targets, AreReached, PassesStates}
use Rattle.walk_states.specs.Growth.{gathered}
use Rattle.walk_states.proofs.SameStandings.{Among, among-first, among-head, among-later, equal-same, standings_equivalence}
use Rattle.walk_states.proofs.Gathering.{among-left, among-right, among-slice_get, gathered-among, gathered-append, gathered-distinct, gathered-extends, past-append, without_repeats-gathered}
use Rattle.walk_states.proofs.Starting.{gathered-starts}

module _ (net : PlainNet) (plan : Plan) where
  next : Standing → List Standing
  next = targets net plan

  -- what is gathered of the starts and of the targets of these
  found : List Standing → List Standing
  found zs = gathered [] (starts net plan ++ flat_map (targets net plan) zs)

  found-all : (xs : List Standing) → AreStandings net plan xs → xs ≡ found xs
  unfolding found
  found-all xs s = s.order ∙ without_repeats-gathered [] [] (starts net plan ++ flat_map (targets net plan) xs) (λ x. refl)

  target-among : (zs : List Standing) (y x : Standing) → Among zs y → Among (targets net plan y) x → Among (flat_map (targets net plan) zs) x
  target-among [] y x h t = absurd (false≢true h)
  target-among (z ∷ zs) y x h t = elim (among-head y z zs h) [
    | inl e ↦ among-left x (targets net plan z) (flat_map (targets net plan) zs) (subst (λ w. Among (targets net plan w) x) e t)
    | inr e ↦ among-right x (targets net plan z) (flat_map (targets net plan) zs) (target-among zs y x e t)
  ]

  start-found : (zs : List Standing) (x : Standing) → Among (starts net plan) x → Among (found zs) x
  unfolding found
  start-found zs x h = gathered-among [] (starts net plan ++ flat_map (targets net plan) zs) x (among-left x (starts net plan) (flat_map (targets net plan) zs) h)

  target-found : (zs : List Standing) (y x : Standing) → Among zs y → Among (targets net plan y) x → Among (found zs) x
  unfolding found
  target-found zs y x h t =
      gathered-among [] (starts net plan ++ flat_map (targets net plan) zs) x (among-right x (starts net plan) (flat_map (targets net plan) zs) (target-among zs y x h t))

  -- standings are reached
  standings-reached : (xs : List Standing) → AreStandings net plan xs → AreReached (starts net plan) (targets net plan) xs
  unfolding found IsDistinct
  standings-reached xs s =
      let all = flat_map (targets net plan) xs in
      let begin = starts net plan in
      let more = gathered-extends begin all in
      record {
        different = subst (IsDistinct same_standing) (sym (found-all xs s)) (gathered-distinct [] (begin ++ all) tt);
        begin = (
          more.0,
          found-all xs s ∙ gathered-append [] begin all
              ∙ ap (λ l. gathered l all) (gathered-starts (start_of (locations net) plan.expressions) plan.origin (length net.routers + length net.peers)) ∙ more.1,
        );
        earlier = s.earlier;
      }

  standings-begin : (xs : List Standing) → AreStandings net plan xs → (k : ℕ) (x : Standing) → slice_get (starts net plan) k ≡ Some x → Among xs x
  standings-begin xs s k x h = subst (λ l. Among l x) (sym (found-all xs s)) (start-found xs x (among-slice_get (starts net plan) k x h))

  -- what is reached is among the standings
  reached-among : (m : ℕ) (xs ys : List Standing) → AreReached (starts net plan) (targets net plan) xs → AreStandings net plan ys
      → (k : ℕ) (x : Standing) → k < m → slice_get xs k ≡ Some x → Among ys x
  reached-among zero xs ys r s k x lt h = absurd (omega arith)
  reached-among (suc m) xs ys r s k x lt h = elim (cases_lt k (length (starts net plan))) [
    | inl less ↦
        standings-begin ys s k x (sym (slice_get-append_left (starts net plan) r.begin.0 k less) ∙ ap (λ l. slice_get l k) (sym r.begin.1) ∙ h)
    | inr ge ↦
        let e = r.earlier k x ge h in
        let less = e.2 in
        let y_among = reached-among m xs ys r s e.0 e.1 (omega arith) e.3 in
        subst (λ l. Among l x) (sym (found-all ys s)) (target-found ys e.1 x y_among e.4)
  ]

  among-place : (xs : List Standing) (x : Standing) → Among xs x → (k : ℕ) × (slice_get xs k ≡ Some x)
  among-place [] x h = absurd (false≢true h)
  among-place (y ∷ ys) x h = elim (among-head x y ys h) [
    | inl e ↦ (0, ap Some (sym e))
    | inr e ↦
        let p = among-place ys x e in
        (suc p.0, p.1)
  ]

  pub reached-few : (xs ys : List Standing) → AreReached (starts net plan) (targets net plan) xs → AreStandings net plan ys → length xs ≤ length ys
  reached-few xs ys r s = length-le_from_is_member standings_equivalence xs ys r.different (λ x h.
      let p = among-place xs x h in
      reached-among (suc p.0) xs ys r s p.0 x (omega arith) p.1)

  -- the standings of one list stand in no other part of it
  distinct-apart : (xs more : List Standing) (x : Standing) → IsDistinct same_standing (xs ++ more) → Among xs x → Among more x → ⊥
  distinct-apart [] more x d h g = false≢true h
  distinct-apart (y ∷ ys) more x d h g = elim (among-head x y ys h) [
    | inl e ↦ unlike (ys ++ more) (IsDistinct-head same_standing y (ys ++ more) d) (among-right y ys more (subst (Among more) e g))
    | inr e ↦ distinct-apart ys more x (IsDistinct-tail same_standing y (ys ++ more) d) e g
  ]
    where
      unlike : (zs : List Standing) → AllByRecursion (λ z. same_standing y z ≡ false) zs → Among zs y → ⊥
      unlike [] a f = false≢true f
      unlike (z ∷ zs) a f = elim (among-head y z zs f) [
        | inl e ↦ false≢true (sym a.0 ∙ equal-same y z e)
        | inr e ↦ unlike zs a.1 e
      ]

  found-front : (xs : List Standing) (k : ℕ) → AreStandings net plan xs → (more : List Standing) × (xs ≡ found (take k xs) ++ more)
  unfolding found
  found-front xs k s =
      let first = starts net plan ++ flat_map (targets net plan) (take k xs) in
      let ext = gathered-extends (gathered [] first) (flat_map (targets net plan) (drop k xs)) in (
        ext.0,
        found-all xs s
            ∙ ap (λ l. gathered [] (starts net plan ++ flat_map (targets net plan) l)) (sym (take-append-drop k xs))
            ∙ ap (λ l. gathered [] (starts net plan ++ l)) (flat_map-append (targets net plan) (take k xs) (drop k xs))
            ∙ ap (gathered []) (sym (append_assoc (starts net plan) (flat_map (targets net plan) (take k xs)) (flat_map (targets net plan) (drop k xs))))
            ∙ gathered-append [] first (flat_map (targets net plan) (drop k xs)) ∙ ext.1,
      )

  slice_get-take : (xs : List Standing) (k j : ℕ) (y : Standing) → j < k → slice_get xs j ≡ Some y → Among (take k xs) y
  slice_get-take [] k j y lt h = cc
  slice_get-take (x ∷ xs) zero j y lt h = absurd (omega arith)
  slice_get-take (x ∷ xs) (suc k) zero y lt h = subst (Among (x ∷ take k xs)) (same x y h) (among-first x (take k xs))
    where
      same : (x y : Standing) → Some x ≡ Some y → x ≡ y
      same x y h = cc
  slice_get-take (x ∷ xs) (suc k) (suc j) y lt h = among-later y x (take k xs) (slice_get-take xs k j y (omega arith) h)

  -- the first standings and what they lead to are more than these
  found-more : (xs : List Standing) (k : ℕ) → AreStandings net plan xs → k < length xs → k < length (found (take k xs))
  found-more xs k s lt = elim (cases_lt k (length (found (take k xs)))) [
    | inl less ↦ less
    | inr ge ↦ absurd (none (place xs k lt) ge)
  ]
    where
      place : (zs : List Standing) (n : ℕ) → n < length zs → (x : Standing) × (slice_get zs n ≡ Some x)
      place [] n lt = absurd (omega arith)
      place (z ∷ zs) zero lt = (z, refl)
      place (z ∷ zs) (suc n) lt = place zs n (omega arith)

      known : (x : Standing) → slice_get xs k ≡ Some x → Among (found (take k xs)) x
      known x h = elim (cases_lt k (length (starts net plan))) [
        | inl less ↦ start-found (take k xs) x (start x h less)
        | inr ge ↦
            let e = s.earlier k x ge h in
            target-found (take k xs) e.1 x (slice_get-take xs k e.0 e.1 e.2 e.3) e.4
      ]
        where
          start : (x : Standing) → slice_get xs k ≡ Some x → k < length (starts net plan) → Among (starts net plan) x
          start x h less =
              let r = standings-reached xs s in
              among-slice_get (starts net plan) k x (sym (slice_get-append_left (starts net plan) r.begin.0 k less) ∙ ap (λ l. slice_get l k) (sym r.begin.1) ∙ h)

      none : (p : (x : Standing) × (slice_get xs k ≡ Some x)) → length (found (take k xs)) ≤ k → ⊥
      none p ge =
          let f = found-front xs k s in
          distinct-apart (found (take k xs)) f.0 p.0 (subst (IsDistinct same_standing) f.1 (standings-reached xs s).different) (known p.0 p.1)
          (past-append (found (take k xs)) f.0 k p.0 (ap (λ l. slice_get l k) (sym f.1) ∙ p.1) ge)

  -- two lists of standings have one front
  one-front : (xs ys : List Standing) (k : ℕ) → AreStandings net plan xs → AreStandings net plan ys → k ≤ length xs → k ≤ length ys → take k xs ≡ take k ys
  one-front xs ys zero s t le lf = refl
  one-front xs ys (suc k) s t le lf =
      let before = one-front xs ys k s t (omega arith) (omega arith) in
      let f = found-front xs k s in
      let g = found-front ys k t in
      let more = found-more xs k s (omega arith) in
      let less = found-more ys k t (omega arith) in
      ap (take (suc k)) f.1 ∙ take-append-le (suc k) (found (take k xs)) f.0 (omega arith)
      ∙ ap (λ l. take (suc k) (found l)) before
      ∙ sym (ap (take (suc k)) g.1 ∙ take-append-le (suc k) (found (take k ys)) g.0 (omega arith))

  one-list : (xs ys : List Standing) → AreStandings net plan xs → AreStandings net plan ys → xs ≡ ys
  one-list xs ys s t =
      let le = reached-few xs ys (standings-reached xs s) t in
      let ge = reached-few ys xs (standings-reached ys t) s in
      sym (take_all (length xs) xs (omega arith)) ∙ one-front xs ys (length xs) s t (omega arith) (omega arith) ∙ take_all (length xs) ys (omega arith)

  pub one-graph : (g h : PlainGraph) → IsBuilt net plan g → IsBuilt net plan h → g ≡ h
  one-graph g h a b = a.2 ∙ ap (graph_over net plan) (one-list a.0 b.0 a.1 b.1) ∙ sym b.2

  pub no_more_states : (g : PlainGraph) (most : ℕ) → IsBuilt net plan g → length g.nodes ≤ most → PassesStates net plan most → ⊥
  no_more_states g most a few b =
      let short = reached-few b.0 a.0 b.1 a.1 in
      let size = ap (λ (h : PlainGraph). length h.nodes) a.2 ∙ length-map a.0 (node_of net plan) in
      let many = b.2 in
      absurd (omega (arith, few, size))
