-- What is held is the relation.
use Rattle.std.proofs.Common.{◌≡◌, ℕ, zero, suc, Bool, true, ◌&&◌, eqb, ltb, List, [], ◌∷◌, length, get_or, map, unwrap_or, option_map, slice_get, refl, sym, ap, ◌∙◌, subst, inl, inr}
use Rattle.std.proofs.lemmas.Bool.{and_from, or_cases, or_left, or_right}
use Rattle.std.proofs.lemmas.List.{length-map}
use Rattle.bit_rows.specs.Tables.{PlainRows, has_at}
use Rattle.graph_base.specs.declared.graph.Node.{Node}
use Rattle.graph_base.specs.Graphs.{PlainGraph}
use Rattle.graph_base.specs.Runs.{place_of}
use Rattle.net_base.specs.declared.loc.LocSet.{LocSet}
use Rattle.relation_law.specs.Relations.{IsGreatest, IsTotal}
use Rattle.relation_law.specs.Rounds.{TakesNothingMore, is_pair, left_after}
use Rattle.relation_law.specs.Views.{view_of}
use Rattle.relation_law.proofs.Rounds.{pair_from, pair_to}
use Rattle.state_simulation.specs.Stages.{AreBound, above_in}
use Rattle.state_simulation.proofs.Staging.{above_left}
use Rattle.state_simulation.specs.Held.{HasEach, IsLeftByRounds, IsRelationOf, PlainRelation, are_together, has}
use Rattle.state_simulation.specs.Targets.{AreLeft}

place_at : (nodes : List Node) (n : ℕ) → get_or (map (λ (node : Node). node.loc) nodes) n 0 ≡ unwrap_or (option_map (λ (node : Node). node.loc) (slice_get nodes n)) 0
place_at [] n = refl
place_at (x ∷ xs) zero = refl
place_at (x ∷ xs) (suc n) = place_at xs n

count : (g : PlainGraph) (r : PlainRelation) → r.places ≡ map (λ (node : Node). node.loc) g.nodes → length r.places ≡ length g.nodes
count g r are = ap length are ∙ length-map g.nodes (λ (node : Node). node.loc)

-- nodes at one location are those of the graph
pub together : (g : PlainGraph) (r : PlainRelation) → r.places ≡ map (λ (node : Node). node.loc) g.nodes → (m n : ℕ) → are_together r m n ≡ is_pair (view_of g r.claimed) m n
together g r are m n =
    let at : (k : ℕ) → get_or r.places k 0 ≡ place_of g k = λ k. ap (λ l. get_or l k 0) are ∙ place_at g.nodes k in
    ap (λ k. ltb m k && (ltb n k && eqb (get_or r.places m 0) (get_or r.places n 0))) (count g r are)
    ∙ ap (λ p. ltb m (length g.nodes) && (ltb n (length g.nodes) && eqb p (get_or r.places n 0))) (at m)
    ∙ ap (λ p. ltb m (length g.nodes) && (ltb n (length g.nodes) && eqb (place_of g m) p)) (at n)

-- the relation is total where it has a direction of each two nodes at one location
pub total_where_each : (g : PlainGraph) (r : PlainRelation) → IsRelationOf g r → HasEach r → IsTotal (view_of g r.claimed) (has r)
total_where_each g r is each m n pair = or_cases (has r m n) (has r n m) (each m n (together g r is.places m n ∙ pair_to (view_of g r.claimed) m n pair))

pub each_where_total : (g : PlainGraph) (r : PlainRelation) → IsRelationOf g r → IsTotal (view_of g r.claimed) (has r) → HasEach r
each_where_total g r is total m n both = elim (total m n (pair_from (view_of g r.claimed) m n (sym (together g r is.places m n) ∙ both))) [
  | inl e ↦ or_left (has r m n) (has r n m) e
  | inr e ↦ or_right (has r m n) (has r n m) e
]

-- ---- from the rows that the rounds leave

-- what is made of the rows of a graph has the pairs of one location that they have
pub made_has : (g : PlainGraph) (claimed : LocSet) (r : PlainRelation) (left : PlainRows)
    → r ≡ record { places = map (λ (node : Node). node.loc) g.nodes; claimed = claimed; rows = left } → (m n : ℕ)
    → has r m n ≡ above_in (view_of g claimed) left m n
made_has g claimed r left is m n =
    ap (λ z. z && has_at r.rows n m) (together g r (ap (λ (z : PlainRelation). z.places) is) m n) ∙ ap (λ (z : PlainRelation). is_pair (view_of g claimed) m n && has_at z.rows n m) is

pub made_relation : (old g : PlainGraph) (claimed : LocSet) (r : PlainRelation) (left : PlainRows) → old ≡ g
    → r ≡ record { places = map (λ (node : Node). node.loc) g.nodes; claimed = claimed; rows = left } →
    IsGreatest (view_of old claimed) (above_in (view_of old claimed) left) → IsRelationOf g r
made_relation old g claimed r left same is greatest =
    let now : IsGreatest (view_of g claimed) (above_in (view_of g claimed) left) = subst (λ (z : PlainGraph). IsGreatest (view_of z claimed) (above_in (view_of z claimed) left)) same greatest in
    let has_now : IsGreatest (view_of g claimed) (has r) = subst (IsGreatest (view_of g claimed)) (λ i m n. sym (made_has g claimed r left is m n) i) now in
    record { places = ap (λ (z : PlainRelation). z.places) is; greatest = subst (λ (z : LocSet). IsGreatest (view_of g z) (has r)) (sym (ap (λ (z : PlainRelation). z.claimed) is)) has_now }

pub made_rounds : (old g : PlainGraph) (claimed : LocSet) (r : PlainRelation) (reach : ℕ → ℕ → Bool) (left : PlainRows) → old ≡ g
    → r ≡ record { places = map (λ (node : Node). node.loc) g.nodes; claimed = claimed; rows = left } →
    (rounds : ℕ) × TakesNothingMore (view_of old claimed) reach rounds × AreLeft (view_of old claimed) reach rounds left → IsLeftByRounds g reach r
made_rounds old g claimed r reach left same is made =
    let now : TakesNothingMore (view_of g claimed) reach made.0 × AreLeft (view_of g claimed) reach made.0 left =
    subst (λ (z : PlainGraph). TakesNothingMore (view_of z claimed) reach made.0 × AreLeft (view_of z claimed) reach made.0 left) same (made.1, made.2) in
    let back : claimed ≡ r.claimed = sym (ap (λ (z : PlainRelation). z.claimed) is) in
    record {
      rounds = made.0;
      settled = subst (λ (z : LocSet). TakesNothingMore (view_of g z) reach made.0) back now.0;
      left =
          subst (λ (z : LocSet). (m n : ℕ) → has r m n ≡ left_after (view_of g z) reach made.0 m n) back
          (λ m n. made_has g claimed r left is m n ∙ above_left g claimed reach made.0 left now.1 m n);
    }

-- rows that have each pair one way or the other make a relation that does
pub made_total : (old g : PlainGraph) (claimed : LocSet) (r : PlainRelation) (left : PlainRows) → old ≡ g
    → r ≡ record { places = map (λ (node : Node). node.loc) g.nodes; claimed = claimed; rows = left } → AreBound old left → HasEach r
made_total old g claimed r left same is bound m n both =
    let now : AreBound g left = subst (λ (z : PlainGraph). AreBound z left) same bound in
    let pair = pair_from (view_of g r.claimed) m n (sym (together g r (ap (λ (z : PlainRelation). z.places) is) m n) ∙ both) in
    let back : are_together r n m ≡ true = together g r (ap (λ (z : PlainRelation). z.places) is) n m
    ∙ pair_to (view_of g r.claimed) n m (record { left = pair.right; right = pair.left; place = sym pair.place }) in
    let rows : (a b : ℕ) → has_at left a b ≡ has_at r.rows a b = λ a b. ap (λ (z : PlainRelation). has_at z.rows a b) (sym is) in
    elim (or_cases (has_at left n m) (has_at left m n) (now m n pair.left pair.right pair.place)) [
      | inl e ↦ or_left _ _ (and_from _ _ both (sym (rows n m) ∙ e))
      | inr e ↦ or_right _ _ (and_from _ _ back (sym (rows m n) ∙ e))
    ]
