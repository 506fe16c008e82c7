-- Where no two nodes stand at one location, each stands as high as itself alone.
use Rattle.std.proofs.Common.{◌≡◌, ℕ, ◌+◌, ◌<◌, Bool, true, false, eqb, List, length, get_or, set, arith, refl, sym, ap, ◌∙◌, subst, inl, inr}
use Rattle.std.proofs.lemmas.Bool.{and_from, and_parts, both_ways, cases_eq, eq-eqb, or_left}
use Rattle.std.proofs.lemmas.List.{get_or-set_other, get_or-set_same}
use Rattle.bit_rows.specs.Tables.{PlainRows, has_at}
use Rattle.graph_base.specs.Graphs.{PlainGraph}
use Rattle.net_base.specs.declared.loc.LocSet.{LocSet}
use Rattle.relation_law.specs.Relations.{IsClosed, IsGreatest, Meets, Pair}
use Rattle.relation_law.specs.Rounds.{is_pair}
use Rattle.relation_law.specs.Views.{view_of}
use Rattle.relation_law.proofs.Ranks.{no_worse_refl}
use Rattle.relation_law.proofs.Rounds.{pair_from, pair_to}
use Rattle.state_simulation.specs.Apart.{StandApart}
use Rattle.state_simulation.specs.Stages.{AreBound, above_in}

-- the rows that have each node's own bit
abbrev pub AreOwn : ℕ → PlainRows → Type 0
AreOwn size rows = (n b : ℕ) → n < size → has_at rows n b ≡ eqb b n

own : (size n : ℕ) (rows : PlainRows) → AreOwn size rows → n < size → has_at rows n n ≡ true
own size n rows are lt = are n n lt ∙ eq-eqb n n refl

above_itself : (g : PlainGraph) (claimed : LocSet) (rows : PlainRows) → AreOwn (length g.nodes) rows → (n : ℕ) → n < length g.nodes → above_in (view_of g claimed) rows n n ≡ true
above_itself g claimed rows are n lt =
    and_from (is_pair (view_of g claimed) n n) (has_at rows n n) (pair_to (view_of g claimed) n n (record { left = lt; right = lt; place = refl })) (own (length g.nodes) n rows are lt)

meets_itself : (g : PlainGraph) (claimed : LocSet) (rows : PlainRows) → StandApart g → AreOwn (length g.nodes) rows → (n : ℕ)
    → Meets (view_of g claimed) (above_in (view_of g claimed) rows) n n
meets_itself g claimed rows apart are n = record {
  rank = λ claims. no_worse_refl ((view_of g claimed).rank n);
  step = λ t lt steps. (t, lt, steps, refl, above_itself g claimed rows are t lt);
  loop = λ t k lt lk steps place leads. subst (λ z. above_in (view_of g claimed) rows z t ≡ true) (sym (apart k t lk lt place)) (above_itself g claimed rows are t lt);
  listener = λ t lt heard. (t, lt, heard, refl, no_worse_refl ((view_of g claimed).rank t));
}

own_closed : (g : PlainGraph) (claimed : LocSet) (rows : PlainRows) → StandApart g → AreOwn (length g.nodes) rows → IsClosed (view_of g claimed) (above_in (view_of g claimed) rows)
own_closed g claimed rows apart are m n above =
    let pair : Pair (view_of g claimed) m n = pair_from (view_of g claimed) m n (and_parts (is_pair (view_of g claimed) m n) (has_at rows n m) above).0 in
    (pair, subst (λ z. Meets (view_of g claimed) (above_in (view_of g claimed) rows) z n) (sym (apart m n pair.left pair.right pair.place)) (meets_itself g claimed rows apart are n))

-- what has each node's own bit is the greatest relation
pub own_greatest : (g : PlainGraph) (claimed : LocSet) (rows : PlainRows) → StandApart g → AreOwn (length g.nodes) rows → IsGreatest (view_of g claimed) (above_in (view_of g claimed) rows)
own_greatest g claimed rows apart are = record {
  closed = own_closed g claimed rows apart are;
  greatest = λ s closed m n above.
      let pair = (closed m n above).0 in
      subst (λ z. above_in (view_of g claimed) rows z n ≡ true) (sym (apart m n pair.left pair.right pair.place)) (above_itself g claimed rows are n pair.right);
}

-- and it has a direction of each two nodes at one location
pub own_bound : (g : PlainGraph) (rows : PlainRows) → StandApart g → AreOwn (length g.nodes) rows → AreBound g rows
own_bound g rows apart are m n lm ln place = or_left _ _ (subst (λ z. has_at rows n z ≡ true) (sym (apart m n lm ln place)) (own (length g.nodes) n rows are ln))

-- the locations of the nodes before one are marked, and no others, and that one's is marked too
module _ (place : ℕ → ℕ) (met : List Bool) (i : ℕ) (inside : place i < length met) where
  marked_here : (p : ℕ) → p ≡ place i → get_or (set met (place i) true) p false ≡ true
  marked_here p e = ap (λ k. get_or (set met (place i) true) k false) e ∙ get_or-set_same met (place i) true false inside

  marked_there : (p : ℕ) → (p ≡ place i → ⊥) → get_or (set met (place i) true) p false ≡ get_or met p false
  marked_there p ne = get_or-set_other met (place i) p true false ne

  pub marked_more : ((n : ℕ) → n < i → get_or met (place n) false ≡ true) → (n : ℕ) → n < i + 1 → get_or (set met (place i) true) (place n) false ≡ true
  marked_more before n lt = elim (cases_eq (place n) (place i)) [
    | inl e ↦ marked_here (place n) e
    | inr ne ↦ marked_there (place n) ne ∙ before n (earlier n lt (λ e. ne (ap place e)))
  ]
    where
      earlier : (n : ℕ) → n < i + 1 → (n ≡ i → ⊥) → n < i
      earlier n lt ne = omega arith

  pub only_more : ((p : ℕ) → get_or met p false ≡ true → (n : ℕ) × (n < i) × (place n ≡ p))
      → (p : ℕ) → get_or (set met (place i) true) p false ≡ true → (n : ℕ) × (n < i + 1) × (place n ≡ p)
  only_more before p h = elim (cases_eq p (place i)) [
    | inl e ↦ (i, omega arith, sym e)
    | inr ne ↦ (let x = before p (sym (marked_there p ne) ∙ h) in (x.0, omega (arith, x.1), x.2))
  ]

  pub apart_more : get_or met (place i) false ≡ false → ((n : ℕ) → n < i → get_or met (place n) false ≡ true)
      → ((m n : ℕ) → m < i → n < i → place m ≡ place n → m ≡ n) → (m n : ℕ) → m < i + 1 → n < i + 1 → place m ≡ place n → m ≡ n
  apart_more none before apart m n lm ln same = elim (cases_eq m i) [
    | inl em ↦ elim (cases_eq n i) [
      | inl en ↦ em ∙ sym en
      | inr nn ↦ absurd (taken n (omega arith) (sym same ∙ ap place em))
    ]
    | inr nm ↦ elim (cases_eq n i) [
      | inl en ↦ absurd (taken m (omega arith) (same ∙ ap place en))
      | inr nn ↦ apart m n (omega arith) (omega arith) same
    ]
  ]
    where
      taken : (k : ℕ) → k < i → place k ≡ place i → ⊥
      taken k lt e = both_ways _ none (ap (λ p. get_or met p false) (sym e) ∙ before k lt)
