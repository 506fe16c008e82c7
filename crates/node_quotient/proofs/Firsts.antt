-- The classes with which the search begins.
use Rattle.std.proofs.Common.{◌≡◌, ℕ, zero, suc, ◌+◌, ◌<◌, ◌≤◌, true, List, [], ◌∷◌, ◌++◌, Option, None, Some, option_map, length, map, refl, sym, ap, ◌∙◌, subst, inl, inr, arith}
use Rattle.std.specs.Prelude.{All, slice_get, slice_index_or, unwrap_or}
use Rattle.std.specs.List.{find}
use Rattle.std.proofs.lemmas.List.{get_or_append_left, get_or_default, length-append, length-map}
use Rattle.std.proofs.Math.Seq.{get_or-append_seam}
use Rattle.std.proofs.lemmas.Bool.{cases_eq, cases_lt}
use Rattle.list_law.proofs.Options.{option_eq-is, is-option_eq}
use Rattle.graph_base.specs.declared.graph.Node.{Node}
use Rattle.graph_base.specs.Graphs.{PlainGraph}
use Rattle.graph_base.specs.Runs.{place_of, rank_at}
use Rattle.reach_prune.specs.Searches.{is_listed}
use Rattle.node_quotient.specs.Alike.{AreFirstSame, AreNodesAt, AreSame, class_in, has_rank, list_of}
use Rattle.node_quotient.specs.Rounds.{AreClasses}
use Rattle.node_quotient.specs.Splits.{AreGroups}
use Rattle.node_quotient.proofs.Least.{joined_rank}
use Rattle.node_quotient.proofs.Stages.{found_first, found_none}
use Rattle.node_quotient.proofs.Turns.{among_get}

-- each of so many is below the bound
pub bound_more : (numbers : List ℕ) (i before after : ℕ) → ((k : ℕ) → k < i → slice_index_or numbers k 0 < before) → before ≤ after
    → slice_index_or numbers i 0 < after → (k : ℕ) → k < i + 1 → slice_index_or numbers k 0 < after
bound_more numbers i before after h le there k lt = elim (cases_eq k i) [
  | inl e ↦ subst (λ j. slice_index_or numbers j 0 < after) (sym e) there
  | inr a ↦ let old = h k (omega (arith, lt, a)) in omega (arith, old, le)
]

pub bound_all : (numbers : List ℕ) (i bound : ℕ) → length numbers ≤ i → ((k : ℕ) → k < i → slice_index_or numbers k 0 < bound) → All (λ n. n < bound) numbers
bound_all numbers i bound done h k d lt = let e = get_or_default numbers k d 0 lt in let below = h k (omega (arith, lt, done)) in omega (arith, e, below)

-- the number of a node's location among those of all
pub place_in : (g : PlainGraph) (n : ℕ) → class_in (map (λ (node : Node). node.loc) g.nodes) n ≡ place_of g n
place_in g n = go g.nodes n
  where
    go : (nodes : List Node) (n : ℕ) → class_in (map (λ (node : Node). node.loc) nodes) n ≡ unwrap_or (option_map (λ (node : Node). node.loc) (slice_get nodes n)) 0
    go [] n = refl
    go (x ∷ xs) zero = refl
    go (x ∷ xs) (suc n) = go xs n

pub place_below : (g : PlainGraph) (places list : List ℕ) (bound : ℕ) → places ≡ map (λ (node : Node). node.loc) g.nodes → list ≡ places
    → All (λ k. k < bound) list → (n : ℕ) → n < length g.nodes → place_of g n < bound
place_below g places list bound is e below n lt =
    let here : list ≡ map (λ (node : Node). node.loc) g.nodes = e ∙ is in
    let long : length list ≡ length g.nodes = ap length here ∙ length-map g.nodes (λ (node : Node). node.loc) in
    let at : class_in list n ≡ place_of g n = ap (λ xs. class_in xs n) here ∙ place_in g n in
    let less = below n 0 (omega (arith, lt, long)) in
    omega (arith, at, less)

pub located_nodes : (g : PlainGraph) (places list : List ℕ) (lists : List (List ℕ)) → places ≡ map (λ (node : Node). node.loc) g.nodes → list ≡ places
    → AreGroups (length list) list lists → (l : ℕ) → AreNodesAt g l (list_of lists l)
located_nodes g places list lists is e are l =
    let here : list ≡ map (λ (node : Node). node.loc) g.nodes = e ∙ is in
    let long : length list ≡ length g.nodes = ap length here ∙ length-map g.nodes (λ (node : Node). node.loc) in
    let at : (n : ℕ) → class_in list n ≡ place_of g n = λ n. ap (λ xs. class_in xs n) here ∙ place_in g n in
    record {
      listed = λ n lt place. subst (λ k. is_listed lists k n ≡ true) (at n ∙ place) (are.listed n (omega (arith, lt, long)));
      only = λ n h. let p = are.only l n h in let less = p.0 in (omega (arith, less, long), sym (at n) ∙ p.1);
      ascend = are.ascend l;
    }

module _ (g : PlainGraph) (nodes : List ℕ) (node : ℕ) (rank : Option ℕ) (inside : node < length g.nodes) (are : AreNodesAt g (place_of g node) nodes) (is : rank ≡ rank_at g node) where
  pub nodes_inside : All (λ n. n < length g.nodes) nodes
  nodes_inside k d lt = (are.only (slice_index_or nodes k d) (among_get nodes k d lt)).0

  itself : has_rank g rank node ≡ true
  itself = is-option_eq (rank_at g node) rank (sym is)

  pub found_same : (f : ℕ) → find (has_rank g rank) nodes ≡ Some f → (f ≤ node) × AreSame g f node × ((m : ℕ) → AreSame g m node → f ≤ m)
  found_same f h =
      let r = found_first (has_rank g rank) nodes f are.ascend h in
      let le = r.2 node (are.listed node inside refl) itself in (
        le,
        record { place = (are.only f r.0).1; rank = option_eq-is (rank_at g f) rank r.1 ∙ is },
        λ m same. elim (cases_lt m (length g.nodes)) [
          | inl less ↦ r.2 m (are.listed m less same.place) (is-option_eq (rank_at g m) rank (same.rank ∙ sym is))
          | inr ge ↦ omega (arith, le, inside, ge)
        ],
      )

  pub none_same : find (has_rank g rank) nodes ≡ None → ⊥
  none_same h = found_none (has_rank g rank) nodes h node (are.listed node inside refl) itself

pub same_trans : (g : PlainGraph) (a b c : ℕ) → AreSame g a b → AreSame g b c → AreSame g a c
same_trans g a b c h k = record { place = h.place ∙ k.place; rank = h.rank ∙ k.rank }

pub same_sym : (g : PlainGraph) (a b : ℕ) → AreSame g a b → AreSame g b a
same_sym g a b h = record { place = sym h.place; rank = sym h.rank }

pub one_more : (g : PlainGraph) (node f : ℕ) (least : List ℕ) → AreFirstSame g node least → f ≤ node → AreSame g f node
    → ((m : ℕ) → AreSame g m node → f ≤ m) → AreFirstSame g (node + 1) (least ++ f ∷ [])
one_more g node f least s le same first =
    let here : class_in (least ++ f ∷ []) node ≡ f = subst (λ n. class_in (least ++ f ∷ []) n ≡ f) s.size (get_or-append_seam least f [] 0) in
    let old : (n : ℕ) → n < node → class_in (least ++ f ∷ []) n ≡ class_in least n = λ n l. let e = s.size in get_or_append_left least (f ∷ []) 0 n (omega (arith, e, l)) in
    record {
      size = let e = length-append least (f ∷ []) in let k = s.size in omega (arith, e, k);
      le = λ n l. elim (cases_eq n node) [
        | inl e ↦ let at : class_in (least ++ f ∷ []) n ≡ f = ap (class_in (least ++ f ∷ [])) e ∙ here in omega (arith, at, le, e)
        | inr a ↦ let at = old n (omega (arith, l, a)) in let k = s.le n (omega (arith, l, a)) in omega (arith, at, k)
      ];
      same = λ n l. elim (cases_eq n node) [
        | inl e ↦ subst (λ k. AreSame g (class_in (least ++ f ∷ []) k) k) (sym e) (subst (λ k. AreSame g k node) (sym here) same)
        | inr a ↦ subst (λ k. AreSame g k n) (sym (old n (omega (arith, l, a)))) (s.same n (omega (arith, l, a)))
      ];
      first = λ m n l h. elim (cases_eq n node) [
        | inl e ↦ let at : class_in (least ++ f ∷ []) n ≡ f = ap (class_in (least ++ f ∷ [])) e ∙ here in let k = first m (subst (AreSame g m) e h) in omega (arith, at, k)
        | inr a ↦ let at = old n (omega (arith, l, a)) in let k = s.first m n (omega (arith, l, a)) h in omega (arith, at, k)
      ];
    }

pub first_are_classes : (g : PlainGraph) (least : List ℕ) → AreFirstSame g (length g.nodes) least → AreClasses g (class_in least)
first_are_classes g least s = record {
  le = s.le;
  idle = λ n lt.
      let le = s.le n lt in
      let there : class_in least n < length g.nodes = omega (arith, le, lt) in
      let one = s.le (class_in least n) there in
      let two = s.first (class_in least (class_in least n)) n lt (same_trans g (class_in least (class_in least n)) (class_in least n) n (s.same (class_in least n) there) (s.same n lt)) in
      omega (arith, one, two);
  place = λ n lt. (s.same n lt).place;
  rank = λ n lt. (s.same n lt).rank;
  coarse = λ m n lm ln h.
      let same : AreSame g m n = record { place = h.place; rank = joined_rank g m n h } in
      let one = s.first (class_in least n) m lm (same_trans g (class_in least n) n m (s.same n ln) (same_sym g m n same)) in
      let two = s.first (class_in least m) n ln (same_trans g (class_in least m) m n (s.same m lm) same) in
      omega (arith, one, two);
}
