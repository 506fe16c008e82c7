-- The starts as far as the loop has come.
use Rattle.std.proofs.Common.{◌≡◌, ℕ, ◌+◌, ◌<◌, ◌≤◌, true, List, [], ◌∷◌, length, get_or, set, take, eqb, replicate, get_or-set_same, get_or-set_other, length-set, Option}
use Rattle.std.proofs.Common.{Some, None, sym, ap, ◌∙◌, subst, inl, inr, arith}
use Rattle.std.specs.Prelude.{◌||◌, is_some}
use Rattle.std.proofs.lemmas.Bool.{cases_eq, eq-eqb, eqb-true, false≢true, or_cases}
use Rattle.std.specs.List.{AllByRecursion}
use Rattle.std.proofs.lemmas.List.{get_or_default, length-replicate, take_all}
use Rattle.std.proofs.lemmas.List.Folds.{list_any_at, list_any_more}
use Rattle.graph_base.specs.declared.graph.Node.{Node}
use Rattle.graph_base.specs.Graphs.{IsGraph, PlainGraph}
use Rattle.graph_base.specs.Runs.{place_of, is_start}
use Rattle.reach_prune.specs.Searches.{is_among}
use Rattle.settled_graph.specs.declared.settled.Settled.{Settled}
use Rattle.settled_graph.specs.Best.{entry_at}
use Rattle.settled_graph.specs.Rounds.{AreOpening}
use Rattle.graph_base.proofs.StartsAndSteps.{start_node}
use Rattle.settled_graph.proofs.Tables.{no_entry, place_low}

-- the first starts are settled, and nothing but starts is
pub record IsOpeningTo (g : PlainGraph) (i : ℕ) (routes : List (Option Settled)) : Type 0 where
  pub size : length routes ≡ 768
  pub settled : (s : ℕ) → is_among (take i g.starts) s ≡ true → is_some (entry_at routes (place_of g s)) ≡ true
  pub only : (l : ℕ) (x : Settled) → entry_at routes l ≡ Some x → (is_start g x.node ≡ true) × (place_of g x.node ≡ l) × (x.path ≡ l ∷ [])

-- the route of a start
abbrev opened : PlainGraph → ℕ → Option Settled
opened g s = Some (record { path = place_of g s ∷ []; node = s })

-- a start that is read is a start
pub start_among : (g : PlainGraph) (starts : List ℕ) (i s : ℕ) → starts ≡ g.starts → i < length starts → s ≡ get_or starts i 0 → is_start g s ≡ true
start_among g starts i s all within is = ap (λ xs. is_among xs s) (sym all) ∙ list_any_at (λ x. eqb x s) starts i 0 within (eq-eqb (get_or starts i 0) s (sym is))

module _ (g : PlainGraph) where
  pub opening_first : (count : ℕ) (routes : List (Option Settled)) → count ≡ 768 → routes ≡ replicate count None → IsOpeningTo g 0 routes
  opening_first count routes all empty = record {
    size = ap length empty ∙ length-replicate count None ∙ all;
    settled = λ s h. absurd (false≢true h);
    only = λ l x is. let clash : None ≡ Some x = sym (no_entry routes count empty l) ∙ is in absurd (cc);
  }

  pub opening_next : (i s : ℕ) (routes : List (Option Settled)) → i < length g.starts → s ≡ get_or g.starts i s → is_start g s ≡ true → place_of g s < 768 → IsOpeningTo g i routes
      → IsOpeningTo g (i + 1) (set routes (place_of g s) (Some (record { path = place_of g s ∷ []; node = s })))
  opening_next i s routes within is start low before = record {
    size = length-set _ _ _ ∙ before.size;
    settled = λ k h. elim (cases_eq (place_of g k) (place_of g s)) [
      | inl here ↦ ap (λ l. is_some (entry_at (set routes (place_of g s) (opened g s)) l)) here ∙ ap is_some there
      | inr apart ↦ elim (or_cases (is_among (take i g.starts) k) (eqb s k) (sym (more k) ∙ h)) [
        | inl old ↦ ap is_some (get_or-set_other routes (place_of g s) (place_of g k) (opened g s) None apart) ∙ before.settled k old
        | inr this ↦ absurd (apart (ap (place_of g) (sym (eqb-true s k this))))
      ]
    ];
    only = λ l x e. elim (cases_eq l (place_of g s)) [
      | inl here ↦ (
          let both : (opened g s) ≡ Some x = sym there ∙ ap (entry_at (set routes (place_of g s) (opened g s))) (sym here) ∙ e in
          let same : record { path = place_of g s ∷ []; node = s } ≡ x = cc in (
            subst (λ (y : Settled). is_start g y.node ≡ true) same start,
            subst (λ (y : Settled). place_of g y.node ≡ l) same (sym here),
            subst (λ (y : Settled). y.path ≡ l ∷ []) same (ap (λ k. k ∷ []) (sym here)),
          ))
      | inr apart ↦ before.only l x (sym (get_or-set_other routes (place_of g s) l (opened g s) None apart) ∙ e)
    ];
  }
    where
      there : entry_at (set routes (place_of g s) (Some (record { path = place_of g s ∷ []; node = s }))) (place_of g s) ≡ Some (record { path = place_of g s ∷ []; node = s })
      there = get_or-set_same routes (place_of g s) (Some (record { path = place_of g s ∷ []; node = s })) None (omega (arith, low, before.size))

      more : (k : ℕ) → is_among (take (i + 1) g.starts) k ≡ (is_among (take i g.starts) k || eqb s k)
      more k = list_any_more (λ x. eqb x k) g.starts i s within ∙ ap (λ x. is_among (take i g.starts) k || eqb x k) (sym is)

  -- what a turn of the loop makes of the table
  pub opening_taken : (i s at : ℕ) (path : List ℕ) (starts : List ℕ) (routes : List (Option Settled)) → IsGraph g → AllByRecursion (λ (node : Node). node.loc < 768) g.nodes → starts ≡ g.starts
      → i < length starts → s ≡ get_or starts i 0 → at ≡ place_of g s → path ≡ at ∷ [] → IsOpeningTo g i routes → IsOpeningTo g (i + 1) (set routes at (Some (record { path = path; node = s })))
  opening_taken i s at path starts routes rules places all within is here path_is before =
      let start = start_among g starts i s all within is in
      let path_as : path ≡ place_of g s ∷ [] = path_is ∙ ap (λ l. l ∷ []) here in
      let low = place_low g s places (start_node g s rules start) in
      let next = opening_next i s routes (omega (arith, within, ap length all)) (is ∙ ap (λ xs. get_or xs i 0) all ∙ other i s (omega (arith, within, ap length all))) start low before in
      subst (λ l. IsOpeningTo g (i + 1) (set routes l (Some (record { path = path; node = s })))) (sym here)
      (subst (λ p. IsOpeningTo g (i + 1) (set routes (place_of g s) (Some (record { path = p; node = s })))) (sym path_as) next)
    where
      other : (i s : ℕ) → i < length g.starts → get_or g.starts i 0 ≡ get_or g.starts i s
      other i s less = get_or_default g.starts i 0 s less

  pub opening_all : (i : ℕ) (routes : List (Option Settled)) → length g.starts ≤ i → IsOpeningTo g i routes → AreOpening g routes
  opening_all i routes past all = record {
    size = all.size;
    starts = λ s h. all.settled s (ap (λ xs. is_among xs s) (take_all i g.starts past) ∙ h);
    only = all.only;
  }
