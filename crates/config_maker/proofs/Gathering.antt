-- What is gathered of the cases one by one.
use Rattle.std.proofs.Common.{◌≡◌, ℕ, ◌+◌, ◌<◌, ◌≤◌, List, [], ◌∷◌, ◌++◌, length, get_or, map, take, drop, Some, sym, ap, ◌∙◌, append_assoc, append-nil, subst}
use Rattle.std.specs.Prelude.{slice_get}
use Rattle.std.specs.List.{AllByRecursion}
use Rattle.std.proofs.lemmas.List.{drop_all, map_more}
use Rattle.std.proofs.lemmas.Option.{slice_get-get_or}
use Rattle.list_law.proofs.Each.{AllByRecursion_at}
use Rattle.list_law.proofs.Items.{drop_from}
use Rattle.graph_base.specs.Graphs.{IsGraph, PlainGraph}
use Rattle.evidence_base.specs.Made.{PlainCaseEvidence}
use Rattle.config_maker.specs.declared.hop.Hop.{Hop}
use Rattle.config_maker.specs.declared.hop.Announced.{Announced}
use Rattle.config_maker.specs.Hops.{hop_of, hops_from, announced_by, announced_from}

-- a start is a node
pub start_node : (g : PlainGraph) (starts : List ℕ) (i : ℕ) → IsGraph g → starts ≡ g.starts → i < length starts → get_or starts i 0 < length g.nodes
start_node g starts i is same within =
    AllByRecursion_at (λ n. n < length g.nodes) starts i (get_or starts i 0) (subst (AllByRecursion (λ n. n < length g.nodes)) (sym same) is.starts) (slice_get-get_or starts i 0 within)

-- what one more item gives stands behind what those before it gave
pub one_more : {A B : Type 0} (f : A → B) (first : List B) {old new : List B} (xs : List A) (i : ℕ) (nothing item : A) → i < length xs → item ≡ get_or xs i nothing
    → new ≡ old ++ f item ∷ [] → old ≡ first ++ map f (take i xs) → new ≡ first ++ map f (take (i + 1) xs)
one_more f first {old} {new} xs i nothing item less is pushed before =
    pushed
    ∙ ap (λ ys. ys ++ f item ∷ []) before
    ∙ ap (λ x. (first ++ map f (take i xs)) ++ f x ∷ []) is
    ∙ append_assoc first (map f (take i xs)) (f (get_or xs i nothing) ∷ [])
    ∙ ap (λ ys. first ++ ys) (sym (map_more f xs i nothing less))

module _ (all : List PlainCaseEvidence) where
  module _ (i : ℕ) (c : PlainCaseEvidence) (here : slice_get all i ≡ Some c) where
    rest : drop i all ≡ c ∷ drop (i + 1) all
    rest = drop_from all i c here

    pub hops-step : (old new : List Hop) → new ≡ old ++ map (hop_of (i + 1) c.graph c.numbers c.tags) c.graph.steps → old ++ hops_from (i + 1) (drop i all) ≡ hops_from 1 all
        → new ++ hops_from (i + 1 + 1) (drop (i + 1) all) ≡ hops_from 1 all
    hops-step old new is before =
        ap (λ hops. hops ++ hops_from (i + 1 + 1) (drop (i + 1) all)) is
        ∙ append_assoc old (map (hop_of (i + 1) c.graph c.numbers c.tags) c.graph.steps) (hops_from (i + 1 + 1) (drop (i + 1) all))
        ∙ ap (λ es. old ++ hops_from (i + 1) es) (sym rest)
        ∙ before

    pub announced-step : (old new : List Announced) → new ≡ old ++ announced_by (i + 1) c.case.prefixes c.graph c.tags → old ++ announced_from (i + 1) (drop i all) ≡ announced_from 1 all
        → new ++ announced_from (i + 1 + 1) (drop (i + 1) all) ≡ announced_from 1 all
    announced-step old new is before =
        ap (λ xs. xs ++ announced_from (i + 1 + 1) (drop (i + 1) all)) is
        ∙ append_assoc old (announced_by (i + 1) c.case.prefixes c.graph c.tags) (announced_from (i + 1 + 1) (drop (i + 1) all))
        ∙ ap (λ es. old ++ announced_from (i + 1) es) (sym rest)
        ∙ before

  pub hops-end : (i : ℕ) (hops : List Hop) → length all ≤ i → hops ++ hops_from (i + 1) (drop i all) ≡ hops_from 1 all → hops ≡ hops_from 1 all
  hops-end i hops past before = sym (ap (λ es. hops ++ hops_from (i + 1) es) (drop_all i all past) ∙ append-nil hops) ∙ before

  pub announced-end : (i : ℕ) (xs : List Announced) → length all ≤ i → xs ++ announced_from (i + 1) (drop i all) ≡ announced_from 1 all → xs ≡ announced_from 1 all
  announced-end i xs past before = sym (ap (λ es. xs ++ announced_from (i + 1) es) (drop_all i all past) ∙ append-nil xs) ∙ before
