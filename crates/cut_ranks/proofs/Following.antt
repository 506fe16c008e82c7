-- The step to a peer among the steps of a node.
use Rattle.std.proofs.Common.{◌≡◌, ℕ, ◌<◌, true, false, List, [], length, get_or, None, refl, sym, ap, ◌∙◌, inl, inr}
use Rattle.std.specs.Prelude.{◌==◌, option_and_then}
use Rattle.std.specs.List.{list_any}
use Rattle.std.proofs.lemmas.Bool.{eq-eqb, eqb-true, true≢false}
use Rattle.std.proofs.lemmas.List.Folds.{list_any_at}
use Rattle.list_law.proofs.Members.{list_any-from_IsIn, list_any_member}
use Rattle.list_law.proofs.Options.{cases_Option}
use Rattle.graph_base.specs.Graphs.{PlainGraph}
use Rattle.graph_base.specs.Runs.{has_step, place_of, rank_at, step_at}
use Rattle.graph_base.proofs.Determined.{step_at-step}
use Rattle.graph_base.proofs.StartsAndSteps.{step_at-is}
use Rattle.reach_prune.specs.Searches.{is_among}
use Rattle.impact_law.specs.BestRanks.{rank_at_peer}
use Rattle.cut_ranks.specs.Paths.{AreStepLists}

module _ (g : PlainGraph) (lists : List (List ℕ)) (are : AreStepLists g lists) (node peer : ℕ) (nodes : List ℕ) (listed : nodes ≡ get_or lists node []) where
  steps_to : (n : ℕ) → is_among nodes n ≡ has_step g node n
  steps_to n = ap (λ xs. is_among xs n) listed ∙ are.steps node n

  -- one of the nodes stands at the peer
  pub rank_there : (next : ℕ) → is_among nodes next ≡ true → place_of g next ≡ peer → rank_at_peer g node peer ≡ rank_at g next
  rank_there next among here =
      let step : has_step g node next ≡ true = sym (steps_to next) ∙ among in
      ap (option_and_then (rank_at g)) (ap (step_at g node) (sym here) ∙ step_at-step g node next are.one_step step)

  -- none does
  pub rank_nowhere : list_any (λ n. place_of g n == peer) nodes ≡ false → rank_at_peer g node peer ≡ None
  rank_nowhere nobody = elim (cases_Option (step_at g node peer)) [
    | inl none ↦ ap (option_and_then (rank_at g)) none
    | inr some ↦ (
        let is = step_at-is g node peer some.0 some.1 in
        let member = list_any_member (λ x. x == some.0) nodes (steps_to some.0 ∙ is.0) in
        let at : place_of g member.0 ≡ peer = ap (place_of g) (eqb-true member.0 some.0 member.2) ∙ is.1 in
        absurd (true≢false (sym (list_any-from_IsIn (λ n. place_of g n == peer) nodes member.0 member.1 (eq-eqb (place_of g member.0) peer at)) ∙ nobody)))
  ]

  pub among_at : (i : ℕ) → i < length nodes → is_among nodes (get_or nodes i 0) ≡ true
  among_at i low = list_any_at (λ x. x == get_or nodes i 0) nodes i 0 low (eq-eqb (get_or nodes i 0) (get_or nodes i 0) refl)
