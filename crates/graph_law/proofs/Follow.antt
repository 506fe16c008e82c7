-- What a run says of its path where the graph is well formed.
use Rattle.std.proofs.Common.{◌≡◌, ℕ, Bool, true, false, not, List, [], ◌∷◌, sym, ap, ◌∙◌, ⊎_elim}
use Rattle.std.proofs.lemmas.Bool.{and_parts, or_cases, not-true, false≢true, false_from_ne_true}
use Rattle.net_base.specs.Network.{PlainNet, is_peer, is_router, linked}
use Rattle.graph_base.specs.Graphs.{PlainGraph}
use Rattle.graph_base.specs.Runs.{place_of, is_start, has_step}
use Rattle.graph_base.specs.Rules.{IsWellFormed}
use Rattle.net_base.proofs.RoutersAndPeers.{router_no_peer}
use Rattle.graph_law.proofs.RunPaths.{GoesTo}
use Rattle.graph_base.proofs.RunSteps.{IsInside, RunsTo}
use Rattle.net_base.proofs.Links.{linked_flips}

module _ (net : PlainNet) (origin : ℕ → Bool) (external : Bool) (g : PlainGraph) (wf : IsWellFormed net origin external g) where
  -- a step's ends: linked, and the second is no origin
  step_link : (m n l k : ℕ) → has_step g m n ≡ true → place_of g n ≡ l → place_of g m ≡ k → linked net l k ≡ true
  step_link m n l k h e f =
      (linked_flips net l k ∙ ((λ i. linked net (sym f i) (sym e i)) ∙ (and_parts (linked net (place_of g m) (place_of g n)) (not (is_start g n)) (wf.links m n h)).0))

  step_no_start : (m n : ℕ) → has_step g m n ≡ true → is_start g n ≡ false
  step_no_start m n h = not-true (is_start g n) (and_parts (linked net (place_of g m) (place_of g n)) (not (is_start g n)) (wf.links m n h)).1

  step_no_origin : IsInside g → (m n l : ℕ) → has_step g m n ≡ true → place_of g n ≡ l → origin l ≡ false
  step_no_origin inside m n l h e =
      ap origin (sym e)
      ∙ false_from_ne_true (origin (place_of g n)) (λ o. false≢true (sym (step_no_start m n h) ∙ wf.alone n (inside.steps m n h) o))

  step_from_router : (m n k : ℕ) → has_step g m n ≡ true → is_start g m ≡ false → place_of g m ≡ k → is_peer net k ≡ false
  step_from_router m n k h s e =
      ⊎_elim (λ t. absurd (false≢true (sym s ∙ t))) (λ r. ap (is_peer net) (sym e) ∙ router_no_peer net (place_of g m) r)
      (or_cases (is_start g m) (is_router net (place_of g m)) (wf.from m n h))

  -- a path with a run is a walk to an origin, or an origin alone
  pub goes_from_runs : IsInside g → (path : List ℕ) (n : ℕ) → RunsTo g path n → GoesTo net origin path
  goes_from_runs inside [] n r = r
  goes_from_runs inside (l ∷ []) n r = ap origin (sym r.1) ∙ wf.starts n r.0
  goes_from_runs inside (l ∷ k ∷ []) n r =
      (step_link r.0 n l k r.2 r.3 r.1.1, step_no_origin inside r.0 n l r.2 r.3, ap origin (sym r.1.1) ∙ wf.starts r.0 r.1.0)
  goes_from_runs inside (l ∷ k ∷ j ∷ ls) n r = (
    step_link r.0 n l k r.2 r.3 r.1.3,
    step_no_origin inside r.0 n l r.2 r.3,
    step_from_router r.0 n k r.2 (step_no_start r.1.0 r.0 r.1.2) r.1.3,
    goes_from_runs inside (k ∷ j ∷ ls) r.0 r.1,
  )
