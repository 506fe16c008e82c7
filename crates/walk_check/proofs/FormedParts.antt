-- A graph is well formed where its starts, its nodes and its steps are, each by itself.
use Rattle.std.proofs.Common.{◌≡◌, ◌↔◌, ℕ, ◌<◌, Bool, true, false, List, map, length, refl, sym, ◌∙◌, inl, inr}
use Rattle.std.specs.Prelude.{◌&&◌, ◌||◌, not, nat_eq, All}
use Rattle.std.specs.Cmp.{booleans_Decides}
use Rattle.std.specs.List.{IsDistinct}
use Rattle.std.proofs.Math.Bool.{beq}
use Rattle.std.proofs.lemmas.Bool.{and_from, and_parts, cases_Bool, not-true, not_from_false, or_cases, or_left, or_right, true≢false}
use Rattle.std.proofs.lemmas.List.Elements.{All-from_recursion, recursion_from_All}
use Rattle.list_law.specs.Members.{IsIn}
use Rattle.list_law.proofs.Apart.{Apart-from_distinct, Apart-weaken, IsDistinct-from_apart}
use Rattle.list_law.proofs.Members.{AllByRecursion-IsIn, AllByRecursion-from_IsIn}
use Rattle.net_base.specs.Network.{PlainNet, is_peer, is_router, linked}
use Rattle.graph_base.specs.Graphs.{PlainGraph}
use Rattle.graph_base.specs.Rules.{IsWellFormed, same_pair}
use Rattle.graph_base.specs.Runs.{place_of, is_listener, is_start, has_step}
use Rattle.graph_base.proofs.StartsAndSteps.{in_start, in_step, start_in, step_in}
use Rattle.walk_check.specs.Alike.{IsSingleStepped}
use Rattle.walk_check.specs.Formed.{NodesFit, StartsFit, StepsFit, node_fits, step_fits}

All-item : {A : Type 0} (P : A → Type 0) (xs : List A) (x : A) → All P xs → IsIn xs x → P x
All-item P xs x all at = AllByRecursion-IsIn P xs x (recursion_from_All P xs all) at

All-from_items : {A : Type 0} (P : A → Type 0) (xs : List A) → ((x : A) → IsIn xs x → P x) → All P xs
All-from_items P xs h = All-from_recursion P xs (AllByRecursion-from_IsIn P xs h)

module _ (net : PlainNet) (origin : ℕ → Bool) (external : Bool) (g : PlainGraph) where
  pub single_from_formed : IsWellFormed net origin external g → IsSingleStepped g
  single_from_formed wf = record { one_start = wf.one_start; one_step = wf.one_step }

  -- ---- what well-formed graphs have

  pub starts_from_formed : IsWellFormed net origin external g → StartsFit origin g
  starts_from_formed wf = All-from_items (λ s. origin (place_of g s) ≡ true) g.starts (λ s at. wf.starts s (in_start g s at))

  pub nodes_from_formed : IsWellFormed net origin external g → NodesFit net origin g
  unfolding node_fits
  nodes_from_formed wf n within =
      and_from (is_start g n || not (origin (place_of g n))) (beq (is_listener g n) (is_peer net (place_of g n) && not (is_start g n)))
      (elim (cases_Bool (origin (place_of g n))) [
        | inl there ↦ or_left (is_start g n) (not (origin (place_of g n))) (wf.alone n within there)
        | inr elsewhere ↦ or_right (is_start g n) (not (origin (place_of g n))) (not_from_false (origin (place_of g n)) elsewhere)
      ])
      ((booleans_Decides (is_listener g n) (is_peer net (place_of g n) && not (is_start g n))).1 (wf.listeners n within))

  pub steps_from_formed : IsWellFormed net origin external g → StepsFit net external g
  unfolding step_fits
  steps_from_formed wf = All-from_items (λ (s : ℕ × ℕ). step_fits net external g s ≡ true) g.steps (λ s at. fits s.0 s.1 (in_step g s.0 s.1 at))
    where
      peers : (m n : ℕ) → has_step g m n ≡ true → (external && is_peer net (place_of g n)) ≡ true → ⊥
      peers m n h both =
          let parts = and_parts external (is_peer net (place_of g n)) both in
          true≢false (sym parts.0 ∙ wf.into m n (and_from (has_step g m n) (is_peer net (place_of g n)) h parts.1))

      none : (b : Bool) → (b ≡ true → ⊥) → not b ≡ true
      none true h = absurd (h refl)
      none false h = refl

      fits : (m n : ℕ) → has_step g m n ≡ true → step_fits net external g (m, n) ≡ true
      fits m n h =
          let link = linked net (place_of g m) (place_of g n) && not (is_start g n) in
          let from = is_start g m || is_router net (place_of g m) in
          let into = not (external && is_peer net (place_of g n)) in
          and_from (link && from) into (and_from link from (wf.links m n h) (wf.from m n h)) (none (external && is_peer net (place_of g n)) (peers m n h))

  -- ---- and what makes a graph well formed

  module _ (starts : StartsFit origin g) (nodes : NodesFit net origin g) (steps : StepsFit net external g) (single : IsSingleStepped g) where
    node_parts : (n : ℕ) → n < length g.nodes → ((is_start g n || not (origin (place_of g n))) ≡ true) × (beq (is_listener g n) (is_peer net (place_of g n) && not (is_start g n)) ≡ true)
    unfolding node_fits
    node_parts n within = and_parts (is_start g n || not (origin (place_of g n))) (beq (is_listener g n) (is_peer net (place_of g n) && not (is_start g n))) (nodes n within)

    step_parts : (m n : ℕ) → has_step g m n ≡ true
        → ((linked net (place_of g m) (place_of g n) && not (is_start g n)) ≡ true) × ((is_start g m || is_router net (place_of g m)) ≡ true) × (not (external && is_peer net (place_of g n)) ≡ true)
    unfolding step_fits
    step_parts m n h =
        let link = linked net (place_of g m) (place_of g n) && not (is_start g n) in
        let from = is_start g m || is_router net (place_of g m) in
        let into = not (external && is_peer net (place_of g n)) in
        let both = and_parts (link && from) into (All-item (λ (s : ℕ × ℕ). step_fits net external g s ≡ true) g.steps (m, n) steps (step_in g m n h)) in
        let first = and_parts link from both.0 in
        (first.0, first.1, both.1)

    pub formed_from_parts : IsWellFormed net origin external g
    formed_from_parts = record {
      starts = λ n h. All-item (λ s. origin (place_of g s) ≡ true) g.starts n starts (start_in g n h);
      one_start = single.one_start;
      alone = λ n within there. elim (or_cases (is_start g n) (not (origin (place_of g n))) (node_parts n within).0) [
        | inl start ↦ start
        | inr elsewhere ↦ absurd (true≢false (sym there ∙ not-true (origin (place_of g n)) elsewhere))
      ];
      links = λ m n h. (step_parts m n h).0;
      one_step = single.one_step;
      from = λ m n h. (step_parts m n h).1;
      into = λ m n both.
          let parts = and_parts (has_step g m n) (is_peer net (place_of g n)) both in
          no_external external (is_peer net (place_of g n)) parts.1 (step_parts m n parts.0).2;
      listeners = λ n within. (booleans_Decides (is_listener g n) (is_peer net (place_of g n) && not (is_start g n))).0 (node_parts n within).1;
    }
      where
        no_external : (e p : Bool) → p ≡ true → not (e && p) ≡ true → e ≡ false
        no_external false p h k = refl
        no_external true true h k = absurd (true≢false (sym k))
        no_external true false h k = absurd (true≢false (sym h))

-- ---- starts, as keys under one number

module _ (g : PlainGraph) where
  abbrev pub start_key : ℕ → ℕ × ℕ
  start_key s = (0, place_of g s)

  abbrev pub step_key : ℕ × ℕ → ℕ × ℕ
  step_key s = (s.0, place_of g s.1)

  pub starts_differ : IsDistinct same_pair (map start_key g.starts) ↔ IsDistinct nat_eq (map (place_of g) g.starts)
  starts_differ = (
    λ h. IsDistinct-from_apart nat_eq (place_of g) g.starts
        (Apart-weaken (λ s t. same_pair (start_key s) (start_key t) ≡ true) (λ s t. nat_eq (place_of g s) (place_of g t) ≡ true) g.starts
        (Apart-from_distinct same_pair start_key g.starts h) (λ s t a b same. same)),
    λ h. IsDistinct-from_apart same_pair start_key g.starts
        (Apart-weaken (λ s t. nat_eq (place_of g s) (place_of g t) ≡ true) (λ s t. same_pair (start_key s) (start_key t) ≡ true) g.starts
        (Apart-from_distinct nat_eq (place_of g) g.starts h) (λ s t a b same. same)),
  )
