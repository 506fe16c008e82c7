-- A faithful graph of a case shows the ranks that a policy gives the walks of a prefix.
use Rattle.std.proofs.Common.{◌≡◌, ℕ, Bool, true, false, List, [], ◌∷◌, refl, sym, ap, ◌∙◌, inl, inr, Option, Some, None}
use Rattle.std.specs.Prelude.{not, ◌||◌, if◌then◌else◌}
use Rattle.std.specs.List.{list_any}
use Rattle.std.specs.Option.{option_and_then}
use Rattle.std.proofs.lemmas.Bool.{and_from, and_parts, cases_Bool, false≢true, not-true, or_parts, true≢false}
use Rattle.list_law.proofs.Options.{cases_Option, is_some_from, is_some_parts}
use Rattle.net_base.specs.Network.{PlainNet}
use Rattle.net_base.specs.Prefixes.{PlainPrefix}
use Rattle.net_base.specs.Sets.{holds}
use Rattle.policy_base.specs.declared.case.Case.{Case}
use Rattle.policy_base.specs.Policies.{PlainPolicy, PlainStatement}
use Rattle.policy_base.specs.Governing.{is_origin, statement_of}
use Rattle.policy_base.specs.Meaning.{at_last, front, rank_of}
use Rattle.policy_base.specs.Permitted.{ends_at_origin, from_holds}
use Rattle.policy_base.specs.Walks.{is_walk}
use Rattle.graph_base.specs.Graphs.{IsGraph, PlainGraph}
use Rattle.graph_base.specs.Runs.{place_of, rank_at, run, step_at}
use Rattle.graph_base.proofs.RunSteps.{run_begins, run_inside}
use Rattle.evidence_law.specs.Faithful.{IsFaithful, is_origin_alone, is_walk_to, may_start, permits}
use Rattle.evidence_law.proofs.PermittedWalks.{permits_parts}
use Rattle.graph_law.proofs.Claimed.{ranked_may, ranked_permits}
use Rattle.compare_base.specs.Ranks.{rank_by, rank_for}
use Rattle.pair_rows.specs.Rows.{ShowsRanks, no_graph}

module _ (net : PlainNet) (policy : PlainPolicy) (p : PlainPrefix) (s : PlainStatement) (c : Case) (g : PlainGraph) (rules : IsGraph g)
    (faithful : IsFaithful net s (holds c.origins) c.external g) (governs : statement_of policy p ≡ Some s) (origins : (l : ℕ) → holds c.origins l ≡ is_origin net policy p l) where
  same : holds c.origins ≡ is_origin net policy p
  same = λ i l. origins l i

  rank_is : (path : List ℕ) → rank_for net policy p path ≡ (if permits net (holds c.origins) s path then rank_of net s.ranked path else None)
  rank_is path =
      ap (λ (o : Option PlainStatement). rank_by net policy p o path) governs
      ∙ ap (λ (origin : ℕ → Bool). if permits net origin s path then rank_of net s.ranked path else None) (sym same)

  -- a permitted walk begins where one may
  begins : (path : List ℕ) (n : ℕ) → permits net (holds c.origins) s path ≡ true → run g path ≡ Some n → may_start (holds c.origins) s (place_of g n) ≡ true
  begins [] n is ran = absurd cc
  begins (l ∷ []) n is ran = absurd (false≢true (permits_parts net (holds c.origins) s (l ∷ []) is).0)
  begins (l ∷ k ∷ ls) n is ran =
      let parts = permits_parts net (holds c.origins) s (l ∷ k ∷ ls) is in
      let ends = and_parts (at_last (holds c.origins) (l ∷ k ∷ ls)) (not (list_any (holds c.origins) (front (l ∷ k ∷ ls)))) parts.1 in
      let off = or_parts (holds c.origins l) (list_any (holds c.origins) (front (k ∷ ls))) (not-true (list_any (holds c.origins) (front (l ∷ k ∷ ls))) ends.1) in
      ap (may_start (holds c.origins) s) (run_begins g l n (k ∷ ls) ran) ∙ and_from (from_holds s.from l) (not (holds c.origins l)) parts.2 (ap not off.0)

  run_of : (path : List ℕ) → permits net (holds c.origins) s path ≡ true → (n : ℕ) × (run g path ≡ Some n)
  run_of path is =
      let parts = permits_parts net (holds c.origins) s path is in
      let walk : is_walk_to net (holds c.origins) path ≡ true = and_from (is_walk net path) (ends_at_origin (holds c.origins) path) parts.0 parts.1 in
      is_some_parts (run g path) (faithful.has_run [] path (ap (λ b. b || is_origin_alone (holds c.origins) path) walk) is)

  unranked : (path : List ℕ) (o : Option ℕ) → permits net (holds c.origins) s path ≡ false → run g path ≡ o → None ≡ option_and_then (rank_at g) o
  unranked path None off ran = refl
  unranked path (Some n) off ran = elim (cases_Option (rank_at g n)) [
    | inl none ↦ sym none
    | inr ranked ↦
        let some = is_some_from (rank_at g n) ranked.0 ranked.1 in
        let may = ranked_may net s c g rules faithful n (run_inside g rules path n ran) some in
        absurd (true≢false (sym (ranked_permits net s c g rules faithful (place_of g n) n path refl may ran some) ∙ off))
  ]

  pub shows_ranks : ShowsRanks net policy p g
  shows_ranks path = elim (cases_Bool (permits net (holds c.origins) s path)) [
    | inl t ↦
        let found = run_of path t in
        rank_is path ∙ ap (λ (b : Bool). if b then rank_of net s.ranked path else None) t
        ∙ sym (faithful.ranks path found.0 found.1 (begins path found.0 t found.1)) ∙ sym (ap (option_and_then (rank_at g)) found.1)
    | inr t ↦ rank_is path ∙ ap (λ (b : Bool). if b then rank_of net s.ranked path else None) t ∙ unranked path (run g path) t refl
  ]

-- ---- where nothing is permitted

no_run : (path : List ℕ) → run no_graph path ≡ None
no_run [] = refl
no_run (l ∷ []) = refl
no_run (l ∷ k ∷ ls) = ap (option_and_then (λ n. step_at no_graph n l)) (no_run (k ∷ ls))

pub shows_nothing : (net : PlainNet) (policy : PlainPolicy) (p : PlainPrefix) → ((path : List ℕ) → rank_for net policy p path ≡ None) → ShowsRanks net policy p no_graph
shows_nothing net policy p none path = none path ∙ sym (ap (option_and_then (rank_at no_graph)) (no_run path))

pub ungoverned : (net : PlainNet) (policy : PlainPolicy) (p : PlainPrefix) → statement_of policy p ≡ None → (path : List ℕ) → rank_for net policy p path ≡ None
ungoverned net policy p none path = ap (λ (o : Option PlainStatement). rank_by net policy p o path) none

no_last : (origin : ℕ → Bool) (path : List ℕ) → ((l : ℕ) → origin l ≡ false) → at_last origin path ≡ false
no_last origin [] none = refl
no_last origin (l ∷ []) none = none l
no_last origin (l ∷ k ∷ ls) none = no_last origin (k ∷ ls) none

pub unoriginated : (net : PlainNet) (policy : PlainPolicy) (p : PlainPrefix) → ((l : ℕ) → is_origin net policy p l ≡ false) → (path : List ℕ) → rank_for net policy p path ≡ None
unoriginated net policy p none path = by (statement_of policy p)
  where
    by : (o : Option PlainStatement) → rank_by net policy p o path ≡ None
    by None = refl
    by (Some s) = elim (cases_Bool (permits net (is_origin net policy p) s path)) [
      | inl t ↦
          let parts = permits_parts net (is_origin net policy p) s path t in
          let ends = and_parts (at_last (is_origin net policy p) path) (not (list_any (is_origin net policy p) (front path))) parts.1 in
          absurd (true≢false (sym ends.0 ∙ no_last (is_origin net policy p) path none))
      | inr t ↦ ap (λ (b : Bool). if b then rank_of net s.ranked path else None) t
    ]
