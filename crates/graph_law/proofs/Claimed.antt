-- The claimed routers of a faithful graph, by the ranks of its nodes.
use Rattle.std.proofs.Common.{◌≡◌, ℕ, ◌<◌, Bool, true, List, [], ◌∷◌, length, Some, sym, ap, ◌∙◌, inl, inr}
use Rattle.std.specs.Prelude.{◌↔◌, ◌&&◌, not, is_some}
use Rattle.std.proofs.lemmas.Bool.{and_parts, and_from, cases_Bool, not-true, or_left, true≢false}
use Rattle.net_base.specs.Network.{PlainNet, is_router}
use Rattle.net_base.specs.Sets.{holds}
use Rattle.policy_base.specs.declared.case.Case.{Case}
use Rattle.policy_base.specs.Policies.{PlainStatement}
use Rattle.policy_base.specs.Meaning.{at_first, rank_of}
use Rattle.policy_base.specs.Permitted.{from_holds}
use Rattle.graph_base.specs.Graphs.{PlainGraph, IsGraph}
use Rattle.graph_base.specs.Ranked.{IsRankedAt, IsRankedRouter}
use Rattle.graph_base.specs.Runs.{place_of, rank_at, run}
use Rattle.evidence_law.specs.Faithful.{IsFaithful, is_walk_to, may_start, permits}
use Rattle.evidence_law.specs.Passes.{IsClaimed}
use Rattle.list_law.proofs.Options.{is_some_parts}
use Rattle.graph_base.proofs.RunSteps.{run_begins, run_inside}
use Rattle.graph_base.proofs.StartsAndSteps.{start_at-is}
use Rattle.evidence_law.proofs.RunWalks.{runs_are_walks}
use Rattle.graph_law.proofs.RunPaths.{walk-from_run_path}

module _ (net : PlainNet) (s : PlainStatement) (c : Case) (g : PlainGraph) (graph_rules : IsGraph g) (faithful : IsFaithful net s (holds c.origins) c.external g) where
  abbrev Origin : ℕ → Bool
  Origin = holds c.origins

  -- a node that has a rank is where a walk may start
  pub ranked_may : (n : ℕ) → n < length g.nodes → is_some (rank_at g n) ≡ true → may_start Origin s (place_of g n) ≡ true
  ranked_may n node ranked = elim (cases_Bool (may_start Origin s (place_of g n))) [
    | inl t ↦ t
    | inr f ↦ absurd (true≢false (sym ranked ∙ ap is_some (faithful.unranked n node (ap not f))))
  ]

  -- where a walk may start, a path with a run is a walk, and it has the rank of the node
  pub run_from : (r n : ℕ) (path : List ℕ) → place_of g n ≡ r → may_start Origin s r ≡ true → run g path ≡ Some n
      → (rest : List ℕ) × (path ≡ r ∷ rest) × (is_walk_to net Origin path ≡ true) × (rank_of net s.ranked path ≡ rank_at g n)
  run_from r n [] at may h = absurd cc
  run_from r n (l ∷ []) at may h =
      let is = start_at-is g l n h in
      let origin : Origin r ≡ true = ap Origin (sym at) ∙ faithful.formed.starts n is.0 in
      absurd (true≢false (sym origin ∙ not-true (Origin r) (and_parts (from_holds s.from r) (not (Origin r)) may).1))
  run_from r n (l ∷ k ∷ ls) at may h =
      let begins : l ≡ r = sym (run_begins g l n (k ∷ ls) h) ∙ at in
      let there : may_start Origin s (place_of g n) ≡ true = ap (may_start Origin s) at ∙ may in (
        k ∷ ls,
        ap (λ z. z ∷ k ∷ ls) begins,
        walk-from_run_path net Origin l k ls (runs_are_walks net Origin c.external g graph_rules faithful.formed (l ∷ k ∷ ls) n h),
        sym (faithful.ranks (l ∷ k ∷ ls) n h there),
      )

  -- such a path is permitted where the node has a rank
  pub ranked_permits : (r n : ℕ) (path : List ℕ) → place_of g n ≡ r → may_start Origin s r ≡ true → run g path ≡ Some n → is_some (rank_at g n) ≡ true → permits net Origin s path ≡ true
  ranked_permits r n path at may h ranked =
      let is = run_from r n path at may h in
      let first : at_first (from_holds s.from) path ≡ true = ap (at_first (from_holds s.from)) is.1 ∙ (and_parts (from_holds s.from r) (not (Origin r)) may).0 in
      and_from (is_walk_to net Origin path && at_first (from_holds s.from) path) (is_some (rank_of net s.ranked path))
      (and_from (is_walk_to net Origin path) (at_first (from_holds s.from) path) is.2 first)
      (ap is_some is.3 ∙ ranked)

  -- a router with a node that has a rank is claimed
  ranked_claims : (r n : ℕ) → is_router net r ≡ true → IsRankedAt g r n → IsClaimed net s c r
  ranked_claims r n router node =
      let may : may_start Origin s r ≡ true = ap (may_start Origin s) (sym node.1) ∙ ranked_may n node.0 node.2 in
      let ended = faithful.is_ended n node.0 in
      let is = run_from r n ended.0 node.1 may ended.2 in
      let permitted = ranked_permits r n ended.0 node.1 may ended.2 node.2 in
      record { at_router = router; may = may; starts = (is.0, ap (permits net Origin s) (sym is.1) ∙ permitted) }

  -- where a permitted walk starts there is such a node
  permitted_node : (r : ℕ) (rest : List ℕ) → may_start Origin s r ≡ true → permits net Origin s (r ∷ rest) ≡ true → (n : ℕ) × IsRankedAt g r n
  permitted_node r rest may permitted =
      let parts = and_parts (is_walk_to net Origin (r ∷ rest) && from_holds s.from r) (is_some (rank_of net s.ranked (r ∷ rest))) permitted in
      let walk = (and_parts (is_walk_to net Origin (r ∷ rest)) (from_holds s.from r) parts.0).0 in
      let found = is_some_parts (run g (r ∷ rest)) (faithful.has_run [] (r ∷ rest) (or_left (is_walk_to net Origin (r ∷ rest)) _ walk) permitted) in
      let at = run_begins g r found.0 rest found.1 in
      let is = run_from r found.0 (r ∷ rest) at may found.1 in
      (found.0, (run_inside g graph_rules (r ∷ rest) found.0 found.1, at, ap is_some (sym is.3) ∙ parts.1))

  -- the claimed routers are those at which a node has a rank
  pub claimed_where_ranked : (l : ℕ) → IsRankedRouter net g l ↔ IsClaimed net s c l
  claimed_where_ranked l = (
    λ h. ranked_claims l h.1.0 h.0 h.1.1,
    λ h. (h.at_router, permitted_node l h.starts.0 h.may h.starts.1),
  )
