-- The ranks of a faithful graph's nodes are those of the permitted walks.
use Rattle.std.proofs.Common.{◌≡◌, ℕ, ◌≤◌, Bool, true, List, [], ◌∷◌, Some, refl, sym, ap, ◌∙◌, arith}
use Rattle.std.specs.Prelude.{◌↔◌, not, is_some}
use Rattle.std.specs.List.{list_any}
use Rattle.std.proofs.lemmas.Bool.{and_parts, and_from, or_left, or_parts, not-true, not_from_false, false≢true}
use Rattle.net_base.specs.Network.{PlainNet}
use Rattle.net_base.specs.Sets.{holds}
use Rattle.policy_base.specs.declared.case.Case.{Case}
use Rattle.policy_base.specs.Policies.{PlainStatement}
use Rattle.policy_base.specs.Meaning.{alternative_count, alternatives, at_last, front, rank_of}
use Rattle.policy_base.proofs.RankPlaces.{length-alternatives, place_of-within}
use Rattle.policy_base.specs.Permitted.{ends_at_origin, from_holds}
use Rattle.policy_base.specs.Walks.{is_walk}
use Rattle.graph_base.specs.Graphs.{PlainGraph, IsGraph}
use Rattle.graph_base.specs.Runs.{place_of, rank_at, run}
use Rattle.graph_base.proofs.RunSteps.{run_begins, run_inside}
use Rattle.evidence_law.specs.Faithful.{IsFaithful, is_walk_to, may_start, permits}
use Rattle.evidence_law.proofs.PermittedWalks.{permits_parts}
use Rattle.list_law.proofs.Options.{is_some_parts}
use Rattle.graph_law.proofs.Claimed.{ranked_may, run_from, ranked_permits}
use Rattle.lint_ranks.specs.Marks.{HasRank}
use Rattle.lint_ranks.specs.Reached.{IsRankOfCase}

-- a rank is the place of an alternative
pub rank_within : (net : PlainNet) (s : PlainStatement) (c : Case) (k : ℕ) → IsRankOfCase net s c k → (1 ≤ k) × (k ≤ alternative_count s.ranked)
rank_within net s c k is =
    let within = place_of-within (alternatives net s.ranked) is.0 1 k is.2 in
    (within.0, omega (arith, within.1, length-alternatives net s.ranked))

-- where a permitted walk starts a walk may start
permits-may : (net : PlainNet) (origin : ℕ → Bool) (s : PlainStatement) (l : ℕ) (ls : List ℕ) → permits net origin s (l ∷ ls) ≡ true → may_start origin s l ≡ true
permits-may net origin s l [] h = absurd (false≢true h)
permits-may net origin s l (k ∷ ls) h =
    let parts = permits_parts net origin s (l ∷ k ∷ ls) h in
    let ends = and_parts (at_last origin (l ∷ k ∷ ls)) (not (list_any origin (front (l ∷ k ∷ ls)))) parts.1 in
    let none = or_parts (origin l) (list_any origin (front (k ∷ ls))) (not-true (list_any origin (front (l ∷ k ∷ ls))) ends.1) in
    and_from (from_holds s.from l) (not (origin l)) parts.2 (not_from_false (origin l) none.0)

module _ (net : PlainNet) (s : PlainStatement) (c : Case) (g : PlainGraph) (k : ℕ) (rules : IsGraph g) (faithful : IsFaithful net s (holds c.origins) c.external g) where
  to_walk : HasRank g k → IsRankOfCase net s c k
  to_walk node =
      let some : is_some (rank_at g node.0) ≡ true = ap is_some node.2 in
      let may = ranked_may net s c g rules faithful node.0 node.1 some in
      let ended = faithful.is_ended node.0 node.1 in
      let is = run_from net s c g rules faithful (place_of g node.0) node.0 ended.0 refl may ended.2 in
      (ended.0, ranked_permits net s c g rules faithful (place_of g node.0) node.0 ended.0 refl may ended.2 some, is.3 ∙ node.2)

  to_node : (path : List ℕ) → permits net (holds c.origins) s path ≡ true → rank_of net s.ranked path ≡ Some k → HasRank g k
  to_node [] h r = absurd (false≢true h)
  to_node (l ∷ ls) h r =
      let may = permits-may net (holds c.origins) s l ls h in
      let parts = permits_parts net (holds c.origins) s (l ∷ ls) h in
      let walk = and_from (is_walk net (l ∷ ls)) (ends_at_origin (holds c.origins) (l ∷ ls)) parts.0 parts.1 in
      let found = is_some_parts (run g (l ∷ ls)) (faithful.has_run [] (l ∷ ls) (or_left (is_walk_to net (holds c.origins) (l ∷ ls)) _ walk) h) in
      let at = run_begins g l found.0 ls found.1 in
      let is = run_from net s c g rules faithful l found.0 (l ∷ ls) at may found.1 in
      (found.0, run_inside g rules (l ∷ ls) found.0 found.1, sym is.3 ∙ r)

  pub both : HasRank g k ↔ IsRankOfCase net s c k
  both = (to_walk, λ w. to_node w.0 w.1 w.2)
