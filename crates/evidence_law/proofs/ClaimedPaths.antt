-- The path of a claimed router is permitted where it has a run in the graph of the prefix's case: its node has a rank.
use Rattle.std.proofs.Common.{◌≡◌, ℕ, Bool, true, List, ◌∷◌, Some, sym, ap, ◌∙◌, subst}
use Rattle.std.specs.Prelude.{◌&&◌, not, is_some}
use Rattle.std.proofs.lemmas.Bool.{and_from, not_from_false}
use Rattle.net_base.specs.Network.{PlainNet, IsNet}
use Rattle.net_base.specs.Sets.{holds}
use Rattle.net_base.specs.Prefixes.{PlainPrefix}
use Rattle.policy_base.specs.Policies.{PlainPolicy, PlainStatement}
use Rattle.policy_base.specs.Meaning.{rank_of}
use Rattle.policy_base.specs.Governing.{is_origin}
use Rattle.policy_base.specs.Permitted.{from_holds, IsClaimedRouter}
use Rattle.graph_base.specs.Runs.{run}
use Rattle.graph_base.proofs.RunSteps.{run_begins, run_inside}
use Rattle.evidence_base.specs.Made.{PlainCaseEvidence, number_at}
use Rattle.evidence_law.specs.Faithful.{is_walk_to, may_start, permits}
use Rattle.evidence_law.specs.Passes.{IsClaimed, IsCaseGraph}
use Rattle.evidence_law.proofs.CaseOrigins.{case_permits, no_case_origin}
use Rattle.evidence_law.proofs.GraphRanks.{rank_of_run}

module _ (net : PlainNet) (policy : PlainPolicy) (p : PlainPrefix) (s : PlainStatement) (c : PlainCaseEvidence) (same : holds c.case.origins ≡ is_origin net policy p) where
  abbrev Origin : ℕ → Bool
  Origin = holds c.case.origins

  -- who is claimed for the prefix is claimed for its case
  pub claimed_here : (r : ℕ) → IsClaimedRouter net policy p s r → (may_start Origin s r ≡ true) × IsClaimed net s c.case r
  claimed_here r claimed =
      let may = and_from (from_holds s.from r) (not (Origin r)) claimed.from (not_from_false _ (no_case_origin same r claimed.no_origin)) in
      (may, record { at_router = claimed.at_router; may = may; starts = (claimed.starts.0, case_permits net policy p s same (r ∷ claimed.starts.0) claimed.starts.1) })

  pub claimed_permits : IsNet net → IsCaseGraph net s c → (r n : ℕ) (rest : List ℕ) → IsClaimedRouter net policy p s r → run c.graph (r ∷ rest) ≡ Some n → permits net Origin s (r ∷ rest) ≡ true
  claimed_permits rules on r n rest claimed h =
      let mine = claimed_here r claimed in
      let at = run_begins c.graph r n rest h in
      let ranked = on.ranked n (run_inside c.graph on.graph (r ∷ rest) n h) (subst (IsClaimed net s c.case) (sym at) mine.1) in
      let rank = rank_of_run net s c.case c.graph (number_at c) rules on.graph on.faithful r n rest mine.0 h in
      and_from (is_walk_to net Origin (r ∷ rest) && from_holds s.from r) (is_some (rank_of net s.ranked (r ∷ rest))) rank.1 (ap is_some (sym rank.0) ∙ ranked)
