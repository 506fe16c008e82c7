-- The ranks that tops tell are best ranks.
use Rattle.std.proofs.Common.{◌≡◌, ℕ, Bool, true, false, [], ◌∷◌, Option, Some, None, refl, sym, ap, ◌∙◌, subst}
use Rattle.std.specs.Prelude.{◌&&◌, not, option_and_then, if◌then◌else◌}
use Rattle.std.proofs.Math.Bool.{and-true}
use Rattle.list_law.proofs.Truth.{if_same}
use Rattle.net_base.specs.Network.{PlainNet, is_router}
use Rattle.net_base.specs.Prefixes.{PlainPrefix}
use Rattle.net_base.proofs.RoutersAndPeers.{router_no_peer}
use Rattle.policy_base.specs.Permitted.{IsClaimedRouter, IsClaimedSession}
use Rattle.policy_base.specs.Policies.{PlainPolicy, PlainStatement}
use Rattle.graph_base.specs.Graphs.{PlainGraph}
use Rattle.graph_base.specs.Runs.{place_of, rank_at, step_at}
use Rattle.graph_base.proofs.RunSteps.{run_begins}
use Rattle.evidence_base.specs.Made.{PlainCaseEvidence}
use Rattle.outcome_base.specs.Outcomes.{Failures, is_live, is_silent}
use Rattle.scenarios.specs.Surviving.{AreSurvivors, carries}
use Rattle.scenarios.specs.declared.survivors.Survivors.{Survivors}
use Rattle.settled_outcome.specs.Surviving.{left_by}
use Rattle.impact_law.specs.BestRanks.{AreToldByTops, AreTops, IsBestRank, rank_at_peer, rank_over}
use Rattle.impact_law.specs.Impacts.{IsSource, begin_at}
use Rattle.cut_ranks.specs.Left.{spares}
use Rattle.cut_ranks.specs.Paths.{rank_under}
use Rattle.cut_ranks.proofs.Besides.{IsBesides, live_is}
use Rattle.cut_ranks.proofs.Opening.{step_left}

module _ (net : PlainNet) (policy : PlainPolicy) (p : PlainPrefix) (s : PlainStatement) (c : PlainCaseEvidence) (f k h : Failures)
    (besides : IsBesides f k h) (t : Survivors) (are : AreSurvivors net f t)
    (told : AreToldByTops net policy h p s c) (top : ℕ → Option ℕ) (tops : AreTops net h c top) where
  abbrev left : PlainGraph
  left = left_by net t c.graph

  -- what a router announces comes over each link that lives
  carried : (r peer : ℕ) → is_router net r ≡ true → carries net f r peer ≡ is_live net f r peer
  carried r peer at = ap (λ o. is_live net f r peer && not (o && is_silent f peer r)) (router_no_peer net r at) ∙ and-true (is_live net f r peer)

  over_spared : (r peer n : ℕ) → is_router net r ≡ true → place_of c.graph n ≡ r → rank_over net h c n r peer ≡ (if spares k r peer then rank_at_peer left n peer else None)
  over_spared r peer n at here =
      let step : step_at left n peer ≡ (if is_live net f r peer then step_at c.graph n peer else None) =
      step_left net f t are c.graph n peer ∙ ap (λ l. if carries net f l peer then step_at c.graph n peer else None) here ∙ ap (λ o. if o then step_at c.graph n peer else None) (carried r peer at) in
      ap (λ o. if o then option_and_then (rank_at c.graph) (step_at c.graph n peer) else None) (live_is net f k h besides r peer)
      ∙ by (is_live net f r peer) (spares k r peer)
      ∙ ap (λ o. if spares k r peer then option_and_then (rank_at c.graph) o else None) (sym step)
    where
      by : (live spared : Bool) → (if live && spared then option_and_then (rank_at c.graph) (step_at c.graph n peer) else None)
          ≡ (if spared then option_and_then (rank_at c.graph) (if live then step_at c.graph n peer else None) else None)
      by true true = refl
      by true false = refl
      by false true = refl
      by false false = refl

  of_router : (r : ℕ) (o : Option ℕ) → top r ≡ o → IsClaimedRouter net policy p s r → IsBestRank net policy h p s (r ∷ []) (option_and_then (rank_at c.graph) o)
  of_router r None is claimed = told.no_router r claimed (tops.none r claimed.at_router is)
  of_router r (Some n) is claimed = told.router r n claimed (tops.some r n is)

  of_session : (r peer : ℕ) (o : Option ℕ) → top r ≡ o → IsClaimedSession net policy p s r peer
      → IsBestRank net policy h p s (peer ∷ r ∷ []) (if spares k r peer then option_and_then (λ n. rank_at_peer left n peer) o else None)
  of_session r peer None is claimed =
      subst (λ (o : Option ℕ). IsBestRank net policy h p s (peer ∷ r ∷ []) o) (sym (if_same (spares k r peer) None))
      (told.no_session r peer claimed (tops.none r claimed.at_router is))
  of_session r peer (Some n) is claimed =
      let at = tops.some r n is in
      subst (λ (o : Option ℕ). IsBestRank net policy h p s (peer ∷ r ∷ []) o)
      (over_spared r peer n claimed.at_router (run_begins c.graph r n at.reached.0 at.reached.1)) (told.session r peer n claimed at)

  pub ranks_told : (r : ℕ) (peer : Option ℕ) → IsSource net policy p s r peer → IsBestRank net policy h p s (begin_at r peer) (rank_under left k top r peer)
  ranks_told r None claimed = of_router r (top r) refl claimed
  ranks_told r (Some peer) claimed = of_session r peer (top r) refl claimed
