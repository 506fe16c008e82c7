-- Best ranks exist, and without failures every node is reached.
use Rattle.std.proofs.Common.{◌≡◌, ℕ, ◌≤◌, List, [], ◌∷◌, Option, Some, None, refl, sym, ap, ◌∙◌, inl, inr, subst}
use Rattle.net_base.specs.Network.{PlainNet, IsNet}
use Rattle.net_base.specs.Prefixes.{PlainPrefix}
use Rattle.policy_base.specs.Policies.{PlainPolicy, PlainStatement, IsPolicyOf}
use Rattle.policy_base.specs.Permitted.{IsClaimedRouter, IsClaimedSession}
use Rattle.graph_base.specs.Runs.{place_of, run, rank_at}
use Rattle.config_base.specs.Configs.{PlainConfig}
use Rattle.evidence_base.specs.Made.{PlainCaseEvidence, number_at}
use Rattle.outcome_base.specs.Outcomes.{Failures, no_failures}
use Rattle.evidence_law.specs.Passes.{Passes}
use Rattle.graph_base.proofs.RunSteps.{run_begins, run_inside}
use Rattle.evidence_law.proofs.Setting.{setup_of}
use Rattle.routing_law.specs.Settling.{Tops}
use Rattle.routing_law.proofs.Reach.{tops}
use Rattle.settled_law.specs.Greatest.{IsReachedAt}
use Rattle.settled_law.proofs.SettledLaw.{CaseFound, case_or_bare}
use Rattle.impact_law.specs.BestRanks.{AreTops, IsBestRank, IsTopAt, rank_over}
use Rattle.impact_law.specs.Support.{BestRanksExist, NodesAreReachedWithoutFailures}
use Rattle.impact_law.proofs.BestRanks.{from_law, nothing_is_claimed, to_law, told}
use Rattle.impact_law.proofs.Support.{survives_all}

module _ (net : PlainNet) (policy : PlainPolicy) (config : PlainConfig) (cs : List PlainCaseEvidence) (rules : IsNet net)
    (kept : IsPolicyOf net policy) (passes : Passes net policy config cs) (f : Failures) (p : PlainPrefix)
    (c : CaseFound net policy config cs rules kept passes f p) where
  all_tops : Tops (setup_of net f c.d)
  all_tops = tops (setup_of net f c.d) c.lines.formed

  -- a top, or nothing that is reached
  is_top : (r n : ℕ) → all_tops.top r ≡ Some n → IsTopAt net f c.d r n
  is_top r n is = record {
    reached = from_law net policy config cs rules kept passes f p c r n (all_tops.is_reached r n is);
    over = λ m at.
        let o = all_tops.over r m (to_law net policy config cs rules kept passes f p c r m at) in
        let one : Some o.0 ≡ Some n = sym o.1 ∙ is in
        let same : o.0 ≡ n = cc in
        subst (λ k. number_at c.d m ≤ number_at c.d k) same o.2;
  }

  no_top : (r : ℕ) → all_tops.top r ≡ None → (n : ℕ) → ¬ IsReachedAt net f c.d r n
  no_top r none n at =
      let o = all_tops.over r n (to_law net policy config cs rules kept passes f p c r n at) in
      let clash : None ≡ Some o.0 = sym none ∙ o.1 in
      absurd (cc)

  pub tops_exist : (top : ℕ → Option ℕ) × AreTops net f c.d top
  tops_exist = (all_tops.top, record { some = is_top; none = λ r router none. no_top r none })

  router : (r : ℕ) → IsClaimedRouter net policy p c.s r → (o : Option ℕ) → all_tops.top r ≡ o → (rank : Option ℕ) × IsBestRank net policy f p c.s (r ∷ []) rank
  router r claimed None is = (None, (told net policy config cs rules kept passes f p c).no_router r claimed (no_top r is))
  router r claimed (Some n) is = (rank_at c.d.graph n, (told net policy config cs rules kept passes f p c).router r n claimed (is_top r n is))

  session : (r peer : ℕ) → IsClaimedSession net policy p c.s r peer → (o : Option ℕ) → all_tops.top r ≡ o → (rank : Option ℕ) × IsBestRank net policy f p c.s (peer ∷ r ∷ []) rank
  session r peer claimed None is = (None, (told net policy config cs rules kept passes f p c).no_session r peer claimed (no_top r is))
  session r peer claimed (Some n) is = (rank_over net f c.d n r peer, (told net policy config cs rules kept passes f p c).session r peer n claimed (is_top r n is))

  pub ranks : ((r : ℕ) → IsClaimedRouter net policy p c.s r → (rank : Option ℕ) × IsBestRank net policy f p c.s (r ∷ []) rank)
      × ((r peer : ℕ) → IsClaimedSession net policy p c.s r peer → (rank : Option ℕ) × IsBestRank net policy f p c.s (peer ∷ r ∷ []) rank)
  ranks = (λ r claimed. router r claimed (all_tops.top r) refl, λ r peer claimed. session r peer claimed (all_tops.top r) refl)

pub best_ranks_exist : BestRanksExist
best_ranks_exist net policy config cs rules kept passes p f s prefix governs = elim (case_or_bare net policy config cs rules kept passes f p prefix) [
  | inr free ↦ (
      let none = nothing_is_claimed net policy config cs rules kept passes p s prefix governs free in
      (λ r claimed. absurd (none.0 r claimed), λ r peer claimed. absurd (none.1 r peer claimed)))
  | inl c ↦ (
      let by : Some c.s ≡ Some s = sym c.governs ∙ governs in
      let same : c.s ≡ s = cc in
      subst
      (λ (t : PlainStatement). ((r : ℕ) → IsClaimedRouter net policy p t r → (rank : Option ℕ) × IsBestRank net policy f p t (r ∷ []) rank)
      × ((r peer : ℕ) → IsClaimedSession net policy p t r peer → (rank : Option ℕ) × IsBestRank net policy f p t (peer ∷ r ∷ []) rank))
      same (ranks net policy config cs rules kept passes f p c))
]

pub nodes_are_reached_without_failures : NodesAreReachedWithoutFailures
nodes_are_reached_without_failures net s c on = (
  λ n node. here n (on.faithful.is_ended n node).0 (on.faithful.is_ended n node).2,
  λ r n f at. (run_inside c.graph on.graph (r ∷ at.0) n at.1, run_begins c.graph r n at.0 at.1),
)
  where
    here : (n : ℕ) (path : List ℕ) → run c.graph path ≡ Some n → IsReachedAt net no_failures c (place_of c.graph n) n
    here n [] h = absurd (cc)
    here n (l ∷ ls) h =
        let at = run_begins c.graph l n ls h in
        (ls, ap (λ z. run c.graph (z ∷ ls)) at ∙ h, survives_all net (place_of c.graph n ∷ ls))
