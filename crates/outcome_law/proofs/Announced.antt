-- What peers can't do, of a configuration that is made of evidence.
use Rattle.std.proofs.Common.{◌≡◌, ℕ, true, List, [], Some, None, refl, ◌∙◌, inl, inr}
use Rattle.std.specs.Prelude.{is_some}
use Rattle.std.specs.Option.{is_none}
use Rattle.std.proofs.lemmas.Bool.{or_cases}
use Rattle.list_law.proofs.Options.{cases_Option, is_none_parts, is_some_parts, none_from, none_or_some}
use Rattle.net_base.specs.declared.loc.LocSet.{LocSet}
use Rattle.net_base.specs.Network.{PlainNet, IsNet, is_peer, is_router}
use Rattle.net_base.specs.Prefixes.{PlainPrefix, IsPrefix}
use Rattle.net_base.proofs.RoutersAndPeers.{router_no_peer}
use Rattle.policy_base.specs.Policies.{PlainPolicy, IsPolicyOf}
use Rattle.policy_base.specs.Governing.{originated_at, statement_of}
use Rattle.config_base.specs.Configs.{PlainConfig}
use Rattle.config_base.specs.Lines.{class_of}
use Rattle.evidence_base.specs.Made.{PlainCaseEvidence}
use Rattle.outcome_base.specs.Outcomes.{Failures, IsStable}
use Rattle.outcome_base.specs.Announcements.{Announcements, FullOutcome, FullRoute, full_at, inside, silenced, taken_under, given_under, IsStableUnder}
use Rattle.outcome_base.specs.Withstanding.{LeaksNothing, RefusesOwn}
use Rattle.evidence_law.specs.Passes.{IsMadeOf}
use Rattle.evidence_law.proofs.MadeCases.{has_no_class}
use Rattle.outcome_law.proofs.Inside.{behind, given-parts, none_given, sent-router-none, sent-router-refused, stable_inside, taken-none}
use Rattle.outcome_law.proofs.Peers.{no_line, no_peer_originates, nothing_exported, peers_are_origins}

module _ (net : PlainNet) (policy : PlainPolicy) (config : PlainConfig) (cs : List PlainCaseEvidence) (rules : IsNet net) (kept : IsPolicyOf net policy) (made : IsMadeOf net policy config cs) where
  -- an outcome that is stable under announcements is stable in the plain sense, while the sessions of no use are silent besides
  pub announcements_are_silences : (p : PlainPrefix) (f : Failures) (says : Announcements) (full : FullOutcome) → IsPrefix p
      → IsStableUnder net policy config f says p full → IsStable net policy config (silenced net says f) p (inside full)
  announcements_are_silences p f says full prefix stable =
      stable_inside net policy config f says p full rules stable
      (λ class of_class u v peer router other tag. no_line net policy config cs rules kept made p prefix class of_class u v peer router other tag)

  pub leaks_nothing : LeaksNothing net policy config
  leaks_nothing p f says full prefix outside r peer router at_peer = elim (cases_Option (full_at full r)) [
    | inl none ↦ sent-router-none net policy config f says p full r peer (router_no_peer net r router) none
    | inr t ↦ elim (cases_Option (class_of config p)) [
      | inl free ↦ rw (free, router_no_peer net r router) refl
      | inr c ↦ sent-router-refused net policy config f says p full c.0 c.1 r peer t.0 (router_no_peer net r router) t.1
          (nothing_exported net policy config cs rules kept made p prefix c.0 c.1 peer r t.0.route.tag router (peers_are_origins net policy p peer outside ∙ at_peer))
    ]
  ]

  -- ---- what is refused

  -- without a class, or an import line, nothing is taken from a peer
  module _ (p : PlainPrefix) (f : Failures) (says : Announcements) (full : FullOutcome) (prefix : IsPrefix p) (peer r : ℕ) where
    refused_originated : (at : LocSet) → originated_at policy.origins p ≡ Some at → is_peer net peer ≡ true → is_router net r ≡ true → given_under net config f says p full peer r ≡ None
    refused_originated at is at_peer router = none_from (given_under net config f says p full peer r) (λ t h.
        let x = given-parts net policy config f says p full peer r t h in
        let none = no_line net policy config cs rules kept made p prefix x.1 x.2 peer r at_peer router (no_peer_originates net policy p at peer kept is at_peer) x.3.tag in
        none_or_some (taken_under net config x.1 r peer x.3) t (taken-none net config x.1 r peer x.3 none) x.5)

    refused_ungoverned : statement_of policy p ≡ None → given_under net config f says p full peer r ≡ None
    refused_ungoverned is = none_given net policy config f says p full (has_no_class net policy config cs rules kept made p prefix is) peer r

  pub refuses_own : RefusesOwn net policy config
  refuses_own p f says full prefix which peer r at_peer router = elim (or_cases (is_some (originated_at policy.origins p)) (is_none (statement_of policy p)) which) [
    | inl own ↦ (let at = is_some_parts (originated_at policy.origins p) own in refused_originated p f says full prefix peer r at.0 at.1 at_peer router)
    | inr bare ↦ refused_ungoverned p f says full prefix peer r (is_none_parts (statement_of policy p) bare)
  ]

  -- of an originated prefix nothing that a peer announces stands behind any path
  pub originated_paths_are_own : (p : PlainPrefix) (at : LocSet) (f : Failures) (says : Announcements) (full : FullOutcome) → IsPrefix p
      → originated_at policy.origins p ≡ Some at → IsStableUnder net policy config f says p full
      → (r : ℕ) (t : FullRoute) → is_router net r ≡ true → full_at full r ≡ Some t → t.behind ≡ []
  originated_paths_are_own p at f says full prefix is stable r t router has =
      behind net policy config f says p full rules stable (λ b. b ≡ []) refl
      (λ u v class m x peer taker none of_class sends takes.
      absurd (none_or_some (taken_under net config class v u m) x
      (taken-none net config class v u m (no_line net policy config cs rules kept made p prefix class of_class u v peer taker (no_peer_originates net policy p at u kept is peer) m.tag)) takes))
      r t router has
