-- Where nothing is claimed no path is ranked, and what is shown has one report.
use Rattle.std.proofs.Common.{◌≡◌, ℕ, false, List, ◌++◌, length, Option, Some, None, refl, sym, ap, ap₂, ◌∙◌, inl, inr}
use Rattle.std.specs.List.{flat_map}
use Rattle.list_law.proofs.Truth.{same_tests}
use Rattle.list_law.proofs.Changed.{flat_map_same}
use Rattle.net_base.specs.Locations.{numbers_below}
use Rattle.net_base.specs.Network.{PlainNet}
use Rattle.net_base.specs.Prefixes.{PlainPrefix}
use Rattle.policy_base.specs.Governing.{statement_of}
use Rattle.policy_base.specs.Policies.{PlainPolicy, PlainStatement}
use Rattle.config_base.specs.Configs.{PlainConfig}
use Rattle.outcome_claims.specs.Claims.{AreClaims, AreNone, Sources, sources_of, statement_in}
use Rattle.outcome_claims.specs.declared.claims.Claims.{Claims}
use Rattle.outcome_report.specs.Lines.{Shown, head_lines, held_text, lines_by, report_text, router_line, session_line}
use Rattle.outcome_report.specs.Report.{IsReport}
use Rattle.outcome_claims.proofs.Ascending.{one_ascent}

module _ (net : PlainNet) (policy : PlainPolicy) (p : PlainPrefix) (shown : Shown) where
  -- a router that isn't claimed has one line, whatever ranks paths
  unranked : (s t : Option PlainStatement) (sources : Sources) (r : ℕ) → sources.routers r ≡ false → router_line net policy p s sources shown r ≡ router_line net policy p t sources shown r
  unfolding router_line
  unranked s t sources r off = rw (held (shown.path r)) refl
    where
      held : (o : Option (List ℕ)) → held_text net s (sources.routers r) o ≡ held_text net t (sources.routers r) o
      held None = refl
      held (Some path) = rw off refl

  -- a router's line depends on whether the router is claimed
  claimed_alike : (s : Option PlainStatement) (a b : Sources) (r : ℕ) → a.routers r ≡ b.routers r → router_line net policy p s a shown r ≡ router_line net policy p s b shown r
  unfolding router_line
  claimed_alike s a b r same = rw same refl

  pub lines_none : (config : PlainConfig) (s t : Option PlainStatement) (sources : Sources) → AreNone sources
      → lines_by net policy config p s sources shown ≡ lines_by net policy config p t sources shown
  lines_none config s t sources none =
      ap₂ (λ (a b : List ℕ). head_lines config p ++ a ++ b)
      (flat_map_same (router_line net policy p s sources shown) (router_line net policy p t sources shown) (numbers_below (length net.routers)) (λ r _. unranked s t sources r (none.routers r)))
      (ap (flat_map (session_line net s shown)) none.sessions ∙ sym (ap (flat_map (session_line net t shown)) none.sessions))

  pub one_report : (config : PlainConfig) (a b : List ℕ) → IsReport net policy config p shown a → IsReport net policy config p shown b → a ≡ b
  one_report config a b x y = x.spelled ∙ texts ∙ sym y.spelled
    where
      routers : (r : ℕ) → x.sources.routers r ≡ y.sources.routers r
      routers r = same_tests (x.sources.routers r) (y.sources.routers r) (λ h. (y.claimed.routers r).1 ((x.claimed.routers r).0 h)) (λ h. (x.claimed.routers r).1 ((y.claimed.routers r).0 h))

      sessions : x.sources.sessions ≡ y.sources.sessions
      sessions =
          one_ascent x.sources.sessions y.sources.sessions x.claimed.order y.claimed.order
          (λ e h. (y.claimed.sessions e.0 e.1).1 ((x.claimed.sessions e.0 e.1).0 h))
          (λ e h. (x.claimed.sessions e.0 e.1).1 ((y.claimed.sessions e.0 e.1).0 h))

      texts : report_text net policy config p x.sources shown ≡ report_text net policy config p y.sources shown
      texts =
          ap₂ (λ (c d : List ℕ). head_lines config p ++ c ++ d)
          (flat_map_same (router_line net policy p (statement_of policy p) x.sources shown)
          (router_line net policy p (statement_of policy p) y.sources shown) (numbers_below (length net.routers))
          (λ r _. claimed_alike (statement_of policy p) x.sources y.sources r (routers r)))
          (ap (flat_map (session_line net (statement_of policy p) shown)) sessions)

-- lines by the statement of the claims are the report
pub whole : (net : PlainNet) (policy : PlainPolicy) (config : PlainConfig) (p : PlainPrefix) (claims : Claims) (shown : Shown) (text : List ℕ) → AreClaims net policy p claims
    → text ≡ lines_by net policy config p (statement_in claims) (sources_of claims) shown → IsReport net policy config p shown text
whole net policy config p claims shown text are is = record {
  sources = sources_of claims;
  claimed = are.claimed;
  spelled = is
      ∙ elim are.ranked [
        | inl same ↦ ap (λ s. lines_by net policy config p s (sources_of claims) shown) same
        | inr none ↦ lines_none net policy p shown config (statement_in claims) (statement_of policy p) (sources_of claims) none
      ];
}
