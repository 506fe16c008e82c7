-- Where nothing is claimed no path is ranked, and where packets go has one text.
use Rattle.std.proofs.Common.{◌≡◌, ℕ, Bool, false, List, ◌++◌, length, Option, Some, None, refl, sym, ap, ap₂, ◌∙◌, inl, inr}
use Rattle.std.specs.Prelude.{not}
use Rattle.std.specs.List.{flat_map}
use Rattle.list_law.specs.Members.{IsIn}
use Rattle.list_law.proofs.Truth.{same_tests}
use Rattle.list_law.proofs.Changed.{filter_same, flat_map_same}
use Rattle.net_base.specs.Locations.{numbers_below}
use Rattle.net_base.specs.Network.{PlainNet}
use Rattle.net_base.specs.Prefixes.{PlainPrefix}
use Rattle.location_names.specs.Neighbours.{is_held}
use Rattle.policy_base.specs.Governing.{statement_of}
use Rattle.policy_base.specs.Policies.{PlainPolicy, PlainStatement}
use Rattle.config_base.specs.Configs.{PlainConfig}
use Rattle.outcome_base.specs.Outcomes.{Failures, Outcome}
use Rattle.outcome_claims.specs.Claims.{AreClaimed, AreClaims, AreNone, Sources, sources_of, statement_in}
use Rattle.outcome_claims.specs.declared.claims.Claims.{Claims}
use Rattle.outcome_report.specs.Lines.{Shown, head_lines}
use Rattle.outcome_report.specs.Report.{shown_of}
use Rattle.outcome_claims.proofs.Ascending.{one_ascent}
use Rattle.multipath_law.specs.Carried.{IsMultipath, live_links}
use Rattle.multipath_law.specs.declared.multipath.Multipath.{Multipath}
use Rattle.multipath_report.specs.Texts.{IsMultipathText, count_line, idle_line, lines_by, router_line, sends_text, session_line}

-- five texts that were added one after another
pub five : (a b c d e one two three four all : List ℕ) → one ≡ a → two ≡ one ++ b → three ≡ two ++ c → four ≡ three ++ d → all ≡ four ++ e → all ≡ a ++ b ++ c ++ d ++ e
five a b c d e one two three four all first second third fourth last =
    last ∙ ap (λ t. t ++ e) (fourth ∙ ap (λ t. t ++ d) (third ∙ ap (λ t. t ++ c) (second ∙ ap (λ t. t ++ b) first)))

module _ (net : PlainNet) (policy : PlainPolicy) (p : PlainPrefix) (shown : Shown) (next : ℕ → ℕ → Bool) where
  -- a router that isn't claimed has one line, whatever ranks paths
  unranked : (s t : Option PlainStatement) (sources : Sources) (r : ℕ) → sources.routers r ≡ false → router_line net policy p s sources shown next r ≡ router_line net policy p t sources shown next r
  unfolding router_line
  unranked s t sources r off = rw (sends (shown.path r)) refl
    where
      sends : (o : Option (List ℕ)) → sends_text net s (sources.routers r) (next r) o ≡ sends_text net t (sources.routers r) (next r) o
      sends None = refl
      sends (Some path) = rw off refl

  -- a router's line depends on whether the router is claimed
  claimed_alike : (s : Option PlainStatement) (a b : Sources) (r : ℕ) → a.routers r ≡ b.routers r → router_line net policy p s a shown next r ≡ router_line net policy p s b shown next r
  unfolding router_line
  claimed_alike s a b r same = rw same refl

  module _ (config : PlainConfig) (idle : List (ℕ × ℕ)) (live : ℕ) where
    abbrev lines : Option PlainStatement → Sources → List ℕ
    lines s sources = lines_by net policy config p s sources shown next idle live

    pub lines_none : (s t : Option PlainStatement) (sources : Sources) → AreNone sources → lines s sources ≡ lines t sources
    lines_none s t sources none =
        ap₂ (λ (a b : List ℕ). head_lines config p ++ a ++ b ++ flat_map (idle_line net) idle ++ count_line (length idle) live)
        (flat_map_same (router_line net policy p s sources shown next) (router_line net policy p t sources shown next) (numbers_below (length net.routers)) (λ r _. unranked s t sources r (none.routers r)))
        (ap (flat_map (session_line net s shown)) none.sessions ∙ sym (ap (flat_map (session_line net t shown)) none.sessions))

    pub lines_alike : (s : Option PlainStatement) (a b : Sources) → AreClaimed net policy p a → AreClaimed net policy p b → lines s a ≡ lines s b
    lines_alike s a b x y =
        ap₂ (λ (c d : List ℕ). head_lines config p ++ c ++ d ++ flat_map (idle_line net) idle ++ count_line (length idle) live)
        (flat_map_same (router_line net policy p s a shown next) (router_line net policy p s b shown next) (numbers_below (length net.routers))
        (λ r _. claimed_alike s a b r (same_tests (a.routers r) (b.routers r) (λ h. (y.routers r).1 ((x.routers r).0 h)) (λ h. (x.routers r).1 ((y.routers r).0 h)))))
        (ap (flat_map (session_line net s shown))
        (one_ascent a.sessions b.sessions x.order y.order (λ e h. (y.sessions e.0 e.1).1 ((x.sessions e.0 e.1).0 h)) (λ e h. (x.sessions e.0 e.1).1 ((y.sessions e.0 e.1).0 h))))

-- lines by the statement of the claims are the text
pub whole : (net : PlainNet) (policy : PlainPolicy) (config : PlainConfig) (f : Failures) (p : PlainPrefix) (outcome : Outcome) (m : Multipath) (claims : Claims) (text : List ℕ)
    → AreClaims net policy p claims
    → text ≡ lines_by net policy config p (statement_in claims) (sources_of claims) (shown_of net policy config f p outcome) (is_held m.sets) m.idle m.live
    → IsMultipathText net policy config f p outcome m text
whole net policy config f p outcome m claims text are is =
    let shown = shown_of net policy config f p outcome in
    record {
      sources = sources_of claims;
      claimed = are.claimed;
      spelled = is
          ∙ elim are.ranked [
            | inl same ↦ ap (λ s. lines_by net policy config p s (sources_of claims) shown (is_held m.sets) m.idle m.live) same
            | inr none ↦ lines_none net policy p shown (is_held m.sets) config m.idle m.live (statement_in claims) (statement_of policy p) (sources_of claims) none
          ];
    }

-- ---- an outcome has one such text

module _ (net : PlainNet) (policy : PlainPolicy) (config : PlainConfig) (f : Failures) (p : PlainPrefix) (outcome : Outcome) (a b : Multipath)
    (x : IsMultipath net policy config f p outcome a) (y : IsMultipath net policy config f p outcome b) where
  abbrev told : (ℕ → ℕ → Bool) → List (ℕ × ℕ) → ℕ → Sources → List ℕ
  told next idle live sources = lines_by net policy config p (statement_of policy p) sources (shown_of net policy config f p outcome) next idle live

  held : (r z : ℕ) → is_held a.sets r z ≡ is_held b.sets r z
  held r z = same_tests (is_held a.sets r z) (is_held b.sets r z) (λ h. (y.sets r z).1 ((x.sets r z).0 h)) (λ h. (x.sets r z).1 ((y.sets r z).0 h))

  used : (link : ℕ × ℕ) → IsIn (live_links net f) link → not (x.is_used link) ≡ not (y.is_used link)
  used link at = ap not (same_tests (x.is_used link) (y.is_used link) (λ h. (y.each link at).1 ((x.each link at).0 h)) (λ h. (x.each link at).1 ((y.each link at).0 h)))

  idle_same : a.idle ≡ b.idle
  idle_same = x.idle ∙ filter_same (λ (link : ℕ × ℕ). not (x.is_used link)) (λ (link : ℕ × ℕ). not (y.is_used link)) (live_links net f) used ∙ sym y.idle

  live_same : a.live ≡ b.live
  live_same = x.live ∙ sym y.live

  pub one_text : (one other : List ℕ) → IsMultipathText net policy config f p outcome a one → IsMultipathText net policy config f p outcome b other → one ≡ other
  one_text one other is too =
      is.spelled
      ∙ lines_alike net policy p (shown_of net policy config f p outcome) (is_held a.sets) config a.idle a.live (statement_of policy p) is.sources too.sources is.claimed too.claimed
      ∙ (λ i. told (λ r z. held r z i) (idle_same i) (live_same i) too.sources)
      ∙ sym too.spelled
