-- Reports of what shows the same of routers and of sessions.
use Rattle.std.proofs.Common.{◌≡◌, ℕ, ◌<◌, List, ◌++◌, length, Option, refl, sym, ap₂, ◌∙◌}
use Rattle.std.specs.Prelude.{◌↔◌, IsTrue}
use Rattle.list_law.proofs.Changed.{flat_map_same}
use Rattle.net_base.proofs.NumbersBelow.{below_from_In}
use Rattle.net_base.specs.Locations.{numbers_below}
use Rattle.net_base.specs.Network.{PlainNet, is_peer, is_router}
use Rattle.net_base.specs.Prefixes.{PlainPrefix}
use Rattle.policy_base.specs.Governing.{statement_of}
use Rattle.policy_base.specs.Policies.{PlainPolicy, PlainStatement}
use Rattle.config_base.specs.Configs.{PlainConfig}
use Rattle.outcome_claims.specs.Claims.{AreClaimed, Sources}
use Rattle.outcome_report.specs.Lines.{Shown, head_lines, report_text, router_line, session_line}
use Rattle.outcome_report.specs.Report.{IsReport}

-- they show the same of each router, and of each pair of a router and a peer
pub record ShowAlike (net : PlainNet) (one other : Shown) : Type 0 where
  pub dead : (r : ℕ) → r < length net.routers → one.dead r ≡ other.dead r
  pub path : (r : ℕ) → r < length net.routers → one.path r ≡ other.path r
  pub offer : (r peer : ℕ) → IsTrue (is_router net r) → IsTrue (is_peer net peer) → one.offer r peer ≡ other.offer r peer

module _ (net : PlainNet) (policy : PlainPolicy) (config : PlainConfig) (p : PlainPrefix) (one other : Shown) (alike : ShowAlike net one other) where
  same_router : (s : Option PlainStatement) (sources : Sources) (r : ℕ) → r < length net.routers → router_line net policy p s sources one r ≡ router_line net policy p s sources other r
  unfolding router_line
  same_router s sources r less = rw (alike.dead r less, alike.path r less) refl

  same_session : (s : Option PlainStatement) (x : ℕ × ℕ) → one.offer x.0 x.1 ≡ other.offer x.0 x.1 → session_line net s one x ≡ session_line net s other x
  unfolding session_line
  same_session s x same = rw same refl

  same_text : (sources : Sources) → AreClaimed net policy p sources → report_text net policy config p sources one ≡ report_text net policy config p sources other
  same_text sources claimed =
      ap₂ (λ (a b : List ℕ). head_lines config p ++ a ++ b)
      (flat_map_same (router_line net policy p (statement_of policy p) sources one) (router_line net policy p (statement_of policy p) sources other) (numbers_below (length net.routers))
      (λ r at. same_router (statement_of policy p) sources r (below_from_In r (length net.routers) at)))
      (flat_map_same (session_line net (statement_of policy p) one) (session_line net (statement_of policy p) other) sources.sessions
      (λ x at. let session = ((claimed.sessions x.0 x.1).0 at).2 in same_session (statement_of policy p) x (alike.offer x.0 x.1 session.at_router session.at_peer)))

  -- they have the same reports
  pub same_reports : (text : List ℕ) → IsReport net policy config p one text ↔ IsReport net policy config p other text
  same_reports text = (
    λ x. record { sources = x.sources; claimed = x.claimed; spelled = x.spelled ∙ same_text x.sources x.claimed },
    λ x. record { sources = x.sources; claimed = x.claimed; spelled = x.spelled ∙ sym (same_text x.sources x.claimed) },
  )
