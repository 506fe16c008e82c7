-- What is claimed, in order, are the sources of the statement.
use Rattle.std.proofs.Common.{◌≡◌, ℕ, suc, ◌+◌, Bool, true, false, List, [], ◌∷◌, ◌++◌, append-nil, arith, length, map, filter, Option, Some, None, sym, ap, ◌∙◌, subst, inl, inr, ltb-true}
use Rattle.std.specs.Prelude.{if◌then◌else◌}
use Rattle.std.proofs.lemmas.List.{map-append}
use Rattle.std.proofs.lemmas.List.Elements.{filter-append}
use Rattle.list_law.specs.Members.{IsIn}
use Rattle.list_law.proofs.Members.{IsIn-append_cases, IsIn-append_left, IsIn-append_right, IsIn-filter, IsIn-filter_parts, IsIn-map, IsIn-map_parts}
use Rattle.net_base.specs.Locations.{numbers_below}
use Rattle.net_base.specs.Network.{PlainNet}
use Rattle.net_base.specs.Prefixes.{PlainPrefix}
use Rattle.net_base.proofs.NumbersBelow.{In-numbers_below}
use Rattle.policy_base.specs.Governing.{statement_of}
use Rattle.policy_base.specs.Permitted.{IsClaimedRouter, IsClaimedSession}
use Rattle.policy_base.specs.Policies.{PlainPolicy, PlainStatement}
use Rattle.outcome_claims.specs.Claims.{AreClaimed, Sources}
use Rattle.impact_law.specs.Impacts.{IsSource, Precedes}
use Rattle.impact_report.specs.declared.sources.Source.{Source}
use Rattle.impact_report.specs.Sources.{AreSources, router_source, router_sources, session_source, sources_in}
use Rattle.impact_report.proofs.Ordering.{Ordered, Ordered-append, Ordered-ascent, Ordered-map, Ordered-numbers, ordered_at}

abbrev Before : Source → Source → Type 0
Before x y = Precedes x.router x.peer y.router y.peer

module _ (net : PlainNet) (policy : PlainPolicy) (p : PlainPrefix) (s : PlainStatement) (governs : statement_of policy p ≡ Some s) (claimed : Sources) (are : AreClaimed net policy p claimed) where
  abbrev routers : List Source
  routers = router_sources claimed.routers (length net.routers)

  abbrev sessions : List Source
  sessions = map session_source claimed.sessions

  one_statement : (t : PlainStatement) → statement_of policy p ≡ Some t → t ≡ s
  one_statement t is = let both : Some t ≡ Some s = sym is ∙ governs in cc

  each : (x : Source) → IsIn (sources_in net claimed) x → IsSource net policy p s x.router x.peer
  each x at = elim (IsIn-append_cases routers sessions x at) [
    | inl h ↦ (
        let r = IsIn-map_parts router_source (filter claimed.routers (numbers_below (length net.routers))) x h in
        let test = (IsIn-filter_parts claimed.routers (numbers_below (length net.routers)) r.0 r.1).1 in
        let found = (are.routers r.0).0 test in
        subst (λ (y : Source). IsSource net policy p s y.router y.peer) r.2 (subst (λ (t : PlainStatement). IsClaimedRouter net policy p t r.0) (one_statement found.0 found.1) found.2))
    | inr h ↦ (
        let e = IsIn-map_parts session_source claimed.sessions x h in
        let found = (are.sessions e.0.0 e.0.1).0 e.1 in
        subst (λ (y : Source). IsSource net policy p s y.router y.peer) e.2 (subst (λ (t : PlainStatement). IsClaimedSession net policy p t e.0.0 e.0.1) (one_statement found.0 found.1) found.2))
  ]

  all : (r : ℕ) (peer : Option ℕ) → IsSource net policy p s r peer → IsIn (sources_in net claimed) (record { router = r; peer = peer })
  all r None claim =
      let test = (are.routers r).1 (s, governs, claim) in
      let low = In-numbers_below r (length net.routers) (ltb-true r (length net.routers) claim.at_router) in
      IsIn-append_left routers sessions (router_source r) (IsIn-map router_source (filter claimed.routers (numbers_below (length net.routers))) r
      (IsIn-filter claimed.routers (numbers_below (length net.routers)) r low test))
  all r (Some peer) claim =
      let there = (are.sessions r peer).1 (s, governs, claim) in
      IsIn-append_right routers sessions (session_source (r, peer)) (IsIn-map session_source claimed.sessions (r, peer) there)

  order : Ordered Before (sources_in net claimed)
  order =
      Ordered-append Before routers sessions (Ordered-map Before router_source (filter claimed.routers (numbers_below (length net.routers))) (Ordered-numbers claimed.routers (length net.routers)))
      (Ordered-map Before session_source claimed.sessions (Ordered-ascent claimed.sessions are.order)) cross
    where
      cross : (x y : Source) → IsIn routers x → IsIn sessions y → Before x y
      cross x y h k =
          let r = IsIn-map_parts router_source (filter claimed.routers (numbers_below (length net.routers))) x h in
          let e = IsIn-map_parts session_source claimed.sessions y k in
          subst (λ (z : Source). Before z y) r.2 (subst (λ (z : Source). Before (router_source r.0) z) e.2 tt)

  pub are_sources : AreSources net policy p s (sources_in net claimed)
  are_sources = record { each = each; all = all; order = ordered_at Before (sources_in net claimed) order }

-- ---- one router more

number_next : (claimed : ℕ → Bool) (n : ℕ) → router_sources claimed (n + 1) ≡ router_sources claimed n ++ map router_source (filter claimed (n ∷ []))
number_next claimed n =
    ap (map router_source) (ap (λ k. filter claimed (numbers_below k)) (next n) ∙ filter-append claimed (numbers_below n) (n ∷ []))
    ∙ map-append router_source (filter claimed (numbers_below n)) (filter claimed (n ∷ []))
  where
    next : (k : ℕ) → k + 1 ≡ suc k
    next k = omega arith

pub router_more : (claimed : ℕ → Bool) (n : ℕ) → claimed n ≡ true → router_sources claimed (n + 1) ≡ router_sources claimed n ++ router_source n ∷ []
router_more claimed n is = number_next claimed n ∙ ap (λ b. router_sources claimed n ++ map router_source (if b then n ∷ [] else [])) is

pub router_same : (claimed : ℕ → Bool) (n : ℕ) → claimed n ≡ false → router_sources claimed (n + 1) ≡ router_sources claimed n
router_same claimed n is = number_next claimed n ∙ ap (λ b. router_sources claimed n ++ map router_source (if b then n ∷ [] else [])) is ∙ append-nil (router_sources claimed n)
