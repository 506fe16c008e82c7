-- When a configuration is right for a policy: under all failures, in every stable outcome.
use Rattle.std.specs.Prelude.{◌≡◌, ℕ, ◌≤◌, not, ◌&&◌, IsTrue, List, [], ◌∷◌, ◌++◌, length, Option, Some, None}
use Rattle.net_base.specs.Network.{PlainNet, is_peer, is_router}
use Rattle.net_base.specs.Prefixes.{PlainPrefix, IsPrefix}
use Rattle.policy_base.specs.Policies.{PlainPolicy, PlainStatement}
use Rattle.policy_base.specs.Meaning.{rank_of}
use Rattle.policy_base.specs.Governing.{is_origin, statement_of}
use Rattle.policy_base.specs.Permitted.{is_permitted, is_allowed, IsClaimedRouter, IsClaimedSession}
use Rattle.config_base.specs.declared.route.Route.{Route}
use Rattle.config_base.specs.Configs.{PlainConfig}
use Rattle.outcome_base.specs.Outcomes.{Failures, Outcome, is_dead, is_live, is_silent, survives, route_at, IsStable, offered}

-- The path is allowed and survives.
abbrev pub IsGood : PlainNet → PlainPolicy → Failures → PlainPrefix → PlainStatement → List ℕ → Type 0
IsGood net policy f p s path = IsTrue (is_allowed net policy p s path && survives net f path)

-- The path's rank is the least among the good paths that begin with `begin`.
abbrev pub IsBest : PlainNet → PlainPolicy → Failures → PlainPrefix → PlainStatement → List ℕ → List ℕ → Type 0
IsBest net policy f p s begin path =
    (n : ℕ) × (rank_of net s.ranked path ≡ Some n)
    × ((rest : List ℕ) (m : ℕ) → IsGood net policy f p s (begin ++ rest) → rank_of net s.ranked (begin ++ rest) ≡ Some m → n ≤ m)

-- No good path begins with `begin`.
abbrev pub NoneSurvives : PlainNet → PlainPolicy → Failures → PlainPrefix → PlainStatement → List ℕ → Type 0
NoneSurvives net policy f p s begin = (rest : List ℕ) → IsGood net policy f p s (begin ++ rest) → ⊥

-- Packets that the router r sends for the prefix are passed on along the path: to its next place, over a live link. That is a router
-- which holds exactly the rest of the path, or a peer that originates the prefix, over a session that isn't silent, and nothing is left.
pub record IsPassedOn (net : PlainNet) (policy : PlainPolicy) (f : Failures) (p : PlainPrefix) (outcome : Outcome) (r : ℕ) (path : List ℕ) : Type 0 where
  pub next : ℕ
  pub rest : List ℕ
  pub begins : path ≡ r ∷ next ∷ rest
  pub live : IsTrue (is_live net f r next)
  pub router : IsTrue (is_router net next) → (h : Route) × (route_at outcome next ≡ Some h) × (h.path ≡ next ∷ rest)
  pub peer : IsTrue (is_peer net next) → IsTrue (is_origin net policy p next && not (is_silent f r next)) × (rest ≡ [])

-- an outcome that is right where a statement governs the prefix
pub record IsRightBy (net : PlainNet) (policy : PlainPolicy) (config : PlainConfig) (f : Failures) (p : PlainPrefix) (s : PlainStatement) (outcome : Outcome) : Type 0 where
  pub used : (r : ℕ) (h : Route) → IsClaimedRouter net policy p s r → route_at outcome r ≡ Some h → IsGood net policy f p s h.path × IsBest net policy f p s (r ∷ []) h.path
  pub offers : (r peer : ℕ) (path : List ℕ) → offered net policy config f p outcome r peer ≡ Some path → IsGood net policy f p s path
  pub sessions : (r peer : ℕ) (path : List ℕ) → IsClaimedSession net policy p s r peer → offered net policy config f p outcome r peer ≡ Some path → IsBest net policy f p s (peer ∷ r ∷ []) path
  pub unrouted : (r : ℕ) → IsClaimedRouter net policy p s r → route_at outcome r ≡ None → NoneSurvives net policy f p s (r ∷ [])
  pub unoffered : (r peer : ℕ) → IsClaimedSession net policy p s r peer → offered net policy config f p outcome r peer ≡ None → NoneSurvives net policy f p s (peer ∷ r ∷ [])
  pub transit : (r : ℕ) (h : Route) → IsTrue (is_router net r && not (is_origin net policy p r)) → route_at outcome r ≡ Some h
      → (above : List ℕ) × IsTrue (is_permitted net policy p s (above ++ h.path))
  pub packets : (r : ℕ) (h : Route) → IsTrue (is_router net r && not (is_origin net policy p r)) → route_at outcome r ≡ Some h → IsPassedOn net policy f p outcome r h.path

-- where no statement governs the prefix only live origins have routes
pub record IsBare (net : PlainNet) (policy : PlainPolicy) (config : PlainConfig) (f : Failures) (p : PlainPrefix) (outcome : Outcome) : Type 0 where
  pub routes : (r : ℕ) (h : Route) → route_at outcome r ≡ Some h → IsTrue (is_origin net policy p r && not (is_dead f r))
  pub offers : (r peer : ℕ) → offered net policy config f p outcome r peer ≡ None

abbrev pub IsRightOutcome : PlainNet → PlainPolicy → PlainConfig → Failures → PlainPrefix → Outcome → Type 0
IsRightOutcome net policy config f p outcome = by_statement (statement_of policy p)
  where
    by_statement : Option PlainStatement → Type 0
    by_statement None = IsBare net policy config f p outcome
    by_statement (Some s) = IsRightBy net policy config f p s outcome

-- The configuration is right: for every prefix, all failures and every stable outcome.
abbrev pub IsRight : PlainNet → PlainPolicy → PlainConfig → Type 0
IsRight net policy config =
    (p : PlainPrefix) (f : Failures) (outcome : Outcome) → IsPrefix p → length outcome ≡ length net.routers
    → IsStable net policy config f p outcome → IsRightOutcome net policy config f p outcome
