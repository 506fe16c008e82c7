-- The sources that a policy claims for a prefix.
use Rattle.std.specs.Prelude.{◌≡◌, ◌↔◌, ◌⊎◌, ◌≤◌, ℕ, Bool, false, IsTrue, List, [], Option, Some, option_and_then, option_map}
use Rattle.std.specs.Option.{ForSome}
use Rattle.list_law.specs.Members.{IsIn}
use Rattle.policy_base.specs.declared.limits.TheConstants.{ALTERNATIVES}
use Rattle.net_base.specs.Network.{PlainNet, Ascend}
use Rattle.net_base.specs.Prefixes.{PlainPrefix}
use Rattle.net_base.specs.Sets.{holds}
use Rattle.policy_base.specs.Governing.{statement_of}
use Rattle.policy_base.specs.Meaning.{alternative_count, rank_of}
use Rattle.policy_base.specs.Permitted.{IsClaimedRouter, IsClaimedSession}
use Rattle.policy_base.specs.Policies.{PlainPolicy, PlainStatement, plain_statement}
use Rattle.outcome_claims.specs.declared.claims.Claims.{Claims}

-- routers, and sessions of a router and a peer
pub record Sources : Type 0 where
  pub routers : ℕ → Bool
  pub sessions : List (ℕ × ℕ)

-- the rank that a statement gives a path, if it is there and gives one
abbrev pub rank_by : PlainNet → Option PlainStatement → List ℕ → Option ℕ
rank_by net s path = option_and_then (λ (t : PlainStatement). rank_of net t.ranked path) s

-- the statement that governs the prefix claims the router, or the session
abbrev pub ClaimsRouter : PlainNet → PlainPolicy → PlainPrefix → ℕ → Type 0
ClaimsRouter net policy p r = (s : PlainStatement) × (statement_of policy p ≡ Some s) × IsClaimedRouter net policy p s r

abbrev pub ClaimsSession : PlainNet → PlainPolicy → PlainPrefix → ℕ → ℕ → Type 0
ClaimsSession net policy p r peer = (s : PlainStatement) × (statement_of policy p ≡ Some s) × IsClaimedSession net policy p s r peer

-- These are the claimed sources; the sessions stand in order of the router, and then of the peer, none twice.
pub record AreClaimed (net : PlainNet) (policy : PlainPolicy) (p : PlainPrefix) (sources : Sources) : Type 0 where
  pub routers : (r : ℕ) → IsTrue (sources.routers r) ↔ ClaimsRouter net policy p r
  pub sessions : (r peer : ℕ) → IsIn sources.sessions (r, peer) ↔ ClaimsSession net policy p r peer
  pub order : Ascend sources.sessions

-- ---- as the code holds them

abbrev pub sources_of : Claims → Sources
sources_of c = record { routers = holds c.routers; sessions = c.sessions }

abbrev pub statement_in : Claims → Option PlainStatement
statement_in c = option_map (λ s. plain_statement s.now) c.statement

-- nothing is claimed
pub record AreNone (sources : Sources) : Type 0 where
  pub routers : (r : ℕ) → sources.routers r ≡ false
  pub sessions : sources.sessions ≡ []

-- The claimed sources, with the statement that ranks their paths, where there are some. It has few enough alternatives.
pub record AreClaims (net : PlainNet) (policy : PlainPolicy) (p : PlainPrefix) (c : Claims) : Type 0 where
  pub claimed : AreClaimed net policy p (sources_of c)
  pub ranked : (statement_in c ≡ statement_of policy p) ⊎ AreNone (sources_of c)
  pub limits : ForSome (statement_in c) (λ s. alternative_count s.ranked ≤ ALTERNATIVES)
