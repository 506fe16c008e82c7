-- Ranks of a statement that no source has both of: the preference between the two decides nothing.
use Rattle.std.specs.Prelude.{◌≡◌, ◌↔◌, ℕ, ◌+◌, ◌<◌, ◌≤◌, Bool, false, not, ◌==◌, ◌&&◌, ◌||◌, nat_lt, min, filter, List, [], ◌∷◌, ◌++◌, length, map, Option, Some, None, if◌then◌else◌}
use Rattle.std.specs.List.{flat_map, list_any}
use Rattle.list_law.specs.Members.{IsIn}
use Rattle.net_base.specs.Locations.{in_order, numbers_below}
use Rattle.net_base.specs.Network.{PlainNet, IsNet, is_peer}
use Rattle.policy_base.specs.declared.case.Case.{Case}
use Rattle.policy_base.specs.declared.limits.TheConstants.{ALTERNATIVES}
use Rattle.policy_base.specs.Cases.{case_list}
use Rattle.policy_base.specs.Meaning.{alternative_count}
use Rattle.policy_base.specs.Policies.{IsPolicyOf, PlainPolicy, PlainStatement, Ranking, statement_at}
use Rattle.promises_report.specs.declared.apart.ApartRanks.{ApartRanks}
use Rattle.promises_report.specs.Claims.{HasWalk}
use Rattle.promises_report.specs.Promises.{Promises}
use Rattle.promises_report.specs.Taken.{AreAllPromises}

-- ---- by the walks that the policy permits

-- In a case of the statement with a number some claimed source has permitted walks of both ranks.
pub record Meet (net : PlainNet) (policy : PlainPolicy) (number i j : ℕ) : Type 0 where
  pub c : Case
  pub listed : IsIn (case_list net policy) c
  pub of : c.statement ≡ number
  pub s : PlainStatement
  pub is : statement_at policy number ≡ Some s
  pub router : ℕ
  pub peer : Option ℕ
  pub one : HasWalk net s c router peer i
  pub other : HasWalk net s c router peer j

-- Claimed sources have walks of either rank, and none has walks of both.
pub record AreApart (net : PlainNet) (policy : PlainPolicy) (x : ApartRanks) : Type 0 where
  pub order : x.better < x.worse
  pub better : Meet net policy x.statement x.better x.better
  pub worse : Meet net policy x.statement x.worse x.worse
  pub never : ¬ Meet net policy x.statement x.better x.worse

-- ---- by promises

-- where sources can be: a router, and its sessions to peers
abbrev pub sites_at : PlainNet → ℕ → List (ℕ × Option ℕ)
sites_at net r = (r, None) ∷ map (λ (peer : ℕ). (r, Some peer)) (filter (is_peer net) (in_order net))

abbrev pub sites : PlainNet → List (ℕ × Option ℕ)
sites net = flat_map (sites_at net) (numbers_below (length net.routers))

-- one of them has both ranks
abbrev pub meet_at : (ℕ → Option ℕ → ℕ → Bool) → ℕ → ℕ → ℕ × Option ℕ → Bool
meet_at has i j site = has site.0 site.1 i && has site.0 site.1 j

abbrev pub meet_in : PlainNet → (ℕ → Option ℕ → ℕ → Bool) → ℕ → ℕ → Bool
meet_in net has i j = list_any (meet_at has i j) (sites net)

-- in some case of the statement with a number
abbrev pub ranks_meet : PlainNet → List Case → List Promises → ℕ → ℕ → ℕ → Bool
ranks_meet net [] xs number i j = false
ranks_meet net (c ∷ cs) [] number i j = false
ranks_meet net (c ∷ cs) (a ∷ xs) number i j = (c.statement == number && meet_in net a.has_rank i j) || ranks_meet net cs xs number i j

-- where these ranks meet: two are apart that are met, and that don't meet
abbrev pub are_apart : (ℕ → ℕ → Bool) → ℕ → ℕ → Bool
are_apart met i j = nat_lt i j && met i i && met j j && not (met i j)

-- a pair of ranks, each 1 more than a number
unfoldable pub apart_pair : (ℕ → ℕ → Bool) → ℕ → ℕ → ℕ → List ApartRanks
apart_pair met number a b = if are_apart met (a + 1) (b + 1) then record { statement = number; better = a + 1; worse = b + 1 } ∷ [] else []

abbrev pub pairs_with : (ℕ → ℕ → Bool) → ℕ → ℕ → ℕ → List ApartRanks
pairs_with met number ranks a = flat_map (apart_pair met number a) (numbers_below ranks)

-- the pairs of so many ranks of the statement with a number
abbrev pub pairs_of : (ℕ → ℕ → Bool) → ℕ → ℕ → List ApartRanks
pairs_of met number ranks = flat_map (pairs_with met number ranks) (numbers_below ranks)

-- no policy is compiled that has more
abbrev pub ranks_of : Ranking → ℕ
ranks_of r = min (alternative_count r) ALTERNATIVES

-- of all statements, from a number on
abbrev pub all_apart : (ℕ → ℕ → ℕ → Bool) → ℕ → List PlainStatement → List ApartRanks
all_apart met n [] = []
all_apart met n (s ∷ ss) = pairs_of (met n) n (ranks_of s.ranked) ++ all_apart met (n + 1) ss

-- the ranks of a policy's statements that are apart, by statement, and then by the better and the worse rank
abbrev pub apart_ranks : PlainNet → PlainPolicy → List Case → List Promises → List ApartRanks
apart_ranks net policy cs xs = all_apart (ranks_meet net cs xs) 1 policy.statements

-- Those are told that are apart, where the statement has no more alternatives than a policy may have that is compiled.
abbrev pub ApartRanksAreApart : Type 0
ApartRanksAreApart =
    (net : PlainNet) (policy : PlainPolicy) → IsNet net → IsPolicyOf net policy → (xs : List Promises) → AreAllPromises net policy xs
    → (x : ApartRanks) (s : PlainStatement) → statement_at policy x.statement ≡ Some s → alternative_count s.ranked ≤ ALTERNATIVES
    → IsIn (apart_ranks net policy (case_list net policy) xs) x ↔ AreApart net policy x
