-- What follows where two policies say the same, and where one takes nothing away.
use Rattle.std.specs.Prelude.{◌≡◌, ◌↔◌, ℕ, ◌≤◌, ◌==◌, false, not, IsTrue, List, [], ◌++◌, filter, length, Option, Some, None, is_some}
use Rattle.std.specs.List.{list_any}
use Rattle.net_base.specs.Locations.{in_order}
use Rattle.net_base.specs.Network.{PlainNet, IsNet, joins}
use Rattle.net_base.specs.Prefixes.{PlainPrefix}
use Rattle.policy_base.specs.Policies.{PlainPolicy, PlainStatement}
use Rattle.policy_base.specs.Meaning.{rank_of, some_step}
use Rattle.policy_base.specs.Walks.{is_loop_free}
use Rattle.policy_base.specs.Governing.{is_origin, statement_of}
use Rattle.config_base.specs.Configs.{PlainConfig}
use Rattle.outcome_base.specs.Outcomes.{Failures, Outcome, IsStable}
use Rattle.outcome_base.specs.Right.{IsGood, IsRight, IsRightOutcome}
use Rattle.compare_base.specs.declared.rows.Row.{Row}
use Rattle.compare_base.specs.Cases.{case_for, is_place, pair_for, says_something}
use Rattle.impact_law.specs.Impacts.{begin_at}
use Rattle.compare_base.specs.Ranks.{rank_for, HasRow, IsAlike, IsFirstWalk, IsSame}

-- ---- what decides

-- What a policy says of a prefix depends on the statement that governs it and on its origins alone.
abbrev pub CasesDecide : Type 0
CasesDecide =
    (net : PlainNet) (policy : PlainPolicy) (p q : PlainPrefix) → case_for policy p ≡ case_for policy q
    → ((l : ℕ) → is_origin net policy p l ≡ is_origin net policy q l) × ((path : List ℕ) → rank_for net policy p path ≡ rank_for net policy q path)

-- So prefixes with one pair of cases are alike in the two policies together.
abbrev pub PairsDecide : Type 0
PairsDecide = (net : PlainNet) (old new : PlainPolicy) (p q : PlainPrefix) → pair_for old new p ≡ pair_for old new q → IsAlike net old new p → IsAlike net old new q

-- Each walk of the source has a rank in both policies or in neither, and no two are ordered otherwise.
pub record RowsAgree (net : PlainNet) (old new : PlainPolicy) (p : PlainPrefix) (r : ℕ) (peer : Option ℕ) : Type 0 where
  pub both : (row : Row) → HasRow net old new p r peer row → is_some row.old ≡ is_some row.new
  pub order : (x y : Row) (a b c d : ℕ) → HasRow net old new p r peer x → HasRow net old new p r peer y
      → x.old ≡ Some a → y.old ≡ Some b → x.new ≡ Some c → y.new ≡ Some d → (a ≤ b) ↔ (c ≤ d)

-- The policies say the same of a prefix exactly where its origins are the same and the rows of each place agree.
abbrev pub RowsDecide : Type 0
RowsDecide =
    (net : PlainNet) (old new : PlainPolicy) (p : PlainPrefix) → IsNet net
    → IsAlike net old new p
    ↔ ((l : ℕ) → is_origin net old p l ≡ is_origin net new p l)
    × ((r : ℕ) (peer : Option ℕ) → IsTrue (is_place net (pair_for old new p) r peer) → RowsAgree net old new p r peer)

-- Of a prefix that neither originates, and that no statement governs or that no peer can announce, both say the same: nothing.
abbrev pub NothingSaidIsAlike : Type 0
NothingSaidIsAlike = (net : PlainNet) (old new : PlainPolicy) (p : PlainPrefix) → says_something net (pair_for old new p) ≡ false → IsAlike net old new p

-- A row of a source has one first walk at most.
abbrev pub FirstWalksAreOne : Type 0
FirstWalksAreOne =
    (net : PlainNet) (old new : PlainPolicy) (p : PlainPrefix) (r : ℕ) (peer : Option ℕ) (row : Row) (walk other : List ℕ)
    → IsFirstWalk net old new p r peer row walk → IsFirstWalk net old new p r peer row other → walk ≡ other

-- ---- outcomes

-- with the same origins the same outcomes are stable
abbrev pub AlikePrefixesAreStableAlike : Type 0
AlikePrefixesAreStableAlike =
    (net : PlainNet) (old new : PlainPolicy) (config : PlainConfig) (f : Failures) (p : PlainPrefix) (outcome : Outcome) → IsNet net
    → ((l : ℕ) → is_origin net old p l ≡ is_origin net new p l)
    → IsStable net old config f p outcome ↔ IsStable net new config f p outcome

abbrev pub AlikePrefixesAreRightAlike : Type 0
AlikePrefixesAreRightAlike =
    (net : PlainNet) (old new : PlainPolicy) (config : PlainConfig) (f : Failures) (p : PlainPrefix) (outcome : Outcome) → IsNet net → IsAlike net old new p
    → length outcome ≡ length net.routers → IsStable net old config f p outcome
    → IsRightOutcome net old config f p outcome ↔ IsRightOutcome net new config f p outcome

abbrev pub SamePoliciesAreServedAlike : Type 0
SamePoliciesAreServedAlike =
    (net : PlainNet) (old new : PlainPolicy) (config : PlainConfig) → IsNet net → IsSame net old new → IsRight net old config ↔ IsRight net new config

-- ---- failures

-- the path is allowed for the prefix and survives
abbrev pub IsGoodBy : PlainNet → PlainPolicy → Failures → PlainPrefix → Option PlainStatement → List ℕ → Type 0
IsGoodBy net policy f p None path = ⊥
IsGoodBy net policy f p (Some s) path = IsGood net policy f p s path

abbrev pub rank_in : PlainNet → Option PlainStatement → List ℕ → Option ℕ
rank_in net None path = None
rank_in net (Some s) path = rank_of net s.ranked path

-- some path of the source is good
abbrev pub HasGood : PlainNet → PlainPolicy → Failures → PlainPrefix → ℕ → Option ℕ → Type 0
HasGood net policy f p r peer = (rest : List ℕ) × IsGoodBy net policy f p (statement_of policy p) (begin_at r peer ++ rest)

-- some path of the source is good and has this rank
abbrev pub HasGoodRank : PlainNet → PlainPolicy → Failures → PlainPrefix → ℕ → Option ℕ → ℕ → Type 0
HasGoodRank net policy f p r peer n =
    (rest : List ℕ) × IsGoodBy net policy f p (statement_of policy p) (begin_at r peer ++ rest) × (rank_in net (statement_of policy p) (begin_at r peer ++ rest) ≡ Some n)

-- no walk of the source that the old policy permits is one that the new policy doesn't
abbrev pub LosesNothing : PlainNet → PlainPolicy → PlainPolicy → PlainPrefix → ℕ → Option ℕ → Type 0
LosesNothing net old new p r peer = (i : ℕ) → ¬ HasRow net old new p r peer (record { old = Some i; new = None })

-- and none gets a greater rank
abbrev pub RanksGetLess : PlainNet → PlainPolicy → PlainPolicy → PlainPrefix → ℕ → Option ℕ → Type 0
RanksGetLess net old new p r peer = (i j : ℕ) → HasRow net old new p r peer (record { old = Some i; new = Some j }) → j ≤ i

-- everything has failed but the places of a path and the links between its neighbours
abbrev pub all_but : PlainNet → List ℕ → Failures
all_but net path = record {
  dead = filter (λ l. not (list_any (λ k. k == l) path)) (in_order net);
  dead_links = filter (λ link. not (some_step (λ a b. joins a b link) path)) net.links;
  silent = [];
}

-- A path that the old policy permits and the new one doesn't shows failures under which its source has a good path in the old one alone.
abbrev pub LostPathsShowFailures : Type 0
LostPathsShowFailures =
    (net : PlainNet) (old new : PlainPolicy) (p : PlainPrefix) (r : ℕ) (peer : Option ℕ) (rest : List ℕ) (i : ℕ)
    → ((l : ℕ) → is_origin net old p l ≡ is_origin net new p l)
    → rank_for net old p (begin_at r peer ++ rest) ≡ Some i → rank_for net new p (begin_at r peer ++ rest) ≡ None → IsTrue (is_loop_free (begin_at r peer ++ rest))
    → HasGood net old (all_but net (begin_at r peer ++ rest)) p r peer × ¬ HasGood net new (all_but net (begin_at r peer ++ rest)) p r peer

-- a source that loses nothing has a good path wherever it had one
abbrev pub NothingLostStaysInReach : Type 0
NothingLostStaysInReach =
    (net : PlainNet) (old new : PlainPolicy) (p : PlainPrefix) (r : ℕ) (peer : Option ℕ) → LosesNothing net old new p r peer
    → (f : Failures) → HasGood net old f p r peer → HasGood net new f p r peer

-- and where no rank gets greater, one whose rank is no greater
abbrev pub RanksGetNoGreater : Type 0
RanksGetNoGreater =
    (net : PlainNet) (old new : PlainPolicy) (p : PlainPrefix) (r : ℕ) (peer : Option ℕ) → LosesNothing net old new p r peer → RanksGetLess net old new p r peer
    → (f : Failures) (n : ℕ) → HasGoodRank net old f p r peer n → (m : ℕ) × (m ≤ n) × HasGoodRank net new f p r peer m
