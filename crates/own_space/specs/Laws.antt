-- What the parts say, and what is covered.
use Rattle.std.specs.Prelude.{◌≡◌, ◌↔◌, ℕ, suc, false, IsTrue, List, Some, None, slice_get, slice_index_or}
use Rattle.list_law.specs.Members.{IsIn}
use Rattle.net_base.specs.Network.{PlainNet}
use Rattle.net_base.specs.Prefixes.{PlainPrefix, IsPrefix, contains}
use Rattle.policy_base.specs.Governing.{governing, originated_at}
use Rattle.policy_base.specs.Policies.{PlainPolicy, IsPolicyOf}
use Rattle.own_space.specs.declared.open_case.OpenCase.{OpenCase}
use Rattle.own_space.specs.declared.open_part.OpenPart.{OpenPart}
use Rattle.own_space.specs.Covers.{covered_in}
use Rattle.own_space.specs.Open.{number_of, open_parts}
use Rattle.own_space.specs.Spaces.{all_in, is_own}

-- a prefix that isn't originated, so that peers are its origins
pub record IsForPeers (policy : PlainPolicy) (p : PlainPrefix) : Type 0 where
  pub prefix : IsPrefix p
  pub not_originated : originated_at policy.origins p ≡ None

-- the part tells of the prefix: the statement that governs it has the part's case
pub record TellsOf (policy : PlainPolicy) (cases : List OpenCase) (part : OpenPart) (p : PlainPrefix) : Type 0 where
  pub inside : IsTrue (contains (all_in part.within) p)
  pub contained : IsTrue (contains part.pattern p)
  pub governed : (k : ℕ) × (governing policy p ≡ Some k) × (number_of cases k ≡ Some part.number)

-- the statement that governs the prefix has one of the cases
abbrev pub IsOpen : PlainPolicy → List OpenCase → PlainPrefix → Type 0
IsOpen policy cases p = (k : ℕ) × (n : ℕ) × (governing policy p ≡ Some k) × (number_of cases k ≡ Some n)

-- A prefix inside an originated one that isn't originated itself: some part tells of it exactly where its statement has one of the cases.
abbrev pub PartsAreWhatIsOpen : Type 0
PartsAreWhatIsOpen =
    (net : PlainNet) (policy : PlainPolicy) → IsPolicyOf net policy → (cases : List OpenCase) (p : PlainPrefix) → IsForPeers policy p → IsTrue (is_own policy p)
    → ((part : OpenPart) × IsIn (open_parts policy cases) part × TellsOf policy cases part p) ↔ IsOpen policy cases p

-- Each part tells of some prefix: not none.
abbrev pub PartsTellSomething : Type 0
PartsTellSomething =
    (net : PlainNet) (policy : PlainPolicy) → IsPolicyOf net policy → (cases : List OpenCase) (part : OpenPart) → IsIn (open_parts policy cases) part
    → ¬ ((p : PlainPrefix) → IsForPeers policy p → ¬ TellsOf policy cases part p)

-- A statement is covered exactly where it governs no prefix of peers.
abbrev pub CoveredGovernsNothing : Type 0
CoveredGovernsNothing =
    (net : PlainNet) (policy : PlainPolicy) → IsPolicyOf net policy → (k : ℕ) → ¬ (slice_get policy.statements k ≡ None)
    → IsTrue (slice_index_or (covered_in policy) k false) ↔ ((p : PlainPrefix) → IsForPeers policy p → ¬ (governing policy p ≡ Some (suc k)))
