-- What the `open` lines tell.
use Rattle.std.specs.Prelude.{◌≡◌, ◌↔◌, IsTrue, List}
use Rattle.list_law.specs.Members.{IsIn}
use Rattle.net_base.specs.Network.{PlainNet, IsNet}
use Rattle.net_base.specs.Prefixes.{PlainPrefix}
use Rattle.policy_base.specs.Cases.{case_list}
use Rattle.policy_base.specs.Policies.{PlainPolicy, IsPolicyOf}
use Rattle.own_space.specs.declared.open_case.OpenCase.{OpenCase}
use Rattle.own_space.specs.declared.open_part.OpenPart.{OpenPart}
use Rattle.own_space.specs.Laws.{IsForPeers, TellsOf}
use Rattle.own_space.specs.Spaces.{is_own}
use Rattle.promises_report.specs.Promises.{Promises}
use Rattle.promises_report.specs.Taken.{AreAllPromises, IsTaken, told_parts}
use Rattle.promises_report.specs.Taking.{taking_cases}

-- the cases that may have a line: those in which some router takes what peers announce
abbrev pub open_cases : PlainNet → PlainPolicy → List Promises → List OpenCase
open_cases net policy xs = taking_cases net 1 (case_list net policy) xs

-- the part stands on the line of the case
pub record IsOnLine (net : PlainNet) (policy : PlainPolicy) (xs : List Promises) (c : OpenCase) (part : OpenPart) : Type 0 where
  pub listed : IsIn (open_cases net policy xs) c
  pub told : IsIn (told_parts net policy xs) part
  pub number : part.number ≡ c.number

-- Each part stands on one line.
abbrev pub OpenLinesTellOfParts : Type 0
OpenLinesTellOfParts =
    (net : PlainNet) (policy : PlainPolicy) → IsPolicyOf net policy → (xs : List Promises) (part : OpenPart) → IsIn (told_parts net policy xs) part
    → (c : OpenCase) × IsOnLine net policy xs c part × ((d : OpenCase) → IsOnLine net policy xs d part → c ≡ d)

-- Of a prefix inside an originated one that isn't originated itself some line tells exactly where the policy lets some router take it from a
-- peer.
abbrev pub OpenLinesAreWhatIsTaken : Type 0
OpenLinesAreWhatIsTaken =
    (net : PlainNet) (policy : PlainPolicy) → IsNet net → IsPolicyOf net policy → (xs : List Promises) → AreAllPromises net policy xs
    → (p : PlainPrefix) → IsForPeers policy p → IsTrue (is_own policy p)
    → ((c : OpenCase) × (part : OpenPart) × IsOnLine net policy xs c part × TellsOf policy (open_cases net policy xs) part p) ↔ IsTaken net policy p
