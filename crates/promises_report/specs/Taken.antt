-- What a policy lets routers take from peers inside the network's own space.
use Rattle.std.specs.Prelude.{◌≡◌, ◌↔◌, ℕ, ◌&&◌, IsTrue, List, [], ◌∷◌, ◌++◌, Some, length, slice_get}
use Rattle.list_law.specs.Members.{IsIn}
use Rattle.net_base.specs.Network.{PlainNet, IsNet, is_peer, is_router}
use Rattle.net_base.specs.Prefixes.{PlainPrefix}
use Rattle.policy_base.specs.declared.case.Case.{Case}
use Rattle.policy_base.specs.Cases.{case_list}
use Rattle.policy_base.specs.Governing.{statement_of}
use Rattle.policy_base.specs.Permitted.{is_permitted}
use Rattle.policy_base.specs.Policies.{IsPolicyOf, PlainPolicy, PlainStatement, statement_at}
use Rattle.own_space.specs.declared.open_part.OpenPart.{OpenPart}
use Rattle.own_space.specs.Laws.{IsForPeers, TellsOf}
use Rattle.own_space.specs.Open.{open_parts}
use Rattle.own_space.specs.Spaces.{is_own}
use Rattle.promises_report.specs.Promises.{ArePromises, Promises}
use Rattle.promises_report.specs.Taking.{taking_cases}

-- the policy lets some router take the prefix from a peer: a walk that its statement permits ends with the two
pub record IsTaken (net : PlainNet) (policy : PlainPolicy) (p : PlainPrefix) : Type 0 where
  pub s : PlainStatement
  pub governs : statement_of policy p ≡ Some s
  pub router : ℕ
  pub peer : ℕ
  pub at : IsTrue (is_router net router && is_peer net peer)
  pub above : List ℕ
  pub permitted : IsTrue (is_permitted net policy p s (above ++ router ∷ peer ∷ []))

-- these are the promises for the cases of a policy
pub record AreAllPromises (net : PlainNet) (policy : PlainPolicy) (xs : List Promises) : Type 0 where
  pub size : length xs ≡ length (case_list net policy)
  pub each : (k : ℕ) (c : Case) (s : PlainStatement) (a : Promises) → slice_get (case_list net policy) k ≡ Some c → statement_at policy c.statement ≡ Some s
      → slice_get xs k ≡ Some a → ArePromises net s c a

-- the parts that are told
abbrev pub told_parts : PlainNet → PlainPolicy → List Promises → List OpenPart
told_parts net policy xs = open_parts policy (taking_cases net 1 (case_list net policy) xs)

-- Of a prefix inside an originated one that isn't originated itself some part tells exactly where the policy lets some router take it from
-- a peer.
abbrev pub PartsAreWhatIsTaken : Type 0
PartsAreWhatIsTaken =
    (net : PlainNet) (policy : PlainPolicy) → IsNet net → IsPolicyOf net policy → (xs : List Promises) → AreAllPromises net policy xs
    → (p : PlainPrefix) → IsForPeers policy p → IsTrue (is_own policy p)
    → ((part : OpenPart) × IsIn (told_parts net policy xs) part × TellsOf policy (taking_cases net 1 (case_list net policy) xs) part p) ↔ IsTaken net policy p
