-- What is promised of networks and policies that are read, and of what is printed of them.
use Rattle.std.specs.Prelude.{◌≡◌, ℕ, List, Ok}
use Rattle.net_base.specs.Network.{PlainNet, IsNet}
use Rattle.policy_base.specs.Policies.{PlainPolicy}
use Rattle.policy_parser.specs.Spelled.{spelled}
use Rattle.policy_text.specs.PolicyText.{policy_text}
use Rattle.policy_text.specs.Printable.{IsPrintable}
use Rattle.policy_text.specs.Values.{HasNames, IsPolicyValue}
use Rattle.topology.specs.Topology.{spelled as net_spelled}

-- A policy that a text spells for a network has a text itself: its sets hold locations of the network alone, the grammar has a
-- form for each of its parts, and each count is within its limit, that of brackets among them. Its prefixes are prefixes, and its
-- sets have twelve words.
abbrev pub ReadPoliciesArePrintable : Type 0
ReadPoliciesArePrintable = (net : PlainNet) (text : List ℕ) (policy : PlainPolicy) → IsNet net → spelled net text ≡ Ok policy → IsPrintable net policy × IsPolicyValue policy

-- The names of a network that a text spells can stand in the text of a policy.
abbrev pub ReadNetsHaveNames : Type 0
ReadNetsHaveNames = (text : List ℕ) (net : PlainNet) → net_spelled text ≡ Ok net → HasNames net

-- A policy that was read is read again as the same policy once it is printed.
abbrev pub ReadPoliciesAreReadAgain : Type 0
ReadPoliciesAreReadAgain =
    (topology text : List ℕ) (net : PlainNet) (policy : PlainPolicy) → net_spelled topology ≡ Ok net → spelled net text ≡ Ok policy → spelled net (policy_text net policy) ≡ Ok policy

-- That isn't so of every policy: for each network some policy has no text.
abbrev pub SomePoliciesHaveNoText : Type 0
SomePoliciesHaveNoText = (net : PlainNet) → (policy : PlainPolicy) × (IsPrintable net policy → ⊥)

-- Some network has a name that can't stand in a text.
abbrev pub SomeNetsHaveNoNames : Type 0
SomeNetsHaveNoNames = (net : PlainNet) × (HasNames net → ⊥)
