-- What is printed of an alternative is read as that alternative.
use Rattle.std.specs.Prelude.{◌≡◌, [], ◌∷◌, Ok}
use Rattle.list_law.specs.Members.{IsIn}
use Rattle.net_base.specs.Network.{PlainNet, IsNet}
use Rattle.policy_base.specs.Policies.{PlainPolicy, PlainStatement, Ranking}
use Rattle.policy_parser.specs.Spelled.{spelled}
use Rattle.policy_text.specs.Choices.{choices}
use Rattle.policy_text.specs.PolicyText.{policy_text}
use Rattle.policy_text.specs.Printable.{IsPrintable}
use Rattle.policy_text.specs.Values.{HasNames, IsPolicyValue}

-- the policy of one statement
abbrev pub policy_with : PlainStatement → PlainPolicy
policy_with s = record { origins = []; statements = s ∷ [] }

-- What is printed of a choice is read as the choice, where the statement is printable.
abbrev pub ChoicesAreReadAgain : Type 0
ChoicesAreReadAgain =
    (net : PlainNet) (s : PlainStatement) (x : Ranking) → IsNet net → HasNames net → IsPrintable net (policy_with s) → IsPolicyValue (policy_with s)
    → IsIn (choices s.ranked) x → spelled net (policy_text net (policy_with (record s { ranked = x }))) ≡ Ok (policy_with (record s { ranked = x }))
