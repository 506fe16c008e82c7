-- Where permitted walks end.
use Rattle.std.specs.Prelude.{◌≡◌, ℕ, IsTrue, List, ◌++◌, Some}
use Rattle.net_base.specs.Network.{PlainNet}
use Rattle.net_base.specs.Prefixes.{PlainPrefix}
use Rattle.policy_base.specs.Policies.{PlainPolicy, PlainStatement}
use Rattle.policy_base.specs.Governing.{statement_of}
use Rattle.policy_base.specs.Permitted.{is_permitted}

-- Some walk that is permitted for the prefix ends with these places.
abbrev pub SomeWalkEnds : PlainNet → PlainPolicy → PlainPrefix → List ℕ → Type 0
SomeWalkEnds net policy p back = (s : PlainStatement) × (above : List ℕ) × (statement_of policy p ≡ Some s) × IsTrue (is_permitted net policy p s (above ++ back))
