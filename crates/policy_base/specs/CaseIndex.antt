-- Cases by what they are found by.
use Rattle.std.specs.Prelude.{◌≡◌, ℕ, is_some}
use Rattle.indexmap.specs.IndexSet.{IndexSet, contains}
use Rattle.net_base.specs.declared.loc.LocSet.{LocSet}
use Rattle.net_base.specs.Prefixes.{PlainPrefix, same_prefix}
use Rattle.policy_base.specs.declared.case.Case.{Case}
use Rattle.policy_base.specs.Policies.{PlainPolicy}
use Rattle.policy_base.specs.Governing.{originated_at}

-- the statement and the origins of a case
abbrev pub kind_of : Case → ℕ × LocSet
kind_of c = (c.statement, c.origins)

-- the prefixes that a policy originates
abbrev pub AreOriginated : {S : Type 0} → IndexSet PlainPrefix S → PlainPolicy → Type 0
AreOriginated set policy = (p : PlainPrefix) → contains same_prefix set p ≡ is_some (originated_at policy.origins p)
