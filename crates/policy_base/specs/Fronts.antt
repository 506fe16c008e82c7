-- Statements by the first bits of the prefixes that they govern.
use Rattle.std.specs.Prelude.{◌≡◌, ℕ, zero, suc, ◌+◌, ◌-◌, ◌/◌, ◌^◌, Bool, ◌&&◌, ◌==◌, List, [], ◌∷◌, Option, Some, None, nat_le, if◌then◌else◌}
use Rattle.std.specs.List.{list_any}
use Rattle.indexmap.specs.IndexMap.{get}
use Rattle.net_base.specs.Prefixes.{PlainPrefix, PlainPattern}
use Rattle.policy_base.specs.declared.fronts.Front.{Front}
use Rattle.policy_base.specs.declared.fronts.Governors.{Governors}
use Rattle.policy_base.specs.Policies.{PlainStatement, PlainPolicy}

abbrev pub same_front : Front → Front → Bool
same_front f g = f.bits == g.bits && (f.len == g.len && f.of == g.of)

-- the first k bits of a prefix
abbrev pub front_of : PlainPrefix → ℕ → Front
front_of p k = record { bits = p.bits / 2 ^ (32 - k); len = k; of = p.len }

-- the pattern's base is the front, and the pattern contains prefixes of that length
abbrev pub has_front : Front → PlainPattern → Bool
has_front f t = same_front (record { bits = t.base.bits / 2 ^ (32 - t.base.len); len = t.base.len; of = f.of }) f && (nat_le t.base.len f.of && nat_le f.of t.upto)

-- the number, from k, of the first statement with a pattern that has the front
abbrev pub first_with_front : List PlainStatement → Front → ℕ → Option ℕ
first_with_front [] f k = None
first_with_front (s ∷ ss) f k = if list_any (has_front f) s.patterns then Some k else first_with_front ss f (k + 1)

-- the least of two numbers either of which may be missing
abbrev pub least : Option ℕ → Option ℕ → Option ℕ
least None b = b
least (Some a) None = Some a
least (Some a) (Some b) = Some (if nat_le a b then a else b)

-- the least number of the fronts of a prefix that are shorter than k bits
abbrev pub least_number : (Front → Option ℕ) → PlainPrefix → ℕ → Option ℕ
least_number numbers p zero = None
least_number numbers p (suc k) = least (least_number numbers p k) (numbers (front_of p k))

-- what was noted are the first statements of the policy
abbrev pub AreGovernors : Governors → PlainPolicy → Type 0
AreGovernors governors policy = (f : Front) → get same_front governors.numbers f ≡ first_with_front policy.statements f 1
