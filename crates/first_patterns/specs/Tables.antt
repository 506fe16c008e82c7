-- Patterns by the first bits of the prefixes that they contain.
use Rattle.std.specs.Prelude.{◌≡◌, ℕ, zero, suc, ◌-◌, ◌/◌, ◌^◌, Bool, true, ◌&&◌, ◌==◌, List, slice_get, Option, Some, None, nat_le, if◌then◌else◌}
use Rattle.indexmap.specs.IndexMap.{get}
use Rattle.net_base.specs.Prefixes.{PlainPrefix, PlainPattern}
use Rattle.policy_base.specs.Policies.{PlainPolicy}
use Rattle.first_patterns.specs.declared.firsts.Stated.{Stated}
use Rattle.first_patterns.specs.declared.table.Head.{Head}
use Rattle.first_patterns.specs.declared.firsts.FirstPatterns.{FirstPatterns}
use Rattle.first_patterns.specs.Firsts.{first_place, listed}

abbrev pub same_head : Head → Head → Bool
same_head f g = f.bits == g.bits && (f.len == g.len && f.of == g.of)

-- the first k bits of a prefix
abbrev pub head_of : PlainPrefix → ℕ → Head
head_of p k = record { bits = p.bits / 2 ^ (32 - k); len = k; of = p.len }

-- the pattern's base has these bits, and the pattern contains prefixes of that length
abbrev pub has_head : Head → PlainPattern → Bool
has_head h t = same_head (record { bits = t.base.bits / 2 ^ (32 - t.base.len); len = t.base.len; of = h.of }) h && (nat_le t.base.len h.of && nat_le h.of t.upto)

-- the lesser of two places either of which may be missing
abbrev pub lesser : Option ℕ → Option ℕ → Option ℕ
lesser None b = b
lesser (Some a) None = Some a
lesser (Some a) (Some b) = Some (if nat_le a b then a else b)

-- the least place under the first bits of a prefix that are fewer than k
abbrev pub least_place : (Head → Option ℕ) → PlainPrefix → ℕ → Option ℕ
least_place places p zero = None
least_place places p (suc k) = lesser (least_place places p k) (places (head_of p k))

-- the length of each pattern's prefix is marked
abbrev pub AreLengths : List Stated → List Bool → Type 0
AreLengths patterns lengths = (i : ℕ) (t : Stated) → slice_get patterns i ≡ Some t → slice_get lengths t.pattern.base.len ≡ Some true

-- the patterns of the policy, their places, and the lengths of their prefixes
pub record AreFirsts (firsts : FirstPatterns) (policy : PlainPolicy) : Type 0 where
  pub patterns : firsts.patterns.items ≡ listed policy.statements 1
  pub places : (h : Head) → get same_head firsts.places h ≡ first_place (has_head h) firsts.patterns.items 1
  pub lengths : AreLengths firsts.patterns.items firsts.lengths.items
