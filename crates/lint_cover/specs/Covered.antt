-- Patterns whose every prefix is in one of several patterns.
use Rattle.std.specs.Prelude.{ℕ, zero, suc, ◌+◌, ◌-◌, ◌^◌, IsTrue, Bool, ◌&&◌, ◌||◌, nat_lt, List, [], ◌∷◌, max, if◌then◌else◌}
use Rattle.net_base.specs.Prefixes.{PlainPrefix, PlainPattern, IsPrefix, contains, is_inside, same_prefix}
use Rattle.policy_base.specs.Governing.{some_contains}

-- every prefix that the pattern contains is in one of the patterns
abbrev pub IsCovered : List PlainPattern → PlainPattern → Type 0
IsCovered patterns pattern = (p : PlainPrefix) → IsPrefix p → IsTrue (contains pattern p) → IsTrue (some_contains patterns p)

-- every prefix that is in one of some patterns is in one of the others
abbrev pub AreCovered : List PlainPattern → List PlainPattern → Type 0
AreCovered others patterns = (p : PlainPrefix) → IsPrefix p → IsTrue (some_contains patterns p) → IsTrue (some_contains others p)

-- ---- the decision, by the two halves of a prefix

-- the prefixes inside this one that are of a length below this are in the patterns whose base is around it
abbrev pub depth_at : List PlainPattern → PlainPrefix → ℕ
depth_at [] p = 0
depth_at (q ∷ qs) p = max (if is_inside q.base p then suc q.upto else 0) (depth_at qs p)

abbrev pub low_half : PlainPrefix → PlainPrefix
low_half p = record { bits = p.bits; len = p.len + 1 }

abbrev pub high_half : PlainPrefix → PlainPrefix
high_half p = record { bits = p.bits + 2 ^ (31 - p.len); len = p.len + 1 }

-- the prefixes inside this one that are at most so much longer
abbrev pub covered_below : List PlainPattern → PlainPrefix → ℕ → Bool
covered_below patterns p zero = nat_lt p.len (depth_at patterns p)
covered_below patterns p (suc more) = nat_lt p.len (depth_at patterns p)
    && (nat_lt (p.len + suc more) (depth_at patterns p) || (covered_below patterns (low_half p) more && covered_below patterns (high_half p) more))

abbrev pub covered : List PlainPattern → PlainPattern → Bool
covered patterns pattern = covered_below patterns pattern.base (pattern.upto - pattern.base.len)

-- ---- the same by a table: one more than the greatest end of the patterns with this very base
abbrev pub exact_at : List PlainPattern → PlainPrefix → ℕ
exact_at [] p = 0
exact_at (q ∷ qs) p = max (if same_prefix q.base p then suc q.upto else 0) (exact_at qs p)
