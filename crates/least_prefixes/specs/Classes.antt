-- Prefixes by the first patterns that contain them in two policies.
use Rattle.std.specs.Prelude.{◌≡◌, ◌≢◌, ℕ, ◌<◌, ◌≤◌, Bool, ◌||◌, List, Option, Some, None, is_some, if◌then◌else◌, slice_get}
use Rattle.list_law.specs.Members.{IsIn}
use Rattle.net_base.specs.Prefixes.{PlainPrefix, IsPrefix}
use Rattle.policy_base.specs.Policies.{PlainPolicy}
use Rattle.policy_base.specs.Governing.{originated_at}
use Rattle.first_patterns.specs.Firsts.{place_for}
use Rattle.least_prefixes.specs.declared.asked.Class.{Class}

-- one of the two policies originates the prefix
abbrev pub is_originated : PlainPolicy → PlainPolicy → PlainPrefix → Bool
is_originated old new p = is_some (originated_at old.origins p) || is_some (originated_at new.origins p)

abbrev pub some_class : Option ℕ → Option ℕ → Option Class
some_class None None = None
some_class None (Some j) = Some (record { old = None; new = Some j })
some_class (Some i) b = Some (record { old = Some i; new = b })

-- The places of the first patterns that contain the prefix in the two policies. None where either originates it, and where neither has one.
abbrev pub class_for : PlainPolicy → PlainPolicy → PlainPrefix → Option Class
class_for old new p = if is_originated old new p then None else some_class (place_for old p) (place_for new p)

-- by address, and then by length
abbrev pub IsNoLater : PlainPrefix → PlainPrefix → Type 0
IsNoLater p q = (p.bits ≤ q.bits) × (p.bits ≡ q.bits → p.len ≤ q.len)

-- The least prefix of each class that some prefix has, in order.
pub record AreLeast (old new : PlainPolicy) (ps : List PlainPrefix) : Type 0 where
  pub each : (p : PlainPrefix) → IsIn ps p → IsPrefix p
  -- a prefix of some class has one there that is of the same class and no later
  pub covered : (q : PlainPrefix) (c : Class) → IsPrefix q → class_for old new q ≡ Some c → (p : PlainPrefix) × IsIn ps p × (class_for old new p ≡ Some c) × IsNoLater p q
  -- each is of a class, and of another one than those before it, none of which is later
  pub classed : (p : PlainPrefix) → IsIn ps p → (c : Class) × (class_for old new p ≡ Some c)
  pub apart : (i j : ℕ) (p q : PlainPrefix) → i < j → slice_get ps i ≡ Some p → slice_get ps j ≡ Some q → class_for old new p ≢ class_for old new q
  pub order : (i j : ℕ) (p q : PlainPrefix) → i < j → slice_get ps i ≡ Some p → slice_get ps j ≡ Some q → IsNoLater p q
