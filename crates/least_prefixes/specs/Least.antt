-- How the least prefixes are found: one candidate after the other, in order.
use Rattle.std.specs.Prelude.{◌≡◌, ℕ, zero, suc, ◌-◌, ◌%◌, ◌^◌, Bool, true, false, ◌&&◌, ◌==◌, List, [], ◌∷◌, ◌++◌, map, nat_eq, nat_lt, Option, Some, None, if◌then◌else◌}
use Rattle.std.specs.List.{list_any}
use Rattle.std.specs.Option.{option_eq}
use Rattle.indexmap.specs.IndexSet.{contains}
use Rattle.net_base.specs.Prefixes.{PlainPrefix, same_prefix}
use Rattle.policy_base.specs.Policies.{PlainPolicy}
use Rattle.first_patterns.specs.Tables.{AreFirsts}
use Rattle.least_prefixes.specs.declared.asked.Asked.{Asked}
use Rattle.least_prefixes.specs.declared.asked.Class.{Class}
use Rattle.least_prefixes.specs.Classes.{class_for, is_originated}

abbrev pub same_class : Class → Class → Bool
same_class a b = option_eq nat_eq a.old b.old && option_eq nat_eq a.new b.new

-- a prefix joins the others where its class is none of theirs
abbrev pub with_class : List Class → List PlainPrefix → Class → PlainPrefix → List PlainPrefix
with_class seen ps c p = if list_any (same_class c) seen then ps else ps ++ p ∷ []

abbrev pub is_of : Class → Option Class → Bool
is_of c None = false
is_of c (Some d) = same_class c d

abbrev pub joined_by : PlainPolicy → PlainPolicy → List PlainPrefix → PlainPrefix → Option Class → List PlainPrefix
joined_by old new ps p None = ps
joined_by old new ps p (Some c) = if list_any (λ q. is_of c (class_for old new q)) ps then ps else ps ++ p ∷ []

-- with a prefix, where it has a class that none of them has
abbrev pub joined : PlainPolicy → PlainPolicy → List PlainPrefix → PlainPrefix → List PlainPrefix
joined old new ps p = joined_by old new ps p (class_for old new p)

-- the address has no bit past the length
abbrev pub is_clean : ℕ → ℕ → Bool
is_clean x n = x % 2 ^ (32 - n) == 0

abbrev pub joined_if : PlainPolicy → PlainPolicy → Bool → List PlainPrefix → PlainPrefix → List PlainPrefix
joined_if old new false ps p = ps
joined_if old new true ps p = joined old new ps p

-- with the prefixes at an address, of the lengths below n
abbrev pub joined_at : PlainPolicy → PlainPolicy → List PlainPrefix → ℕ → ℕ → List PlainPrefix
joined_at old new ps x zero = ps
joined_at old new ps x (suc n) = joined_if old new (is_clean x n) (joined_at old new ps x n) (record { bits = x; len = n })

-- with all prefixes at a number, which none are at where it's no address
abbrev pub joined_bound : PlainPolicy → PlainPolicy → Bool → List PlainPrefix → ℕ → List PlainPrefix
joined_bound old new false ps x = ps
joined_bound old new true ps x = joined_at old new ps x 33

-- with the prefixes at some numbers
abbrev pub joined_over : PlainPolicy → PlainPolicy → List PlainPrefix → List ℕ → List PlainPrefix
joined_over old new ps [] = ps
joined_over old new ps (x ∷ xs) = joined_over old new (joined_bound old new (nat_lt x 4294967296) ps x) xs

-- what was made ready of the two policies
pub record Knows (asked : Asked) (old new : PlainPolicy) : Type 0 where
  pub of_old : AreFirsts asked.old old
  pub of_new : AreFirsts asked.new new
  pub originated : (p : PlainPrefix) → contains same_prefix asked.originated p ≡ is_originated old new p

-- the classes that were seen are those of the prefixes
abbrev pub AreSeen : PlainPolicy → PlainPolicy → List Class → List PlainPrefix → Type 0
AreSeen old new seen ps = map (class_for old new) ps ≡ map Some seen
