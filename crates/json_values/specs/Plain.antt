-- Values of whole numbers and of texts, in which each object has its keys once and in order.
use Rattle.std.specs.Prelude.{◌≡◌, ◌<◌, ◌^◌, ℕ, List, IsUtf8}
use Rattle.std.specs.Ordering.{nat_cmp}
use Rattle.std.specs.Cmp.Lexicographic.{slice_cmp}
use Rattle.std.proofs.Common.{Greater}
use Rattle.serde_json.specs.Data.{Num, unsigned, negative, float, Data, null, boolean, number, string, array, object, Items, no_items, item, Members, no_members, member}

-- a whole number of 64 bits, not negative
abbrev pub IsWhole : Num → Type 0
IsWhole (unsigned n) = n < 2 ^ 64
IsWhole (negative z) = ⊥
IsWhole (float x) = ⊥

-- each key is greater than k
abbrev pub AreAfter : List ℕ → Members → Type 0
AreAfter k no_members = Unit {0}
AreAfter k (member l d ms) = (slice_cmp nat_cmp l k ≡ Greater) × AreAfter k ms

abbrev mutual
  pub IsPlain : Data → Type 0
  IsPlain null = Unit {0}
  IsPlain (boolean b) = Unit {0}
  IsPlain (number n) = IsWhole n
  IsPlain (string s) = IsUtf8 s
  IsPlain (array ds) = ArePlain ds
  IsPlain (object ms) = AreOrdered ms

  pub ArePlain : Items → Type 0
  ArePlain no_items = Unit {0}
  ArePlain (item d ds) = IsPlain d × ArePlain ds

  pub AreOrdered : Members → Type 0
  AreOrdered no_members = Unit {0}
  AreOrdered (member k d ms) = IsUtf8 k × IsPlain d × AreAfter k ms × AreOrdered ms
