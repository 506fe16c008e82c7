-- Prefixes and patterns, as plain numbers.
use Rattle.std.specs.Prelude.{◌≡◌, ℕ, ◌-◌, ◌/◌, ◌%◌, ◌^◌, ◌<◌, ◌≤◌, Bool, ◌&&◌, ◌==◌, nat_le}

pub record PlainPrefix : Type 0 where
  pub bits : ℕ
  pub len : ℕ

-- four bytes, a length of at most 32, and no bit set past it
pub record IsPrefix (p : PlainPrefix) : Type 0 where
  pub wide : p.bits < 2 ^ 32
  pub within : p.len ≤ 32
  pub clean : p.bits % 2 ^ (32 - p.len) ≡ 0

-- the prefixes inside a base whose length is at most `upto`
pub record PlainPattern : Type 0 where
  pub base : PlainPrefix
  pub upto : ℕ

-- a prefix, and a length from its own to 32
pub record IsPattern (p : PlainPattern) : Type 0 where
  pub prefix : IsPrefix p.base
  pub least : p.base.len ≤ p.upto
  pub most : p.upto ≤ 32

-- the first bits, as many as the base is long, agree
abbrev pub is_inside : PlainPrefix → PlainPrefix → Bool
is_inside base p = nat_le base.len p.len && (p.bits / 2 ^ (32 - base.len) == base.bits / 2 ^ (32 - base.len))

-- a pattern contains the prefixes inside its base up to a length
abbrev pub contains : PlainPattern → PlainPrefix → Bool
contains pattern p = is_inside pattern.base p && nat_le p.len pattern.upto

abbrev pub same_prefix : PlainPrefix → PlainPrefix → Bool
same_prefix p q = p.bits == q.bits && p.len == q.len

-- the pattern that contains one prefix alone
abbrev pub only : PlainPrefix → PlainPattern
only p = record { base = p; upto = p.len }
