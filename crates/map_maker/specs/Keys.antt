-- The keys of patterns, and spans of keys.
use Rattle.std.specs.Prelude.{◌≡◌, ℕ, ◌<◌, ◌≤◌, ◌+◌, ◌-◌, ◌*◌, ◌/◌, ◌^◌, ◌&&◌, ◌==◌, nat_le, nat_lt, Bool, true, false, List, [], ◌∷◌, if◌then◌else◌}
use Rattle.std.specs.List.{list_any}
use Rattle.net_base.specs.Prefixes.{PlainPattern}
use Rattle.map_maker.specs.declared.spans.Span.{Span}

-- in order of the length, then of the bits, and then of the greatest length that is contained
abbrev pub key : PlainPattern → ℕ
key q = (q.base.len * 2 ^ 32 + q.base.bits) * 64 + q.upto

abbrev pub in_span : Span → ℕ → Bool
in_span s k = nat_le s.from k && nat_lt k s.to

abbrev pub in_some : List Span → ℕ → Bool
in_some spans k = list_any (λ (s : Span). in_span s k) spans

-- no two of them share a key
abbrev pub AreApart : List Span → Type 0
AreApart [] = Unit {0}
AreApart (s ∷ spans) = ((k : ℕ) → in_span s k ≡ true → in_some spans k ≡ false) × AreApart spans

-- they are apart, end before the key that was reached, and have all keys before it from the given one on
pub record AreJoined (spans : List Span) (reached from : ℕ) : Type 0 where
  pub apart : AreApart spans
  pub below : (k : ℕ) → in_some spans k ≡ true → k < reached
  pub full : (k : ℕ) → from ≤ k → k < reached → in_some spans k ≡ true

-- the number is among them
abbrev pub has : List ℕ → ℕ → Bool
has xs n = list_any (λ x. x == n) xs

-- ---- of the patterns of one length, those that overlap a pattern

-- shorter ones, or as long, with its first bits and an end that isn't before its length
abbrev pub above : PlainPattern → ℕ → Span
above p len = record {
  from = (len * 2 ^ 32 + p.base.bits / 2 ^ (32 - len) * 2 ^ (32 - len)) * 64 + p.base.len;
  to = (len * 2 ^ 32 + p.base.bits / 2 ^ (32 - len) * 2 ^ (32 - len)) * 64 + 64;
}

-- longer ones among its addresses
abbrev pub inside : PlainPattern → ℕ → Span
inside p len = record { from = (len * 2 ^ 32 + p.base.bits) * 64; to = (len * 2 ^ 32 + p.base.bits + 2 ^ (32 - p.base.len)) * 64 }

abbrev pub span_at : PlainPattern → ℕ → Span
span_at p len = if nat_le len p.base.len then above p len else (if nat_le len p.upto then inside p len else record { from = 0; to = 0 })
