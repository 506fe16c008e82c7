-- Which tags are free where some are taken.
use Rattle.std.specs.Prelude.{◌≡◌, ℕ, zero, suc, ◌+◌, ◌<◌, ◌^◌, Bool, false, ◌==◌, List, [], ◌∷◌, MatchBool, if◌then◌else◌}
use Rattle.std.specs.List.{list_any}
use Rattle.net_base.specs.declared.numbers.Tag.{Tag}
use Rattle.net_base.specs.Numbers.{no_tag}
use Rattle.config_base.specs.Lines.{same_tag}

-- one of the tags has this AS number and this value
abbrev pub is_taken : List Tag → ℕ → ℕ → Bool
is_taken tags asn v = list_any (same_tag (record { asn = asn; value = v })) tags

-- how many of the values from 1 to this one no tag with the AS number has
abbrev pub free_count : List Tag → ℕ → ℕ → ℕ
free_count tags asn zero = 0
free_count tags asn (suc v) = free_count tags asn v + (if is_taken tags asn (suc v) then 0 else 1)

-- The value is the k-th one, from 1, that no tag with the AS number has.
pub record IsFree (tags : List Tag) (asn k v : ℕ) : Type 0 where
  pub free : is_taken tags asn v ≡ false
  pub count : free_count tags asn v ≡ k
  pub small : v < 2 ^ 32

-- The tag for one whose value is k: the k-th that is free with the same AS number. No tag stays no tag.
abbrev pub IsNewTag : List Tag → Tag → Tag → Type 0
IsNewTag tags t u = MatchBool (t.value == 0) (u ≡ no_tag) ((u.asn ≡ t.asn) × IsFree tags t.asn t.value u.value)

-- the same of each
abbrev pub AreNewTags : List Tag → List Tag → List Tag → Type 0
AreNewTags tags [] [] = Unit {0}
AreNewTags tags (t ∷ ts) (u ∷ us) = IsNewTag tags t u × AreNewTags tags ts us
AreNewTags tags _ _ = ⊥

-- two lists have the same tags
abbrev pub HaveSameTags : List Tag → List Tag → Type 0
HaveSameTags some others = (t : Tag) → list_any (same_tag t) some ≡ list_any (same_tag t) others
