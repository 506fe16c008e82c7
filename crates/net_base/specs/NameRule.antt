-- What a name is.
use Rattle.std.specs.Prelude.{ℕ, ◌&&◌, ◌||◌, ◌==◌, nat_le, not, List, length, slice_index, Bool, is_none}
use Rattle.std.specs.List.{list_all}
use Rattle.policy_words.specs.Words.{word_named}

-- a letter of ASCII
abbrev pub is_letter : ℕ → Bool
is_letter b = (nat_le 97 b && nat_le b 122) || (nat_le 65 b && nat_le b 90)

-- a letter, a digit, `_`, `-` or `.`
abbrev pub is_name_byte : ℕ → Bool
is_name_byte b = is_letter b || (nat_le 48 b && nat_le b 57) || (b == 95) || (b == 45) || (b == 46)

-- from 1 to 32 name bytes, the first of them a letter, and no word of the policy language
unfoldable pub is_name : List ℕ → Bool
is_name bs = not (length bs == 0) && nat_le (length bs) 32 && is_letter (slice_index bs 0) && list_all is_name_byte bs && is_none (word_named bs)
