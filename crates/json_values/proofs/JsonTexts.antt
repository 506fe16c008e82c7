-- Which JSON value a text is, by what the reader answers.
use Rattle.std.proofs.Common.{◌≡◌, ℕ, List, Option, Some, None, Bool, true, false, refl}
use Rattle.std.specs.Str.{is_utf8, IsUtf8}
use Rattle.std.proofs.lemmas.Str.{is_utf8-from_IsUtf8, IsUtf8-from_is_utf8}
use Rattle.serde_json.specs.Data.{Data}
use Rattle.serde_json.specs.Read.{read}
use Rattle.list_law.proofs.Options.{when_parts}
use Rattle.json_values.specs.Json.{json_of}
use Rattle.std.specs.Prelude.{if◌then◌else◌}

pub json_of-read : (bytes : List ℕ) (d : Data) → IsUtf8 bytes → read bytes ≡ Some d → json_of bytes ≡ Some d
unfolding json_of
json_of-read bytes d text is = rw (is_utf8-from_IsUtf8 bytes text, is) refl

by_test : (b : Bool) (r : Option Data) → (b ≡ true → r ≡ None) → (if b then r else None) ≡ None
by_test true r none = none refl
by_test false r none = refl

pub json_of-refused : (bytes : List ℕ) → (IsUtf8 bytes → read bytes ≡ None) → json_of bytes ≡ None
unfolding json_of
json_of-refused bytes none = by_test (is_utf8 bytes) (read bytes) (λ t. none (IsUtf8-from_is_utf8 bytes t))

pub json_of-value : (bytes : List ℕ) (d : Data) → json_of bytes ≡ Some d → IsUtf8 bytes × (read bytes ≡ Some d)
unfolding json_of
json_of-value bytes d is = let parts = when_parts (is_utf8 bytes) (read bytes) d is in (IsUtf8-from_is_utf8 bytes parts.0, parts.1)
