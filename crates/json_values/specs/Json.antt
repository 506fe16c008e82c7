-- The JSON value that bytes spell, and its parts.
use Rattle.std.specs.Prelude.{Bool, is_some, map, List, [], ◌∷◌, ℕ, Option, None, if◌then◌else◌, option_map, option_and_then}
use Rattle.std.specs.Str.{is_utf8}
use Rattle.serde_json.specs.Data.{unsigned, Data, number, string, array, Items, no_items, item}
use Rattle.serde_json.specs.Find.{get, as_array, as_number, as_str, as_u64}
use Rattle.serde_json.specs.Read.{read}
use Rattle.serde_json.specs.View.{items_of}

-- the value of a text in UTF-8
unfoldable pub json_of : List ℕ → Option Data
json_of bytes = if is_utf8 bytes then read bytes else None

abbrev pub list_of : Items → List Data
list_of no_items = []
list_of (item d ds) = d ∷ list_of ds

-- the items of an array
abbrev pub list_at : Data → Option (List Data)
list_at d = option_map list_of (as_array d)

-- the text that an object has under a key
abbrev pub text_at : List ℕ → Data → Option (List ℕ)
text_at key d = option_and_then as_str (get key d)

-- the whole number, not negative, that an object has under a key
abbrev pub number_at : List ℕ → Data → Option ℕ
number_at key d = option_and_then (λ v. option_and_then as_u64 (as_number v)) (get key d)

-- an object has a key
abbrev pub has : List ℕ → Data → Bool
has key d = is_some (get key d)

-- ---- what is printed

-- an array of these values, of these whole numbers, of these texts
abbrev pub array_of : List Data → Data
array_of ds = array (items_of ds)

abbrev pub numbers_data : List ℕ → Data
numbers_data ns = array_of (map (λ n. number (unsigned n)) ns)

abbrev pub texts_data : List (List ℕ) → Data
texts_data texts = array_of (map string texts)
