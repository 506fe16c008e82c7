-- The shape of tables. The entries have places from 1; the place 0 is what is around them.
use Rattle.std.specs.Prelude.{ℕ, ◌==◌, ◌^◌, nat_lt, not, length, slice_get, is_some, List, Option, Some, None, Result, Ok, codes, option_and_then, if◌then◌else◌}
use Rattle.serde_json.specs.Data.{Data}
use Rattle.serde_json.specs.Events.{members_len}
use Rattle.serde_json.specs.Find.{get, as_null, as_number, as_object, as_str, as_u64}
use Rattle.json_values.specs.Json.{list_at}
use Rattle.net_base.specs.declared.numbers.Tag.{Tag}
use Rattle.net_base.specs.Steps.{◌>>=◌, or_fault, unless, each_from}
use Rattle.table_reader.specs.declared.fault.TablesFault.{TablesFault}
use Rattle.table_reader.specs.declared.fault.TablesFault.TheVariants.{Shape}

-- each of them in order
abbrev pub each : {A B : Type 0} → (A → Result B TablesFault) → List A → Result (List B) TablesFault
each f xs = each_from (λ _. f) 1 xs

-- a whole number of 32 bits
abbrev pub short_of : Data → Option ℕ
short_of d = option_and_then (λ n. if nat_lt n (2 ^ 32) then Some n else None) (option_and_then as_u64 (as_number d))

-- a text
unfoldable pub text_of : ℕ → Data → Result (List ℕ) TablesFault
text_of place d = or_fault (Shape place) (as_str d)

-- an array of texts, one at least
unfoldable pub path_of : ℕ → Data → Result (List (List ℕ)) TablesFault
path_of place d = do
  names ← or_fault (Shape place) (list_at d)
  _ ← unless (Shape place) (not (length names == 0))
  each (text_of place) names

-- an array of exactly two numbers
unfoldable pub tag_of : ℕ → Data → Result Tag TablesFault
tag_of place d = do
  numbers ← or_fault (Shape place) (list_at d)
  _ ← unless (Shape place) (length numbers == 2)
  asn ← or_fault (Shape place) (option_and_then short_of (slice_get numbers 0))
  value ← or_fault (Shape place) (option_and_then short_of (slice_get numbers 1))
  Ok (record { asn = asn; value = value })

-- what an entry says of a route, before its names are looked up
pub record Said : Type 0 where
  pub path : List (List ℕ)
  pub tag : Tag
  pub pref : ℕ

-- an object with exactly the keys `path`, `pref` and `tag`
unfoldable pub route_of : ℕ → Data → Result Said TablesFault
route_of place d = do
  members ← or_fault (Shape place) (as_object d)
  path ← or_fault (Shape place) (get (codes "path") d)
  pref ← or_fault (Shape place) (get (codes "pref") d)
  tag ← or_fault (Shape place) (get (codes "tag") d)
  _ ← unless (Shape place) (members_len members == 3)
  path ← path_of place path
  pref ← or_fault (Shape place) (short_of pref)
  tag ← tag_of place tag
  Ok (record { path = path; tag = tag; pref = pref })

-- `null`, or a route
unfoldable pub entry_of : ℕ → Data → Result (Option Said) TablesFault
entry_of place d = if is_some (as_null d) then Ok None else route_of place d >>= (λ said. Ok (Some said))

-- an object with exactly the key `routes`, an array of entries
unfoldable pub shape_of : Data → Result (List (Option Said)) TablesFault
shape_of d = do
  members ← or_fault (Shape 0) (as_object d)
  routes ← or_fault (Shape 0) (get (codes "routes") d)
  _ ← unless (Shape 0) (members_len members == 1)
  entries ← or_fault (Shape 0) (list_at routes)
  each_from entry_of 1 entries
