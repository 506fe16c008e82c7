-- The order of a configuration's lines: each entry of a list stands above the last one before it.
use Rattle.std.specs.Prelude.{◌-◌, ◌&&◌, ◌||◌, ◌==◌, nat_lt, Bool, true, List, length, slice_get, Option, Some, None}
use Rattle.std.specs.Option.{option_map}
use Rattle.config_base.specs.declared.config.Import.{Import}
use Rattle.config_base.specs.declared.config.Export.{Export}
use Rattle.config_base.specs.Configs.{Key, tag_key}

-- by the first numbers, then by the second ones, then by the third ones
abbrev pub is_below : Key → Key → Bool
is_below a b = nat_lt a.first b.first || (a.first == b.first && (nat_lt a.second b.second || (a.second == b.second && nat_lt a.third b.third)))

abbrev pub is_above : Option Key → Key → Bool
is_above None key = true
is_above (Some last) key = is_below last key

abbrev pub last_of : {A : Type 0} → List A → Option A
last_of xs = slice_get xs (length xs - 1)

abbrev pub import_key : Import → Key
import_key r = tag_key r.class r.tag

abbrev pub export_key : Export → Key
export_key e = tag_key e.class e.tag

-- an entry with this key may stand behind the entries
abbrev pub ascends : {A : Type 0} → (A → Key) → List A → Key → Bool
ascends key entries next = is_above (option_map key (last_of entries)) next
