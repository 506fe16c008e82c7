-- What inputs that never fail hold.
use Rattle.std.specs.Prelude.{List, ℕ, []}
use Rattle.std.specs.Option.{option_map_or}
use Rattle.std.specs.BTreeMap.{get_by_text}
use Rattle.input_output.specs.declared.sure_inputs.SureInputs.{SureInputs}

-- The bytes of a name: none where the name isn't held.
abbrev pub bytes_of : SureInputs → List ℕ → List ℕ
bytes_of s name = option_map_or (λ bytes. bytes.items) (get_by_text s.held name) []
