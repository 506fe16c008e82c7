-- What inputs in memory hold, their counts, and their calls.
use Rattle.std.specs.Prelude.{◌≡◌, ◌⊎◌, ℕ, List, [], Option, None, IsSome, option_map}
use Rattle.std.specs.Option.{option_map_or}
use Rattle.std.specs.BTreeMap.{get_by_text}
use Rattle.input_output.specs.Calls.{Plan}
use Rattle.input_output.specs.declared.mem_inputs.MemInputs.{MemInputs}

-- What a name holds.
abbrev pub told : MemInputs → List ℕ → Option (List ℕ)
told m name = option_map (λ h. h.bytes.items) (get_by_text m.held name)

-- How often the reading of a name has failed. The names that aren't held share one counter.
abbrev pub count : MemInputs → List ℕ → ℕ
count m name = option_map_or (λ h. h.faults) (get_by_text m.held name) m.shared

-- How often a reading has failed, whatever the name.
abbrev pub all_count : MemInputs → ℕ
all_count m = m.faults

-- How many calls of `read` were made, and which are to fail.
abbrev pub reads : MemInputs → Plan
reads m = m.calls

-- The two names have one counter: they are the same, or neither is held.
abbrev pub HaveOneCounter : MemInputs → List ℕ → List ℕ → Type 0
HaveOneCounter m a b = (a ≡ b) ⊎ (told m a ≡ None) × (told m b ≡ None)

-- No call is listed to fail, and the name is held: so its reading doesn't fail.
pub record IsSure (m : MemInputs) (name : List ℕ) : Type 0 where
  pub unlisted : (reads m).failing ≡ []
  pub held : IsSome (told m name)
