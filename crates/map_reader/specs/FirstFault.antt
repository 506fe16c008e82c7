-- The first fault of the lines of a maps text.
use Rattle.std.specs.Prelude.{◌≡◌, ℕ, ◌+◌, List, ◌∷◌, ◌++◌, length, Ok, Err}
use Rattle.config_reader.specs.declared.fault.ConfigFault.{ConfigFault}
use Rattle.map_reader.specs.declared.reading.MapsReading.{MapsReading}
use Rattle.map_reader.specs.MapsReading.{opening}
use Rattle.map_reader.specs.MapsRead.{with_line, with_lines}

-- the lines before one line are taken, and that one isn't; the first of all has the number 2
pub record IsFirstFault (texts : List (List ℕ)) (e : ConfigFault) : Type 0 where
  pub taken : List (List ℕ)
  pub line : List ℕ
  pub more : List (List ℕ)
  pub reading : MapsReading
  pub whole : texts ≡ taken ++ line ∷ more
  pub fine : with_lines 2 opening taken ≡ Ok reading
  pub wrong : with_line (length taken + 2) reading line ≡ Err e
