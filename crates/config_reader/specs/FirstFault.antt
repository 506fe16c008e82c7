-- The first fault of the lines of a text of an edition.
use Rattle.std.specs.Prelude.{◌≡◌, ℕ, ◌+◌, List, ◌∷◌, ◌++◌, length, Ok, Err}
use Rattle.config_lines.specs.declared.edition.Edition.{Edition}
use Rattle.config_reader.specs.declared.fault.ConfigFault.{ConfigFault}
use Rattle.config_reader.specs.declared.reading.Reading.{Reading}
use Rattle.config_reader.specs.Reading.{opening}
use Rattle.config_reader.specs.Text.{with_line, with_lines}

-- the lines before one line are taken, and that one isn't; the first of all has the number 2
pub record IsFirstFault (edition : Edition) (texts : List (List ℕ)) (e : ConfigFault) : Type 0 where
  pub taken : List (List ℕ)
  pub line : List ℕ
  pub more : List (List ℕ)
  pub reading : Reading
  pub whole : texts ≡ taken ++ line ∷ more
  pub fine : with_lines edition 2 opening taken ≡ Ok reading
  pub wrong : with_line edition (length taken + 2) reading line ≡ Err e
