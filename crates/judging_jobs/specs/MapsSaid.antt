-- What is said of maps.
use Rattle.std.specs.Prelude.{ℕ, List, ◌++◌, codes}
use Rattle.std.specs.Fmt.{decimal}

-- the refusal that their text would have so many lines
abbrev pub too_many_lines : ℕ → List ℕ
too_many_lines number = codes "propane: refused 8 too-many-lines number " ++ decimal number ++ codes "\n"

abbrev pub same_line : List ℕ
same_line = codes "same\n"

abbrev pub differs_line : ℕ → List ℕ
differs_line number = codes "differs line " ++ decimal number ++ codes "\n"
