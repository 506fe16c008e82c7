-- The lines that tell how a network came to rest.
use Rattle.std.specs.Prelude.{ℕ, List, ◌++◌, codes}
use Rattle.std.specs.Fmt.{decimal}

-- in how many rounds
unfoldable pub rounds_line : ℕ → List ℕ
rounds_line rounds = codes "rounds " ++ decimal rounds ++ codes "\n"

-- by how many deliveries
unfoldable pub deliveries_line : ℕ → List ℕ
deliveries_line count = codes "deliveries " ++ decimal count ++ codes "\n"
