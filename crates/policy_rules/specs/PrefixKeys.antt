-- Prefixes as pairs of their bits and their length.
use Rattle.std.specs.Prelude.{ℕ, List, map}
use Rattle.net_base.specs.Prefixes.{PlainPrefix}

abbrev pub prefix_of : ℕ × ℕ → PlainPrefix
prefix_of k = record { bits = k.0; len = k.1 }

abbrev pub prefixes_of : List (ℕ × ℕ) → List PlainPrefix
prefixes_of ks = map prefix_of ks
