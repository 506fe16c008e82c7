-- What calls to the outside tell, and what they leave.
use Rattle.std.specs.Prelude.{◌≡◌, ℕ, ◌+◌, List, ◌++◌, take, Option, option_map, min}

-- A counter that is raised by one. It stays at its last value.
abbrev pub next : ℕ → ℕ
next count = min (count + 1) 18446744073709551615

-- One call failed: its count was raised once.
abbrev pub Rose : ℕ → ℕ → Type 0
Rose before now = now ≡ next before

-- What was told before is told now, with this text at its end. What was not told is not told now.
abbrev pub Grew : Option (List ℕ) → Option (List ℕ) → List ℕ → Type 0
Grew before now text = now ≡ option_map (λ bytes. bytes ++ text) before

-- It grew by a front of the text, of this length.
abbrev pub GrewByPart : Option (List ℕ) → Option (List ℕ) → List ℕ → Type 0
GrewByPart before now text = (n : ℕ) × Grew before now (take n text)
