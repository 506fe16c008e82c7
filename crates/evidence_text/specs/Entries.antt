-- Entries whose numbers are in their ranges.
use Rattle.std.specs.Prelude.{ℕ, ◌==◌, ◌&&◌, nat_le, Option, Some, None, if◌then◌else◌}
use Rattle.net_base.specs.OptionSteps.{◌>>=◌}
use Rattle.evidence_text.specs.declared.raw.NodeEntry.{NodeEntry}

-- the number, where it is in the range
abbrev pub within : ℕ → ℕ → ℕ → Option ℕ
within least most n = if nat_le least n && nat_le n most then Some n else None

-- a rank, for which 0 says that there is none
abbrev pub rank_of : ℕ → Option ℕ
rank_of n = if n == 0 then None else Some n

-- the node of six numbers, where all are in their ranges
unfoldable pub entry : Option ℕ → Option ℕ → Option ℕ → Option ℕ → Option ℕ → Option ℕ → Option NodeEntry
entry location listener rank number asn value = do
  l ← location
  h ← listener
  r ← rank
  n ← number
  a ← asn
  v ← value
  Some (record { node = record { loc = l; listener = h == 1; rank = rank_of r }; number = n; tag = record { asn = a; value = v } })

-- the step of two numbers
unfoldable pub pair : Option ℕ → Option ℕ → Option (ℕ × ℕ)
pair from to = do
  m ← from
  n ← to
  Some (m, n)
