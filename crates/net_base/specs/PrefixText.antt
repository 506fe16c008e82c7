-- Which prefix a text spells.
use Rattle.std.specs.Prelude.{ℕ, ◌-◌, ◌%◌, ◌^◌, ◌==◌, nat_le, List, length, Option, None, Result, Ok, if◌then◌else◌}
use Rattle.net_base.specs.Steps.{◌>>=◌, or_fault, unless}
use Rattle.net_base.specs.Prefixes.{PlainPrefix}
use Rattle.net_base.specs.Addresses.{cut_at, quad_of, small_number, are_octets, bits_of}
use Rattle.net_base.specs.declared.prefix_text.PrefixFault.{PrefixFault}
use Rattle.net_base.specs.declared.prefix_text.PrefixFault.TheVariants.{Shape, Octet, Length, HostBits}

-- a number of at most two digits
abbrev pub length_number : List ℕ → Option ℕ
length_number bs = if nat_le (length bs) 2 then small_number bs else None

-- four numbers joined by dots, each at most 255, then `/` and a length of at most 32, with no bit set past it
unfoldable pub prefix_spelled : List ℕ → Result PlainPrefix PrefixFault
prefix_spelled bs = do
  halves ← or_fault Shape (cut_at 47 bs)
  q ← or_fault Shape (quad_of halves.0)
  len ← or_fault Shape (length_number halves.1)
  _ ← unless Octet (are_octets q)
  _ ← unless Length (nat_le len 32)
  _ ← unless HostBits (bits_of q % 2 ^ (32 - len) == 0)
  Ok (record { bits = bits_of q; len = len })
