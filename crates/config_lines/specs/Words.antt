-- The words of a line.
use Rattle.std.specs.Prelude.{ℕ, ◌==◌, List, Option, Some, None, Result, Ok, Err, ⊤, if◌then◌else◌}
use Rattle.std.specs.Str.{bytes_eq}
use Rattle.net_base.specs.Addresses.{cut_at}
use Rattle.net_base.specs.NameRule.{is_name}
use Rattle.net_base.specs.Prefixes.{PlainPrefix}
use Rattle.net_base.specs.Steps.{◌>>=◌, or_fault, unless}
use Rattle.net_base.specs.declared.prefix_text.PrefixFault.{PrefixFault}
use Rattle.config_lines.specs.declared.edition.Edition.{Edition}
use Rattle.config_lines.specs.declared.edition.Edition.TheVariants.{First, Second}
use Rattle.config_lines.specs.declared.line.LineFault.{LineFault}
use Rattle.config_lines.specs.declared.line.LineFault.TheVariants.{Form}
use Rattle.config_lines.specs.declared.number.Figure.TheVariants.{Value}
use Rattle.config_lines.specs.declared.number.RawTag.{RawTag}
use Rattle.config_lines.specs.Numbers.{number_of}

-- this word and no other
abbrev pub is_word : List ℕ → List ℕ → Result ⊤ LineFault
is_word fixed word = unless Form (bytes_eq word fixed)

unfoldable pub name_of : List ℕ → Result (List ℕ) LineFault
name_of word = if is_name word then Ok word else Err Form

-- an address other than 0.0.0.0
abbrev pub identifier_of : Option ℕ → Result ℕ LineFault
identifier_of None = Err Form
identifier_of (Some n) = if n == 0 then Err Form else Ok n

abbrev pub as_prefix : Result PlainPrefix PrefixFault → Result PlainPrefix LineFault
as_prefix (Ok p) = Ok p
as_prefix (Err e) = Err Form

-- two numbers, as they stand, joined by a colon
unfoldable pub pair_of : List ℕ → Result RawTag LineFault
pair_of word = do
  t ← or_fault Form (cut_at 58 word)
  asn ← number_of t.0
  value ← number_of t.1
  Ok (record { asn = asn; middle = Value 0; value = value })

-- three numbers, as they stand, joined by colons
unfoldable pub triple_of : List ℕ → Result RawTag LineFault
triple_of word = do
  t ← or_fault Form (cut_at 58 word)
  rest ← or_fault Form (cut_at 58 t.1)
  asn ← number_of t.0
  middle ← number_of rest.0
  value ← number_of rest.1
  Ok (record { asn = asn; middle = middle; value = value })

abbrev pub tag_of : Edition → List ℕ → Result RawTag LineFault
tag_of First word = pair_of word
tag_of Second word = triple_of word
