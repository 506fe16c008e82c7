-- The numbers of a line, first as they stand and then in their ranges.
use Rattle.std.specs.Prelude.{ℕ, ◌+◌, ◌-◌, ◌*◌, ◌^◌, ◌&&◌, ◌==◌, nat_le, nat_lt, not, Bool, List, length, slice_index, fold, Option, Some, None, Result, Ok, Err, if◌then◌else◌}
use Rattle.std.specs.List.{list_all}
use Rattle.net_base.specs.Addresses.{is_figure}
use Rattle.net_base.specs.Steps.{◌>>=◌, unless}
use Rattle.net_base.specs.declared.numbers.Tag.{Tag}
use Rattle.config_lines.specs.declared.edition.Edition.{Edition}
use Rattle.config_lines.specs.declared.line.LineFault.{LineFault}
use Rattle.config_lines.specs.declared.line.LineFault.TheVariants.{Form, Number}
use Rattle.config_lines.specs.declared.number.Figure.{Figure}
use Rattle.config_lines.specs.declared.number.Figure.TheVariants.{LeadingZero, Large, Value}
use Rattle.config_lines.specs.declared.number.RawTag.{RawTag}
use Rattle.config_lines.specs.Editions.{fits_tag}

-- one or more digits
abbrev pub is_number : List ℕ → Bool
is_number bytes = not (length bytes == 0) && list_all is_figure bytes

-- a number with one more digit behind it
abbrev pub with_digit : ℕ → ℕ → ℕ
with_digit n d = 10 * n + (d - 48)

-- the number that digits make
abbrev pub value_of : List ℕ → ℕ
value_of digits = fold with_digit 0 digits

-- more than one digit, of which the first is 0
abbrev pub is_padded : List ℕ → Bool
is_padded digits = nat_le 2 (length digits) && slice_index digits 0 == 48

abbrev pub figure_of : List ℕ → Figure
figure_of digits = if is_padded digits then LeadingZero else (if nat_lt (value_of digits) (2 ^ 32) then Value (value_of digits) else Large)

-- the number that a word is, as it stands
unfoldable pub number_of : List ℕ → Result Figure LineFault
number_of word = do
  _ ← unless Form (is_number word)
  Ok (figure_of word)

-- ---- in their ranges

-- no leading zero, and at most 32 bits
abbrev pub in_range : Figure → Result ℕ LineFault
in_range (Value n) = Ok n
in_range LeadingZero = Err Number
in_range Large = Err Number

-- one of so many classes
unfoldable pub class_in : ℕ → Figure → Result ℕ LineFault
class_in classes figure = do
  n ← in_range figure
  _ ← unless Number (nat_le 1 n && nat_le n classes)
  Ok n

-- the number of a `class` line has no range
abbrev pub class_number : Figure → Result (Option ℕ) LineFault
class_number LeadingZero = Err Number
class_number Large = Ok None
class_number (Value n) = Ok (Some n)

-- the number in the middle of a tag is 0
unfoldable pub tag_in_range : Edition → RawTag → Result Tag LineFault
tag_in_range edition raw = do
  asn ← in_range raw.asn
  middle ← in_range raw.middle
  value ← in_range raw.value
  _ ← unless Number (middle == 0 && fits_tag edition (record { asn = asn; value = value }))
  Ok (record { asn = asn; value = value })
