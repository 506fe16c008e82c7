-- What is left of a line once its form is judged: each of its numbers.
use Rattle.std.specs.Prelude.{ℕ, List, Result, Ok}
use Rattle.net_base.specs.Prefixes.{PlainPrefix}
use Rattle.net_base.specs.Steps.{◌>>=◌, unless}
use Rattle.config_lines.specs.declared.edition.Edition.{Edition}
use Rattle.config_lines.specs.declared.line.Line.{Line}
use Rattle.config_lines.specs.declared.line.Line.TheVariants as line
use Rattle.config_lines.specs.declared.line.LineFault.{LineFault}
use Rattle.config_lines.specs.declared.line.LineFault.TheVariants.{Number}
use Rattle.config_lines.specs.declared.number.Figure.{Figure}
use Rattle.config_lines.specs.declared.number.RawTag.{RawTag}
use Rattle.config_lines.specs.declared.number.Setting.{Setting}
use Rattle.config_lines.specs.Editions.{fits_router}
use Rattle.config_lines.specs.Numbers.{in_range, class_in, tag_in_range}

-- of a `router` line
abbrev pub fitting_router : Edition → List ℕ → Figure → ℕ → Result Line LineFault
fitting_router edition name n id = do
  asn ← in_range n
  _ ← unless Number (fits_router edition asn)
  Ok (line.Router name asn id)

-- of an `originate` line
abbrev pub fitting_origination : Edition → ℕ → Figure → PlainPrefix → RawTag → Result Line LineFault
fitting_origination edition classes n prefix t = do
  class ← class_in classes n
  tag ← tag_in_range edition t
  Ok (line.Origination (record { class = class; prefix = prefix; tag = tag }))

-- of an `import` line in the block of a router
abbrev pub fitting_import : Edition → ℕ → Figure → RawTag → Setting → Result Line LineFault
fitting_import edition classes n t s = do
  class ← class_in classes n
  tag ← tag_in_range edition t
  set ← tag_in_range edition s.set
  pref ← in_range s.pref
  Ok (line.Import (record { class = class; tag = tag; set = set; pref = pref }))
