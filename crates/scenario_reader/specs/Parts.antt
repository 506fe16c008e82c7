-- The words of the parts that a fault can name.
use Rattle.std.specs.Prelude.{ℕ, List, codes}
use Rattle.scenario_reader.specs.declared.parts.Field.{Field}
use Rattle.scenario_reader.specs.declared.parts.Field.TheVariants as field

-- the word of a part
abbrev pub field_word : Field → List ℕ
field_word field.Top = codes "top"
field_word field.Prefix = codes "prefix"
field_word field.Dead = codes "dead"
field_word field.DeadLinks = codes "dead_links"
field_word field.Silent = codes "silent"
