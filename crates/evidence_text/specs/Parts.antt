-- The words of the parts that a fault can name.
use Rattle.std.specs.Prelude.{ℕ, List, codes}
use Rattle.evidence_text.specs.declared.parts.Field.{Field}
use Rattle.evidence_text.specs.declared.parts.Field.TheVariants as field

-- the word of a part
abbrev pub field_word : Field → List ℕ
field_word field.Top = codes "top"
field_word field.Version = codes "version"
field_word field.Cases = codes "cases"
field_word field.Case = codes "case"
field_word field.Statement = codes "statement"
field_word field.Prefixes = codes "prefixes"
field_word field.Origins = codes "origins"
field_word field.External = codes "external"
field_word field.Nodes = codes "nodes"
field_word field.Starts = codes "starts"
field_word field.Steps = codes "steps"
