-- The words of the parts that a fault can name, and of what it can count.
use Rattle.std.specs.Prelude.{ℕ, List, codes}
use Rattle.topology.specs.declared.parts.Field.{Field}
use Rattle.topology.specs.declared.parts.Field.TheVariants as field
use Rattle.topology.specs.declared.parts.Kind.{Kind}
use Rattle.topology.specs.declared.parts.Kind.TheVariants as kind

-- the word of a part
abbrev pub field_word : Field → List ℕ
field_word field.Top = codes "top"
field_word field.Entry = codes "entry"
field_word field.Routers = codes "routers"
field_word field.Peers = codes "peers"
field_word field.Links = codes "links"
field_word field.Name = codes "name"
field_word field.Asn = codes "asn"
field_word field.Id = codes "id"

-- the word of what is counted
abbrev pub kind_word : Kind → List ℕ
kind_word kind.Routers = codes "routers"
kind_word kind.Peers = codes "peers"
kind_word kind.Links = codes "links"
