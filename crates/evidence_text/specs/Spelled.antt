-- The evidence that bytes spell.
use Rattle.std.specs.Prelude.{ℕ, ◌==◌, ◌&&◌, nat_eq, nat_lt, Bool, length, map, List, Result, Ok}
use Rattle.std.specs.List.{list_all, list_any}
use Rattle.json_values.specs.Json.{json_of}
use Rattle.evidence_text.specs.declared.parts.Field.TheVariants as field
use Rattle.net_base.specs.Sets.{set_of}
use Rattle.net_base.specs.Steps.{◌>>=◌, or_fault, unless}
use Rattle.evidence_base.specs.Made.{PlainCaseEvidence}
use Rattle.evidence_text.specs.declared.fault.EvidenceFault.{EvidenceFault}
use Rattle.evidence_text.specs.declared.fault.EvidenceFault.TheVariants.{NotJson, Number, Place, Version}
use Rattle.evidence_text.specs.declared.raw.NodeEntry.{NodeEntry}
use Rattle.evidence_text.specs.declared.raw.RawCase.{RawCase}
use Rattle.evidence_text.specs.declared.raw.RawEvidence.{RawEvidence}
use Rattle.evidence_text.specs.declared.raw.ReadCase.{ReadCase}
use Rattle.evidence_text.specs.declared.raw.ReadText.{ReadText}
use Rattle.evidence_text.specs.Shape.{each, shape_of}

-- a case all of whose numbers are in their ranges
unfoldable pub numbered_case : RawCase → Result ReadCase EvidenceFault
numbered_case c = do
  nodes ← each (or_fault (Number field.Nodes)) c.nodes
  origins ← each (or_fault (Number field.Origins)) c.origins
  starts ← each (or_fault (Number field.Starts)) c.starts
  statement ← or_fault (Number field.Statement) c.statement
  steps ← each (or_fault (Number field.Steps)) c.steps
  Ok (record {
    case = record { statement = statement; origins = set_of (λ l. list_any (nat_eq l) origins); external = c.external; prefixes = c.prefixes };
    nodes = nodes;
    starts = starts;
    steps = steps;
  })

-- and a text
unfoldable pub numbered : RawEvidence → Result ReadText EvidenceFault
numbered t = do
  cases ← each numbered_case t.cases
  version ← or_fault (Number field.Version) t.version
  Ok (record { cases = cases; version = version })

-- the starts and steps name nodes of the list
abbrev pub is_placed : ReadCase → Bool
is_placed c =
    list_all (λ n. nat_lt n (length c.nodes)) c.starts
    && list_all (λ (s : ℕ × ℕ). nat_lt s.0 (length c.nodes) && nat_lt s.1 (length c.nodes)) c.steps

abbrev pub evidence_of : ReadCase → PlainCaseEvidence
evidence_of c = record {
  case = c.case;
  graph = record { nodes = map (λ (e : NodeEntry). e.node) c.nodes; starts = c.starts; steps = c.steps };
  numbers = map (λ (e : NodeEntry). e.number) c.nodes;
  tags = map (λ (e : NodeEntry). e.tag) c.nodes;
}

-- what has the shape, where the numbers are in their ranges, the starts and steps name nodes, and the version is 1; else
-- the least rule that is broken
unfoldable pub judged : RawEvidence → Result (List PlainCaseEvidence) EvidenceFault
judged raw = do
  text ← numbered raw
  _ ← unless Place (list_all is_placed text.cases)
  _ ← unless Version (text.version == 1)
  Ok (map evidence_of text.cases)

-- the bytes are a JSON value, the value has the shape of evidence, and it keeps the rules; else the least rule that is
-- broken
unfoldable pub spelled : List ℕ → Result (List PlainCaseEvidence) EvidenceFault
spelled bytes = do
  value ← or_fault NotJson (json_of bytes)
  raw ← shape_of value
  judged raw
