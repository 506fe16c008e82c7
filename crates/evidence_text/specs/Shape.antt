-- The shape of evidence.
use Rattle.std.specs.Prelude.{ℕ, ◌+◌, ◌==◌, ◌&&◌, ◌||◌, nat_le, Bool, true, false, length, is_none, slice_get, List, [], ◌∷◌, Option, Some, None, Result, Ok, Err, codes, option_and_then}
use Rattle.std.specs.List.{list_any}
use Rattle.std.specs.Option.{option_map_or}
use Rattle.serde_json.specs.Data.{Data}
use Rattle.serde_json.specs.Find.{get, as_bool, as_number, as_object, as_str, as_u64}
use Rattle.serde_json.specs.Events.{members_len}
use Rattle.json_values.specs.Json.{has, list_at}
use Rattle.evidence_text.specs.declared.parts.Field.{Field}
use Rattle.evidence_text.specs.declared.parts.Field.TheVariants as field
use Rattle.net_base.specs.declared.prefix_text.PrefixFault.{PrefixFault}
use Rattle.net_base.specs.Prefixes.{PlainPrefix}
use Rattle.net_base.specs.PrefixText.{prefix_spelled}
use Rattle.net_base.specs.Steps.{◌>>=◌, or_fault, unless, each_from}
use Rattle.evidence_text.specs.declared.fault.EvidenceFault.{EvidenceFault}
use Rattle.evidence_text.specs.declared.fault.EvidenceFault.TheVariants.{Shape}
use Rattle.evidence_text.specs.declared.raw.NodeEntry.{NodeEntry}
use Rattle.evidence_text.specs.declared.raw.RawCase.{RawCase}
use Rattle.evidence_text.specs.declared.raw.RawEvidence.{RawEvidence}
use Rattle.evidence_text.specs.declared.raw.RawPlaces.{RawPlaces}
use Rattle.evidence_text.specs.declared.raw.RawWays.{RawWays}
use Rattle.evidence_text.specs.Entries.{entry, pair, within}

-- what each of them gives, or the first fault
abbrev pub each : {A B : Type 0} → (A → Result B EvidenceFault) → List A → Result (List B) EvidenceFault
each f = each_from (λ _. f) 1

-- the greatest number of 32 bits
abbrev pub greatest : ℕ
greatest = 4294967295

-- a JSON number, and which number it is where it is whole and in its range
unfoldable pub number_of : Field → ℕ → ℕ → Data → Result (Option ℕ) EvidenceFault
number_of f least most d = do
  n ← or_fault (Shape f) (as_number d)
  Ok (option_and_then (within least most) (as_u64 n))

-- the number at a place of a row
unfoldable pub number_at : Field → ℕ → ℕ → List Data → ℕ → Result (Option ℕ) EvidenceFault
number_at f least most row i = do
  d ← or_fault (Shape f) (slice_get row i)
  number_of f least most d

-- what an object has under a key
abbrev pub member_of : Field → List ℕ → Data → Result Data EvidenceFault
member_of f key d = or_fault (Shape f) (get key d)

-- the items of the array that an object has under a key
unfoldable pub list_of : Field → List ℕ → Data → Result (List Data) EvidenceFault
list_of f key d = do
  value ← member_of f key d
  or_fault (Shape f) (list_at value)

-- an array of exactly so many items
unfoldable pub row_of : Field → ℕ → Data → Result (List Data) EvidenceFault
row_of f n d = do
  row ← or_fault (Shape f) (list_at d)
  _ ← unless (Shape f) (length row == n)
  Ok row

-- a location, 1 for a listener and else 0, a rank or 0 for none, a preference number, and the two numbers of a tag
unfoldable pub node_of : Data → Result (Option NodeEntry) EvidenceFault
node_of d = do
  row ← row_of field.Nodes 6 d
  location ← number_at field.Nodes 0 767 row 0
  listener ← number_at field.Nodes 0 1 row 1
  rank ← number_at field.Nodes 0 greatest row 2
  number ← number_at field.Nodes 0 greatest row 3
  asn ← number_at field.Nodes 0 greatest row 4
  value ← number_at field.Nodes 0 greatest row 5
  Ok (entry location listener rank number asn value)

-- the numbers of two nodes
unfoldable pub step_of : Data → Result (Option (ℕ × ℕ)) EvidenceFault
step_of d = do
  row ← row_of field.Steps 2 d
  from ← number_at field.Steps 0 greatest row 0
  to ← number_at field.Steps 0 greatest row 1
  Ok (pair from to)

abbrev pub prefix_or : Result PlainPrefix PrefixFault → Result PlainPrefix EvidenceFault
prefix_or (Ok p) = Ok p
prefix_or (Err e) = Err (Shape field.Prefixes)

-- the text of a prefix
unfoldable pub prefix_of : Data → Result PlainPrefix EvidenceFault
prefix_of d = do
  text ← or_fault (Shape field.Prefixes) (as_str d)
  prefix_or (prefix_spelled text)

-- each is at least so great, and greater than those before it
abbrev pub ascend_from : ℕ → List (Option ℕ) → Bool
ascend_from least [] = true
ascend_from least (None ∷ ns) = ascend_from least ns
ascend_from least (Some n ∷ ns) = nat_le least n && ascend_from (n + 1) ns

-- the locations ascend, where all are in their range
abbrev pub are_in_order : List (Option ℕ) → Bool
are_in_order ns = list_any is_none ns || ascend_from 0 ns

-- the locations of the origins, ascending
unfoldable pub origins_of : List Data → Result (List (Option ℕ)) EvidenceFault
origins_of ds = do
  origins ← each (number_of field.Origins 0 767) ds
  _ ← unless (Shape field.Origins) (are_in_order origins)
  Ok origins

-- an object with exactly so many keys
abbrev pub has_size : ℕ → Data → Bool
has_size n d = option_map_or (λ ms. members_len ms == n) (as_object d) false

-- an object of as many keys as a case has, with the first of them
unfoldable pub begins_as_case : Data → Bool
begins_as_case d = has_size 7 d && has (codes "external") d && has (codes "nodes") d && has (codes "origins") d

-- an object with exactly the keys of a case
unfoldable pub is_case : Data → Bool
is_case d = begins_as_case d && has (codes "prefixes") d && has (codes "starts") d && has (codes "statement") d && has (codes "steps") d

-- the nodes, origins and prefixes of a case
unfoldable pub places_of : Data → Result RawPlaces EvidenceFault
places_of d = do
  nodes ← list_of field.Nodes (codes "nodes") d
  nodes ← each node_of nodes
  origins ← list_of field.Origins (codes "origins") d
  origins ← origins_of origins
  prefixes ← list_of field.Prefixes (codes "prefixes") d
  prefixes ← each prefix_of prefixes
  Ok (record { nodes = nodes; origins = origins; prefixes = prefixes })

-- and its starts, statement and steps
unfoldable pub ways_of : Data → Result RawWays EvidenceFault
ways_of d = do
  starts ← list_of field.Starts (codes "starts") d
  starts ← each (number_of field.Starts 0 greatest) starts
  statement ← member_of field.Statement (codes "statement") d
  statement ← number_of field.Statement 1 greatest statement
  steps ← list_of field.Steps (codes "steps") d
  steps ← each step_of steps
  Ok (record { starts = starts; statement = statement; steps = steps })

unfoldable pub case_of : Data → Result RawCase EvidenceFault
case_of d = do
  _ ← unless (Shape field.Case) (is_case d)
  value ← member_of field.External (codes "external") d
  external ← or_fault (Shape field.External) (as_bool value)
  places ← places_of d
  ways ← ways_of d
  Ok (record {
    external = external;
    nodes = places.nodes;
    origins = places.origins;
    prefixes = places.prefixes;
    starts = ways.starts;
    statement = ways.statement;
    steps = ways.steps;
  })

-- an object with exactly the keys of evidence
unfoldable pub is_evidence : Data → Bool
is_evidence d = has_size 2 d && has (codes "cases") d && has (codes "version") d

-- its version
unfoldable pub version_of : Data → Result (Option ℕ) EvidenceFault
version_of d = do
  version ← member_of field.Version (codes "version") d
  number_of field.Version 0 greatest version

unfoldable pub shape_of : Data → Result RawEvidence EvidenceFault
shape_of d = do
  _ ← unless (Shape field.Top) (is_evidence d)
  cases ← list_of field.Cases (codes "cases") d
  cases ← each case_of cases
  version ← version_of d
  Ok (record { cases = cases; version = version })
