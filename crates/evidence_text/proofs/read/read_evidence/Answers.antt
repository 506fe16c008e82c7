use Rattle.std.proofs.Common.{◌≡◌, Ok}
use Rattle.std.specs.List.{AllByRecursion}
use Rattle.serde_json.specs.Data.{Data}
use Rattle.serde_json.specs.View.{view}
use Rattle.evidence_text.specs.declared.raw.RawEvidence.{RawEvidence}
use Rattle.evidence_text.specs.Ranges.{HasRanges}
use Rattle.evidence_text.specs.Shape.{shape_of}
use Rattle.evidence_text.proofs.InRange.{shape_in, of_ok}
use Rattle.evidence_text.proofs.read.read_evidence.Goals as goal

has_ranges : (d : Data) (raw : RawEvidence) → shape_of d ≡ Ok raw → AllByRecursion HasRanges raw.cases
has_ranges d raw is = of_ok (λ (t : RawEvidence). AllByRecursion HasRanges t.cases) (shape_of d) raw (shape_in d) is

pub judge-requires : goal.judge-requires
judge-requires c = let said = c.in-Some.ensures in has_ranges said.0 c.in-Some.raw said.2

pub judge-requires-2 : goal.judge-requires-2
judge-requires-2 c = has_ranges (view c.in_ok-value.value) c.in_ok-raw.raw c.in_ok-raw.ensures
