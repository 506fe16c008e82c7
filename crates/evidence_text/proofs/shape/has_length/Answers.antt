use Rattle.std.proofs.Common.{ap, sym}
use Rattle.std.specs.Prelude.{◌==◌}
use Rattle.std.proofs.lemmas.List.{length-map}
use Rattle.serde_json.specs.View.{view}
use Rattle.evidence_text.proofs.shape.has_length.Goals as goal

pub returns : goal.returns
returns c = ap (λ n. n == c.args.size) (sym (length-map c.args.items.now view))
