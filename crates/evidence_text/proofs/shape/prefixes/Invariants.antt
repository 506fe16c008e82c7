use Rattle.std.proofs.Common.{◌≡◌, ◌+◌, map, drop}
use Rattle.serde_json.specs.View.{view}
use Rattle.net_base.specs.Steps.{each_from}
use Rattle.evidence_text.specs.Shape.{prefix_of}
use Rattle.json_values.proofs.ItemsRead.{with_front}
use Rattle.evidence_text.proofs.shape.prefixes.Given as goal

abbrev pub invariant-loop-value : goal.invariant-loop-value
invariant-loop-value l = with_front l.all.items (each_from (λ _. prefix_of) (l.value-index + 1) (map view (drop l.value-index l.values))) ≡ each_from (λ _. prefix_of) 1 (map view l.values)
