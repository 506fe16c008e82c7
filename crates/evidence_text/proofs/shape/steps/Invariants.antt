use Rattle.std.proofs.Common.{◌≡◌, ◌+◌, map, drop}
use Rattle.serde_json.specs.View.{view}
use Rattle.net_base.specs.Steps.{each_from}
use Rattle.evidence_text.specs.Shape.{step_of}
use Rattle.json_values.proofs.ItemsRead.{with_front}
use Rattle.evidence_text.proofs.shape.steps.Given as goal

abbrev pub invariant-loop-value : goal.invariant-loop-value
invariant-loop-value l = with_front l.all.items (each_from (λ _. step_of) (l.value-index + 1) (map view (drop l.value-index l.values))) ≡ each_from (λ _. step_of) 1 (map view l.values)
