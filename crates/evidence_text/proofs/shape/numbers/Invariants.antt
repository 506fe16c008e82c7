use Rattle.std.proofs.Common.{◌≡◌, ◌+◌, map, drop}
use Rattle.serde_json.specs.View.{view}
use Rattle.net_base.specs.Steps.{each_from}
use Rattle.evidence_text.specs.Shape.{number_of}
use Rattle.json_values.proofs.ItemsRead.{with_front}
use Rattle.evidence_text.proofs.shape.numbers.Given as goal

abbrev pub invariant-loop-value : goal.invariant-loop-value
invariant-loop-value l = with_front l.all.items (each_from (λ _. number_of l.field 0 l.most) (l.value-index + 1) (map view (drop l.value-index l.values)))
    ≡ each_from (λ _. number_of l.field 0 l.most) 1 (map view l.values)
