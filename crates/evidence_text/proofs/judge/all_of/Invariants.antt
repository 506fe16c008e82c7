use Rattle.std.proofs.Common.{◌≡◌, ◌+◌, map, drop}
use Rattle.net_base.specs.Steps.{each_from, or_fault}
use Rattle.evidence_text.specs.declared.fault.EvidenceFault.TheVariants.{Number}
use Rattle.json_values.proofs.ItemsRead.{with_front}
use Rattle.evidence_text.proofs.judge.all_of.Given as goal

abbrev pub invariant-loop-item : goal.invariant-loop-item
invariant-loop-item g l =
    with_front l.all.items (each_from (λ _. or_fault (Number l.field)) (l.item-index + 1) (map (λ x. x) (drop l.item-index l.items))) ≡ each_from (λ _. or_fault (Number l.field)) 1 l.list
