use Rattle.std.proofs.Common.{◌≡◌, map, take}
use Rattle.evidence_text.specs.declared.raw.NodeEntry.{NodeEntry}
use Rattle.evidence_text.proofs.judge.columns_of.Given as goal

abbrev pub invariant-loop-entry : goal.invariant-loop-entry
invariant-loop-entry l = record {
  nodes : l.nodes.items ≡ map (λ (e : NodeEntry). e.node) (take l.entry-index l.entries);
  numbers : l.numbers.items ≡ map (λ (e : NodeEntry). e.number) (take l.entry-index l.entries);
  tags : l.tags.items ≡ map (λ (e : NodeEntry). e.tag) (take l.entry-index l.entries);
}
