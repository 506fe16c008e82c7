use Rattle.std.proofs.Common.{◌≡◌, ℕ, ◌+◌, ◌<◌, ◌≤◌, List, ◌++◌, ◌∷◌, [], ◌∙◌, ap, get_or, length, map, sym, take}
use Rattle.std.proofs.lemmas.List.{take_all}
use Rattle.list_law.proofs.Changed.{map_so_far}
use Rattle.evidence_text.specs.declared.raw.NodeEntry.{NodeEntry}
use Rattle.evidence_text.proofs.judge.columns_of.Goals as goal

-- a column with one more item, and the whole column
module _ {A : Type 0} (of : NodeEntry → A) (entries : List NodeEntry) (i : ℕ) where
  column_next : (entry : NodeEntry) (old new : List A) → i < length entries → entry ≡ get_or entries i entry → old ≡ map of (take i entries) → new ≡ old ++ of entry ∷ []
      → new ≡ map of (take (i + 1) entries)
  column_next entry old new within is so_far pushed = pushed ∙ ap (λ all. all ++ of entry ∷ []) so_far ∙ sym (map_so_far of entries i entry within is)

  column_whole : (column : List A) → length entries ≤ i → column ≡ map of (take i entries) → column ≡ map of entries
  column_whole column past so_far = so_far ∙ ap (map of) (take_all i entries past)

pub loop-entry-init : goal.loop-entry-init
loop-entry-init c = record { nodes = c.in_ok-nodes.ensures.items; numbers = c.in_ok-numbers.ensures.items; tags = c.in_ok-tags.ensures.items }

pub loop-entry-preserved : goal.loop-entry-preserved
loop-entry-preserved c =
    let entries = c.args.entries.now in
    let i = c.loop-entry.entry-index in
    let entry = c.entry-item.result in record {
      nodes = column_next (λ e. e.node) entries i entry _ _ c.loop-entry-test.true c.entry-item.is c.loop-entry.invariant.nodes c.in_ok-push.ensures.items;
      numbers = column_next (λ e. e.number) entries i entry _ _ c.loop-entry-test.true c.entry-item.is c.loop-entry.invariant.numbers c.in_ok-push-2.ensures.items;
      tags = column_next (λ e. e.tag) entries i entry _ _ c.loop-entry-test.true c.entry-item.is c.loop-entry.invariant.tags c.in_ok-push-3.ensures.items;
    }

pub returns-clause-nodes : goal.returns-clause-nodes
returns-clause-nodes c = rw c.from_vec.ensures (column_whole (λ e. e.node) c.args.entries.now c.loop-entry.entry-index _ c.loop-entry-test.false c.loop-entry.invariant.nodes)

pub returns-clause-numbers : goal.returns-clause-numbers
returns-clause-numbers c = rw c.from_vec-2.ensures (column_whole (λ e. e.number) c.args.entries.now c.loop-entry.entry-index _ c.loop-entry-test.false c.loop-entry.invariant.numbers)

pub returns-clause-tags : goal.returns-clause-tags
returns-clause-tags c = rw c.from_vec-3.ensures (column_whole (λ e. e.tag) c.args.entries.now c.loop-entry.entry-index _ c.loop-entry-test.false c.loop-entry.invariant.tags)
