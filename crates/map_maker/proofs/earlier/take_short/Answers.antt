use Rattle.std.proofs.Common.{◌≡◌, ◌∙◌, ◌∷◌, ◌++◌, [], List, ap, subst, rules}
use Rattle.std.specs.Prelude.{count_by}
use Rattle.std.specs.List.{AllByRecursion}
use Rattle.list_law.proofs.Each.{AllByRecursion-append_parts}
use Rattle.map_maker.specs.Earlier.{IsInOrder, HaveEntries, entries_in}
use Rattle.map_maker.specs.declared.earlier.Entry.{Entry}
use Rattle.map_maker.proofs.EarlierLaws.{taken_off}
use Rattle.map_maker.proofs.earlier.take_short.Goals as goal

pub loop-block-preserved : goal.loop-block-preserved
loop-block-preserved c =
    let items : c.loop-block.blocks.items ≡ c.pop.new.self.items ++ c.in-Some.block ∷ [] = search rules in
    let more : c.extend_from_slice.new.self.items ≡ c.loop-block.entries.items ++ c.in-Some.block = search rules in
    let whole : List Entry = entries_in c.args.blocks.now.items ++ c.args.entries.now.items in
    let before = subst (λ (bs : List (List Entry)). HaveEntries (entries_in bs ++ c.loop-block.entries.items) whole) items c.loop-block.invariant.entries in
    record {
      order =
          (AllByRecursion-append_parts IsInOrder c.pop.new.self.items (c.in-Some.block ∷ [])
          (subst (λ (bs : List (List Entry)). AllByRecursion IsInOrder bs) items c.loop-block.invariant.order)).0;
      entries = λ p. ap (λ (es : List Entry). count_by p (entries_in c.pop.new.self.items ++ es)) more ∙ taken_off c.pop.new.self.items c.in-Some.block c.loop-block.entries.items whole before p;
    }
