use Rattle.std.proofs.Common.{◌≡◌, ◌+◌, ◌-◌, ◌∙◌, ◌++◌, List, ap, sym, length, length-append, arith}
use Rattle.std.specs.Prelude.{count_by}
use Rattle.map_maker.specs.Earlier.{entries_in, entries_from}
use Rattle.map_maker.specs.declared.earlier.Entry.{Entry}
use Rattle.net_base.specs.Prefixes.{PlainPattern}
use Rattle.map_maker.proofs.EarlierLaws.{count_by-append}
use Rattle.map_maker.proofs.ListsLaws.{entries_from-append}
use Rattle.map_maker.proofs.lists.with_class.Goals as goal

pub returns-clause-index : goal.returns-clause-index
returns-clause-index c = record {
  entries = λ p.
      let old = c.args.earlier.patterns in
      let class = c.args.class.now in
      let patterns : c.push_class.new.patterns ≡ old ++ class = c.in_ok-push_class.ensures in
      let long : length c.as_slice.result.now ≡ length old + length class = ap length (c.as_slice.ensures ∙ patterns) ∙ length-append old class in
      let first : length c.as_slice.result.now - length class ≡ length old + 0 = omega (arith, long) in
      let entries : c.in_ok-entries.entries.items ≡ entries_from (length old + 0) class = c.in_ok-entries.ensures.entries ∙ ap (λ n. entries_from n class) first in
      c.in_ok-blocks.ensures.entries p
      ∙ count_by-append p (entries_in c.args.earlier.blocks) c.in_ok-entries.entries.items
      ∙ ap (λ n. n + count_by p c.in_ok-entries.entries.items) (c.requires.entries p)
      ∙ ap (λ (es : List Entry). count_by p (entries_from 0 old) + count_by p es) entries
      ∙ sym (count_by-append p (entries_from 0 old) (entries_from (length old + 0) class))
      ∙ ap (λ (es : List Entry). count_by p es) (sym (entries_from-append 0 old class))
      ∙ ap (λ (ps : List PlainPattern). count_by p (entries_from 0 ps)) (sym patterns);
  order = c.in_ok-blocks.ensures.order;
}
