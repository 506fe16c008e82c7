use Rattle.std.proofs.Common.{◌∙◌, ap, sym, subst, rules}
use Rattle.std.specs.Prelude.{count_by}
use Rattle.std.proofs.lemmas.List.Sorted.{IsNonDecreasingBy-from_sort_by_key}
use Rattle.map_maker.specs.Earlier.{IsInOrder}
use Rattle.map_maker.specs.declared.earlier.Entry.{Entry}
use Rattle.map_maker.proofs.EarlierLaws.{HaveEntries-permutation}
use Rattle.map_maker.proofs.earlier.block_of.Goals as goal

pub returns-clause-order : goal.returns-clause-order
returns-clause-order c =
    subst IsInOrder (sym c.from_vec.ensures)
    (IsNonDecreasingBy-from_sort_by_key (λ (e : Entry). e.key) c.sort_unstable_by_key.new.self.items c.sort_unstable_by_key.ensures.sorted (λ a r q k. search rules))

pub returns-clause-entries : goal.returns-clause-entries
returns-clause-entries c = λ p. ap (count_by p) c.from_vec.ensures ∙ HaveEntries-permutation c.args.entries.items c.sort_unstable_by_key.new.self.items c.sort_unstable_by_key.ensures.permutation p
