use Rattle.std.proofs.Common.{◌∙◌, ap, rules}
use Rattle.std.proofs.lemmas.List.Sorted.{IsNonDecreasingBy-from_sort_by_key}
use Rattle.net_base.specs.Numbers.{no_tag}
use Rattle.class_lines.specs.declared.class_line.ClassLine.{ClassLine}
use Rattle.class_lines.specs.declared.class_line.Says.TheVariants.{Sends}
use Rattle.class_lines.specs.ClassLines.{of_class}
use Rattle.class_lines.proofs.Sorting.{classes_stay}
use Rattle.class_lines.proofs.class_table.ClassTable.new.Goals as goal

pub invariant_of-result : goal.invariant_of-result
invariant_of-result c =
    record { order = IsNonDecreasingBy-from_sort_by_key (λ (l : ClassLine). l.class) c.sort_by_key.new.self.items (c.in_ok-sort_by_key.ensures.sorted) (λ a r q k. search rules) }

pub returns : goal.returns
returns c = λ n.
    classes_stay c.in_ok-lines.lines.items c.sort_by_key.new.self.items c.sort_by_key.ensures.stable (λ a r q k. search rules)
    (record { class = n; router = 0; neighbour = 0; says = Sends no_tag })
    ∙ ap (of_class n) c.in_ok-lines.ensures
