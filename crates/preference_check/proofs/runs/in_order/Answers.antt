use Rattle.std.proofs.Common.{rules, sym, ap, ◌∙◌}
use Rattle.std.specs.List.{list_any}
use Rattle.std.proofs.lemmas.List.Sorted.{IsNonDecreasingBy-from_sort_by_key, list_any-IsPermutation}
use Rattle.preference_check.specs.declared.runs.Numbered.{Numbered}
use Rattle.preference_check.specs.Runs.{is_entry}
use Rattle.preference_check.proofs.runs.in_order.Goals as goal

pub returns-clause-nodes : goal.returns-clause-nodes
returns-clause-nodes c = λ n number.
    sym (list_any-IsPermutation (is_entry n number) c.into_vec-run.result.items c.sort_unstable_by_key.new.self.items
    c.sort_unstable_by_key.ensures.permutation) ∙ ap (list_any (is_entry n number)) c.into_vec-run.ensures

pub returns-clause-order : goal.returns-clause-order
returns-clause-order c = IsNonDecreasingBy-from_sort_by_key (λ (x : Numbered). x.number) _ c.sort_unstable_by_key.ensures.sorted (λ a r q k. search rules)
