use Rattle.std.proofs.Common.{List, sym, subst, rules}
use Rattle.std.specs.List.Sorted.{IsNonDecreasingBy}
use Rattle.std.proofs.lemmas.List.Sorted.{IsNonDecreasingBy-from_sort_by_key}
use Rattle.map_maker.specs.declared.spans.Span.{Span}
use Rattle.map_maker.proofs.SpanSets.{from_sorted}
use Rattle.map_maker.proofs.spans.spans_apart.Goals as goal

pub joined-requires : goal.joined-requires
joined-requires c =
    subst (λ (xs : List Span). IsNonDecreasingBy (λ (s : Span). s.from) xs) (sym c.deref.ensures.value)
    (IsNonDecreasingBy-from_sort_by_key (λ (s : Span). s.from) c.sort_unstable_by_key.new.self.items c.sort_unstable_by_key.ensures.sorted (λ a r q k. search rules))

pub returns-clause-meets : goal.returns-clause-meets
returns-clause-meets c =
    from_sorted (λ v. v.items) c.args.class.now c.args.lengths.now c.in_ok-spans.spans.items c.sort_unstable_by_key.new.self.items c.deref.result.now
    c.sort_unstable_by_key.ensures.permutation c.deref.ensures.value c.in_ok-spans.ensures c.joined.result c.joined.ensures.same
