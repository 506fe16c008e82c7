use Rattle.std.proofs.Common.{◌≡◌, ◌++◌, ◌∷◌, [], Bool, List, take, filter, get_or, sym, ap, ◌∙◌, append-nil}
use Rattle.std.specs.List.{list_any}
use Rattle.std.proofs.lemmas.List.Elements.{filter_more}
use Rattle.net_base.specs.Prefixes.{PlainPrefix}
use Rattle.comparison.specs.declared.values.ComparedPair.{ComparedPair}
use Rattle.compare_report.specs.Groups.{is_among, seen}
use Rattle.compare_report.proofs.groups.prefixes_of.Goals as goal
use Rattle.compare_report.proofs.groups.prefixes_of.Goals.{then-has_prefix+in_ok-push, else-has_prefix}

pub loop-prefix-preserved : goal.loop-prefix-preserved
loop-prefix-preserved c =
    let P : PlainPrefix → Bool = λ p. list_any (λ (x : ComparedPair). is_among p x.pair.prefixes) (seen c.args.group.now) in
    let x = c.prefix-item.result in
    let more = filter_more P c.args.order.now c.loop-prefix.prefix-index x c.loop-prefix-test.true in
    let told : P (get_or c.args.order.now c.loop-prefix.prefix-index x) ≡ c.has_prefix.result = ap P (sym c.prefix-item.is) ∙ sym c.has_prefix.ensures in
    elim c.if-has_prefix.branch [
      | then-has_prefix+in_ok-push w ↦ rw w.list-is (rw w.in_ok-push.ensures.items (rw more (rw told (rw w.if-has_prefix.true (rw (sym c.prefix-item.is) (ap (λ (l : List PlainPrefix). l ++ x ∷ []) c.loop-prefix.invariant))))))
      | else-has_prefix w ↦ rw w.list-is (rw more (rw told (rw w.if-has_prefix.false (c.loop-prefix.invariant ∙ sym (append-nil (filter P (take c.loop-prefix.prefix-index c.args.order.now)))))))
    ]
