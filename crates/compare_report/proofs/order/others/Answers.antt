use Rattle.std.proofs.Common.{◌≡◌, ◌++◌, ◌∷◌, [], Bool, not, List, take, filter, get_or, sym, ap, ◌∙◌, append-nil}
use Rattle.std.specs.List.{list_any}
use Rattle.std.proofs.lemmas.List.Elements.{filter_more}
use Rattle.net_base.specs.Prefixes.{PlainPrefix, same_prefix}
use Rattle.compare_report.proofs.order.others.Goals as goal
use Rattle.compare_report.proofs.order.others.Goals.{then-not-is_there+in_ok-push, else-not-is_there}

pub loop-prefix-preserved : goal.loop-prefix-preserved
loop-prefix-preserved c =
    let P : PlainPrefix → Bool = λ p. not (list_any (λ q. same_prefix q p) c.args.before.now) in
    let x = c.prefix-item.result in
    let more = filter_more P c.args.prefixes.now c.loop-prefix.prefix-index x c.loop-prefix-test.true in
    let told : P (get_or c.args.prefixes.now c.loop-prefix.prefix-index x) ≡ not c.is_there.result = ap P (sym c.prefix-item.is) ∙ ap not (sym c.is_there.ensures) in
    elim c.if-not-is_there.branch [
      | then-not-is_there+in_ok-push w ↦ rw w.list-is (rw w.in_ok-push.ensures.items (rw more (rw told (rw w.if-not-is_there.true (rw (sym c.prefix-item.is) (ap (λ (l : List PlainPrefix). l ++ x ∷ []) c.loop-prefix.invariant))))))
      | else-not-is_there w ↦ rw w.list-is (rw more (rw told (rw w.if-not-is_there.false (c.loop-prefix.invariant ∙ sym (append-nil (filter P (take c.loop-prefix.prefix-index c.args.prefixes.now)))))))
    ]
