use Rattle.std.proofs.Common.{List, sym, ap, ◌∙◌, arith}
use Rattle.std.specs.List.{position_or_len}
use Rattle.promises_report.specs.Groups.{fits}
use Rattle.promises_report.specs.declared.group.Group.{Group}
use Rattle.promises_report.proofs.Joining.{joined_as, joined_new}
use Rattle.promises_report.proofs.group.join.Goals as goal

pub returns-in_ok-merge : goal.returns-in_ok-merge
returns-in_ok-merge c =
    let x = c.args.group in
    let first = c.place_for-place.ensures ∙ ap (λ (gs : List Group). position_or_len (λ g. fits g x) gs) c.deref.ensures.value in
    joined_as x c.args.groups.now.items c.place_for-place.result c.index_mut.result.now c.merge.new.self first (omega arith) c.index_mut.ensures.value c.in_ok-merge.ensures

pub returns-in_ok-push : goal.returns-in_ok-push
returns-in_ok-push c =
    let x = c.args.group in
    let first = c.place_for-place.ensures ∙ ap (λ (gs : List Group). position_or_len (λ g. fits g x) gs) c.deref.ensures.value in
    c.in_ok-push.ensures.items ∙ sym (joined_new x c.args.groups.now.items c.place_for-place.result first (omega arith))
