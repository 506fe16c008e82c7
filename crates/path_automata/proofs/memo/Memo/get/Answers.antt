use Rattle.std.proofs.Common.{◌≡◌, Some, sym, ap, ◌∙◌}
use Rattle.std.specs.Prelude.{slice_get}
use Rattle.std.proofs.lemmas.Bool.{ltb-true}
use Rattle.std.proofs.lemmas.Option.{slice_get-get_or}
use Rattle.path_automata.proofs.memo.Memo.get.Goals as goal

pub returns-then-next-lt-UNKNOWN : goal.returns-then-next-lt-UNKNOWN
returns-then-next-lt-UNKNOWN c =
    let place = c.in_ok-place.place in
    let look = c.in_ok-next.ensures.lookup in
    let read : slice_get c.args.self.now.next.items place ≡ Some c.in_ok-next.field-0.now =
    ap (λ l. slice_get l place) (sym c.deref.ensures.value) ∙ slice_get-get_or c.deref.result.now place _ (ltb-true _ _ (sym look.0)) ∙ ap Some (sym look.1) in
    (place, c.in_ok-place.ensures, read, c.if-next-lt-UNKNOWN.true)
