use Rattle.std.proofs.Common.{◌≡◌, ℕ, ◌+◌, ◌*◌, Some, None, Option, sym, ap, ◌∙◌}
use Rattle.std.specs.Prelude.{IfSome, SomeIff, slice_get}
use Rattle.path_automata.specs.declared.memo.Memo.{Memo}
use Rattle.path_automata.specs.Memo.{IsPlace}
use Rattle.path_automata.proofs.memo.Memo.place.Goals as goal

placed : (m : Memo) (state at class row : ℕ) (r : Option ℕ) (P : Type 0) → slice_get m.classes.items at ≡ Some class → row ≡ state * m.count → SomeIff r P (row + class)
    → IfSome r (λ place. IsPlace m state at place)
placed m state at class row None P is q h = tt
placed m state at class row (Some place) P is q h = (class, is, h.1 ∙ ap (λ n. n + class) q)

pub returns : goal.returns
returns c =
    placed c.args.self.now c.args.state c.args.at c.in_ok-class.class c.in_ok-row.row c.checked_add.result _
    (ap (λ l. slice_get l c.args.at) (sym c.deref.ensures.value) ∙ sym c.in_ok-class.ensures) c.in_ok-row.ensures.1 c.checked_add.ensures
