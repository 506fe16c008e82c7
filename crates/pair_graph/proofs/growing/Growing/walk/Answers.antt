use Rattle.std.proofs.Common.{◌≡◌, ◌∙◌, ◌≤◌, rules, sym, length, None, inl, inr}
use Rattle.std.specs.Prelude.{slice_get}
use Rattle.std.proofs.lemmas.Bool.{cases_lt}
use Rattle.list_law.proofs.Items.{slice_get_inside}
use Rattle.pair_graph.proofs.growing.Growing.walk.Goals as goal

pub loop-number-preserved : goal.loop-number-preserved
loop-number-preserved c =
    let was = c.loop-number.invariant in
    let told = c.in_ok-ask_all.ensures in
    record {
      grown = λ g h starts sides is. told.grown g h starts sides (was.grown g h starts sides is);
      few = told.few;
      size = told.size;
      room = told.room;
    }

pub returns-in_default-clause-grown : goal.returns-in_default-clause-grown
returns-in_default-clause-grown c = λ g h starts sides is.
    let pairs = c.loop-number.self.pairs.keys in
    let k = c.loop-number.number in
    let none : slice_get pairs k ≡ None = sym c.pair.ensures ∙ c.in_default.is in
    let past : length pairs ≤ k = elim (cases_lt k (length pairs)) [
      | inl less ↦ absurd (let item = slice_get_inside pairs k less in let some = item.1 in cc)
      | inr ge ↦ ge
    ] in
    (k, past, c.loop-number.invariant.grown g h starts sides is)

pub returns-in_err-ask_all-clause-many : goal.returns-in_err-ask_all-clause-many
returns-in_err-ask_all-clause-many c = λ g h starts sides is fault.
    let told = c.ask_all.ensures.many g h starts sides (c.loop-number.invariant.grown g h starts sides is) in
    search rules
