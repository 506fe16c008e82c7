use Rattle.std.proofs.Common.{[], ◌∷◌, ◌-◌, refl, arith}
use Rattle.serde_json.specs.Data.{array}
use Rattle.serde_json.specs.View.{items_of}
use Rattle.evidence_text.specs.declared.parts.Field.TheVariants as field
use Rattle.evidence_text.specs.Entries.{pair}
use Rattle.evidence_text.specs.Shape.{number_at, row_of, step_of}
use Rattle.evidence_text.proofs.TokenLaws.{array_first}
use Rattle.evidence_text.proofs.tokens.step.Goals as goal

pub returns : goal.returns
unfolding number_at pair row_of step_of
returns c = rw c.pair.ensures (λ depth deep.
    let inside = depth - 1 in
    let from = c.in_ok-from.ensures.number field.Steps inside (omega arith) in
    let to = c.in_ok-to.ensures.number field.Steps inside (omega arith) in
    let numbers = from.0 ∷ to.0 ∷ [] in (
      array (items_of numbers),
      rw c.in_ok-begin_array.ensures (array_first depth _ numbers _ (omega (arith, deep)) (_, from.1, (_, to.1, c.in_ok-end_array.ensures))),
      rw (from.2, to.2) refl,
    ))
