use Rattle.std.proofs.Common.{[], ◌∷◌, ◌-◌, refl, arith}
use Rattle.serde_json.specs.Data.{array}
use Rattle.serde_json.specs.View.{items_of}
use Rattle.evidence_text.specs.declared.parts.Field.TheVariants as field
use Rattle.evidence_text.specs.Entries.{entry}
use Rattle.evidence_text.specs.Shape.{node_of, number_at, row_of}
use Rattle.evidence_text.proofs.TokenLaws.{array_first, some_same}
use Rattle.evidence_text.proofs.tokens.node.Goals as goal

pub returns : goal.returns
unfolding entry node_of number_at row_of
returns c = rw c.entry.ensures (λ depth deep.
    let inside = depth - 1 in
    let location = c.in_ok-number.ensures.number field.Nodes inside (omega arith) in
    let listener = c.in_ok-number-2.ensures.number field.Nodes inside (omega arith) in
    let rank = c.in_ok-number-3.ensures.number field.Nodes inside (omega arith) in
    let number = c.in_ok-number-4.ensures.number field.Nodes inside (omega arith) in
    let asn = c.in_ok-number-5.ensures.number field.Nodes inside (omega arith) in
    let value = c.in_ok-number-6.ensures.number field.Nodes inside (omega arith) in
    let row = location.0 ∷ listener.0 ∷ rank.0 ∷ number.0 ∷ asn.0 ∷ value.0 ∷ [] in (
      array (items_of row),
      rw c.in_ok-begin_array.ensures
          (array_first depth _ row _ (omega (arith, deep)) (_, location.1, (_, listener.1, (_, rank.1, (_, number.1, (_, asn.1, (_, value.1, c.in_ok-end_array.ensures))))))),
      rw (location.2, listener.2, rank.2, number.2, asn.2, value.2) refl,
    ))

pub entry-requires : goal.entry-requires
entry-requires c = λ l is. rw (← some_same _ l is) c.in_ok-number.ensures.range
