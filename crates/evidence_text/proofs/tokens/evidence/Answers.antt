use Rattle.std.proofs.Common.{◌-◌, arith}
use Rattle.serde_json.specs.Data.{no_members, object}
use Rattle.evidence_text.specs.declared.parts.Field.TheVariants as field
use Rattle.evidence_text.proofs.TokenCases.{text_members, text_says}
use Rattle.evidence_text.proofs.TokenLaws.{object_first, put_all}
use Rattle.evidence_text.proofs.tokens.evidence.Goals as goal

pub returns : goal.returns
returns c = λ depth deep.
    let inside = depth - 1 in
    let cases = c.in_ok-cases.ensures inside (omega (arith, deep)) in
    let version = c.in_ok-number.ensures.number field.Version inside (omega (arith, deep)) in (
      object (put_all (text_members cases.0 version.0) no_members),
      rw c.in_ok-begin_object.ensures
          (object_first depth _ (text_members cases.0 version.0) _ (omega (arith, deep)) (_, _, c.in_ok-key.ensures, cases.1, (_, _, c.in_ok-key-2.ensures, version.1, c.in_ok-end_object.ensures))),
      text_says _ cases.0 version.0 cases.2 version.2,
    )
