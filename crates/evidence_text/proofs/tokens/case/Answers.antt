use Rattle.std.proofs.Common.{◌-◌, arith}
use Rattle.serde_json.specs.Data.{no_members, object}
use Rattle.evidence_text.specs.declared.parts.Field.TheVariants as field
use Rattle.evidence_text.proofs.TokenCases.{case_members, case_says}
use Rattle.evidence_text.proofs.TokenLaws.{boolean_at, object_first, put_all}
use Rattle.evidence_text.proofs.tokens.case.Goals as goal

pub returns : goal.returns
returns c = λ depth deep.
    let inside = depth - 1 in
    let nodes = c.in_ok-nodes.ensures inside (omega (arith, deep)) in
    let origins = c.in_ok-origins.ensures inside (omega (arith, deep)) in
    let prefixes = c.in_ok-prefixes.ensures inside (omega (arith, deep)) in
    let starts = c.in_ok-starts.ensures field.Starts inside (omega (arith, deep)) in
    let statement = c.in_ok-number.ensures.number field.Statement inside (omega (arith, deep)) in
    let steps = c.in_ok-steps.ensures inside (omega (arith, deep)) in (
      object (put_all (case_members c.in_ok-external.external nodes.0 origins.0 prefixes.0 starts.0 statement.0 steps.0) no_members),
      rw c.in_ok-begin_object.ensures
          (object_first depth _ (case_members c.in_ok-external.external nodes.0 origins.0 prefixes.0 starts.0 statement.0 steps.0) _ (omega (arith, deep)) (_, _, c.in_ok-key.ensures, boolean_at inside _ _ _ c.in_ok-external.ensures, (_, _, c.in_ok-key-2.ensures, nodes.1, (_, _, c.in_ok-key-3.ensures, origins.1, (_, _, c.in_ok-key-4.ensures, prefixes.1, (_, _, c.in_ok-key-5.ensures, starts.1, (_, _, c.in_ok-key-6.ensures, statement.1, (_, _, c.in_ok-key-7.ensures, steps.1, c.in_ok-end_object.ensures)))))))),
      case_says _ nodes.0 origins.0 prefixes.0 starts.0 statement.0 steps.0 nodes.2 origins.2 prefixes.2 starts.2 statement.2 steps.2,
    )
