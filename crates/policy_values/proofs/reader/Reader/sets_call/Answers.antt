use Rattle.list_law.proofs.Exits.{passed_on}
use Rattle.policy_values.specs.Parts.{parts_value}
use Rattle.policy_values.proofs.CallLaws.{taken_err, taken_ok}
use Rattle.policy_values.proofs.reader.Reader.sets_call.Goals as goal

pub returns-in_err-above-clause-read : goal.returns-in_err-above-clause-read
returns-in_err-above-clause-read c =
    rw (passed_on c.from_residual.result c.from_residual.ensures.1) (λ memory. taken_err (parts_value c.args.parts.now) _ _ (c.in_err-above.ensures.read memory))

pub returns-clause-read : goal.returns-clause-read
returns-clause-read c =
    taken_ok (parts_value c.args.parts.now) (parts_value c.take_call.new.self) c.take_call.result _ _ _ c.in_ok-above.ensures.read
    (rw c.value.ensures at c.take_call.ensures)
