use Rattle.std.proofs.Common.{Ok, subst}
use Rattle.std.specs.Prelude.{⊤}
use Rattle.list_law.proofs.Exits.{passed_on}
use Rattle.net_base.specs.Gives.{GivesUnless}
use Rattle.policy_tokens.specs.declared.fault.PolicyFault.TheVariants.{NoMemory}
use Rattle.policy_values.specs.CallValues.{CallValue}
use Rattle.policy_values.specs.Parts.{call_onto, parts_value}
use Rattle.policy_values.proofs.CallLaws.{taken_err, taken_ok}
use Rattle.policy_values.proofs.reader.Reader.path_call.Goals as goal

pub returns-in_err-path_places-clause-read : goal.returns-in_err-path_places-clause-read
returns-in_err-path_places-clause-read c =
    rw (passed_on c.from_residual.result c.from_residual.ensures.1) (λ memory. taken_err (parts_value c.args.parts.now) _ _ (c.in_err-path_places.ensures.read memory))

pub returns-clause-read : goal.returns-clause-read
returns-clause-read c =
    taken_ok (parts_value c.args.parts.now) (parts_value c.take_call.new.self) c.take_call.result _ _ _ c.in_ok-path_places.ensures.read
    (subst (λ (call : CallValue). GivesUnless NoMemory (λ (_ : ⊤). parts_value c.take_call.new.self) c.take_call.result (Ok (call_onto call (parts_value c.args.parts.now)))) c.read.ensures
    c.take_call.ensures)
