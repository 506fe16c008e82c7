use Rattle.std.proofs.Common.{◌∙◌, sym}
use Rattle.policy_parser.proofs.SoFarItems.{broken_so_far, kept_so_far}
use Rattle.policy_parser.proofs.verdicts.Verdicts.take.Goals as goal

pub returns-then-is_err-clause-so_far : goal.returns-then-is_err-clause-so_far
returns-then-is_err-clause-so_far c = λ net items x so_far is.
    broken_so_far c.args.text.now net items c.args.self.now x c.args.item c.take.new.self c.in_ok-take.ensures c.forget.new.self c.first_fault.result c.first_fault.ensures
    (sym c.is_err.ensures.value ∙ c.if-is_err.true) so_far is

pub returns-clause-so_far : goal.returns-clause-so_far
returns-clause-so_far c = λ net items x so_far is.
    kept_so_far c.args.text.now net items c.args.self.now x c.args.item c.take.new.self c.in_ok-take.ensures c.take-2.new.self c.take-2.result c.take-2.ensures so_far is
