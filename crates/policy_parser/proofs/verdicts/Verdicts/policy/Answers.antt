use Rattle.list_law.proofs.Exits.{passed_on}
use Rattle.policy_parser.proofs.SoFarItems.{fault_gives, policy_gives, policy_kept}
use Rattle.policy_parser.proofs.verdicts.Verdicts.policy.Goals as goal

pub returns-in_err-first_fault : goal.returns-in_err-first_fault
returns-in_err-first_fault c = λ bytes net items read so_far.
    rw (passed_on c.from_residual.result c.from_residual.ensures.1) (λ memory. fault_gives bytes net items c.args.self _ c.in_err-first_fault.ensures read so_far)

pub new-requires : goal.new-requires
new-requires c =
    rw (c.from_vec.ensures, c.from_vec-2.ensures) (policy_kept c.requires.0 c.requires.1 c.requires.2 c.args.self c.in_ok-first_fault.ensures c.requires.3)

pub returns : goal.returns
returns c = λ bytes net items read so_far.
    rw (c.new.ensures, c.from_vec.ensures, c.from_vec-2.ensures) (policy_gives bytes net items c.args.self c.in_ok-first_fault.ensures read so_far)
