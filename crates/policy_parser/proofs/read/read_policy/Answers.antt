use Rattle.list_law.proofs.Exits.{passed_on}
use Rattle.policy_base.specs.Policies.{policy_of}
use Rattle.policy_parser.proofs.TakenTexts.{unread}
use Rattle.policy_parser.proofs.ToldFaults.{spelled-IsAtMostDeep}
use Rattle.policy_parser.proofs.read.read_policy.Goals as goal

pub returns-in_err-verdicts-clause-read : goal.returns-in_err-verdicts-clause-read
returns-in_err-verdicts-clause-read c =
    rw (passed_on c.from_residual.result c.from_residual.ensures.1) (λ memory. unread c.args.bytes.now c.args.net.now _ (c.in_err-verdicts.ensures memory))

pub returns-clause-read : goal.returns-clause-read
returns-clause-read c =
    let read = c.in_ok-verdicts.ensures in
    c.policy.ensures c.args.bytes.now c.args.net.now read.0 read.1 read.2

pub returns-clause-depth : goal.returns-clause-depth
returns-clause-depth c =
    let read = c.in_ok-verdicts.ensures in
    spelled-IsAtMostDeep policy_of c.args.bytes.now c.args.net.now c.policy.result (c.policy.ensures c.args.bytes.now c.args.net.now read.0 read.1 read.2)
