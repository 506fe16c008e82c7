use Rattle.policy_parser.proofs.SoFarItems.{none_so_far}
use Rattle.policy_parser.proofs.verdicts.Verdicts.of.Goals as goal

pub returns-clause-so_far : goal.returns-clause-so_far
returns-clause-so_far c =
    λ bytes. none_so_far bytes c.args.net.now c.in_ok-told.ensures.rules c.in_ok-told.ensures.few
    (record { told = c.in_ok-told.told; kept = c.new.result }) c.in_ok-told.ensures.told c.new.ensures
