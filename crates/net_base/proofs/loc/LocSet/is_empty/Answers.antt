use Rattle.std.proofs.Common.{sym, ◌∙◌}
use Rattle.net_base.proofs.SetLaws.{holds-zeros}
use Rattle.net_base.proofs.loc.LocSet.is_empty.Goals as goal

pub returns-clause-holds : goal.returns-clause-holds
returns-clause-holds c = λ none l. holds-zeros c.args.self.now l (sym c.is_zero.ensures ∙ none)
