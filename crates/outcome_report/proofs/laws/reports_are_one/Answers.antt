use Rattle.outcome_report.proofs.Texts.{one_report}
use Rattle.outcome_report.proofs.laws.reports_are_one.Goals as goal

pub returns : goal.returns
returns c = λ net policy config p shown a b x y. one_report net policy p shown config a b x y
