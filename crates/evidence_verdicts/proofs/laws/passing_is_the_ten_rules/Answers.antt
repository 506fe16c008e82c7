use Rattle.evidence_verdicts.proofs.TenRules.{passing}
use Rattle.evidence_verdicts.proofs.laws.passing_is_the_ten_rules.Goals as goal

pub returns : goal.returns
returns c = passing
