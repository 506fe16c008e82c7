use Rattle.renewal_law.proofs.Premises.{renewals_replace_all, replacements_take_over}
use Rattle.renewal_law.proofs.renewals_replace_all.Goals as goal

pub returns-clause-all : goal.returns-clause-all
returns-clause-all c = renewals_replace_all

pub returns-clause-prefixes : goal.returns-clause-prefixes
returns-clause-prefixes c = replacements_take_over
