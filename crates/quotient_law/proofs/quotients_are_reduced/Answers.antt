use Rattle.std.proofs.Common.{subst, sym}
use Rattle.node_quotient.specs.Quotient.{AreAllToldApart, IsReduced}
use Rattle.quotient_law.proofs.Reduced.{quotient_is_reduced, quotient_told_apart}
use Rattle.quotient_law.proofs.quotients_are_reduced.Goals as goal

pub returns-clause-reduced : goal.returns-clause-reduced
returns-clause-reduced c = λ net origin external g q ok formed is. subst IsReduced (sym is.2) (quotient_is_reduced net origin external is.0 g ok formed is.1)

pub returns-clause-apart : goal.returns-clause-apart
returns-clause-apart c = λ net origin external g q ok formed is. subst AreAllToldApart (sym is.2) (quotient_told_apart net origin external is.0 g ok formed is.1)
