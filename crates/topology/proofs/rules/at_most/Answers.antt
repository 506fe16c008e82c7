use Rattle.std.proofs.Common.{refl}
use Rattle.std.proofs.lemmas.Bool.{le-leb, lt-leb}
use Rattle.topology.proofs.rules.at_most.Goals as goal

pub returns-then-number-most-clause-rule : goal.returns-then-number-most-clause-rule
returns-then-number-most-clause-rule c = λ _. rw (lt-leb c.args.number c.args.most c.if-number-most.true) refl

pub returns-clause-rule : goal.returns-clause-rule
returns-clause-rule c = rw (le-leb c.args.number c.args.most c.if-number-most.false) refl

pub returns-clause-few : goal.returns-clause-few
returns-clause-few c = c.if-number-most.false
