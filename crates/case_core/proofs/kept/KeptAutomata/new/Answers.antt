use Rattle.std.proofs.Common.{length, ap, ◌∙◌, sym}
use Rattle.std.proofs.lemmas.List.{length-map}
use Rattle.policy_base.specs.Policies.{plain_statement, policy_of}
use Rattle.case_core.proofs.KeptPlaces.{none_fit}
use Rattle.case_core.proofs.kept.KeptAutomata.new.Goals as goal

pub returns : goal.returns
returns c = λ net.
    let lists = c.args.policy.now in
    let size = ap length c.statements.ensures.statements ∙ sym (length-map lists.statements plain_statement) in
    none_fit net (policy_of lists) (record { of = c.in_ok-of.of }) (length c.statements.result.now) size c.in_ok-of.ensures
