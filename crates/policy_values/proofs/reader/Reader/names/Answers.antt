use Rattle.list_law.proofs.Exits.{passed_on}
use Rattle.policy_rules.specs.KnownView.{plain_names}
use Rattle.policy_rules.specs.Checks.{set_of_names}
use Rattle.policy_values.specs.NameSets.{with_named}
use Rattle.policy_values.proofs.JoinedSets.{set_of_names_push}
use Rattle.policy_values.proofs.ReadsOver.{over_names}
use Rattle.policy_values.proofs.reader.Reader.names.Goals as goal

pub returns-in_err-more_names-clause-read : goal.returns-in_err-more_names-clause-read
returns-in_err-more_names-clause-read c =
    let bytes = c.args.self.now.text.now in
    let known = plain_names c.args.self.now.known.now in
    rw (passed_on c.from_residual-in_err-more_names.result c.from_residual-in_err-more_names.ensures.1)
    (λ memory. over_names (set_of_names bytes known) (with_named bytes known)
    (set_of_names_push bytes known) _ c.in_ok-name.name _ c.alone-joined.result _ c.in_ok-name.ensures.read c.alone-joined.ensures
    (c.in_err-more_names.ensures.read memory))

pub returns-clause-read : goal.returns-clause-read
returns-clause-read c =
    let bytes = c.args.self.now.text.now in
    let known = plain_names c.args.self.now.known.now in
    over_names (set_of_names bytes known) (with_named bytes known)
    (set_of_names_push bytes known) _ c.in_ok-name.name _ c.alone-joined.result _ c.in_ok-name.ensures.read c.alone-joined.ensures c.in_ok-more_names.ensures.read
