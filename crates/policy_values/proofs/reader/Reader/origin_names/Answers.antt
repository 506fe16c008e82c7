use Rattle.list_law.proofs.Exits.{passed_on}
use Rattle.policy_rules.specs.KnownView.{plain_names}
use Rattle.policy_values.specs.OriginNames.{origin_names, with_origin}
use Rattle.policy_values.proofs.JoinedSets.{origin_names_push}
use Rattle.policy_values.proofs.ReadsOver.{over_names}
use Rattle.policy_values.proofs.reader.Reader.origin_names.Goals as goal

pub returns-in_err-more_origins-clause-read : goal.returns-in_err-more_origins-clause-read
returns-in_err-more_origins-clause-read c =
    let bytes = c.args.self.now.text.now in
    let net = c.args.self.now.whole.now.net.now in
    let known = plain_names c.args.self.now.known.now in
    rw (passed_on c.from_residual-in_err-more_origins.result c.from_residual-in_err-more_origins.ensures.1)
    (λ memory. over_names (origin_names bytes net known) (with_origin bytes net known)
    (origin_names_push bytes known net) _ c.in_ok-name.name _ c.first_origin-found.result _ c.in_ok-name.ensures.read c.first_origin-found.ensures
    (c.in_err-more_origins.ensures.read memory))

pub returns-clause-read : goal.returns-clause-read
returns-clause-read c =
    let bytes = c.args.self.now.text.now in
    let net = c.args.self.now.whole.now.net.now in
    let known = plain_names c.args.self.now.known.now in
    over_names (origin_names bytes net known) (with_origin bytes net known)
    (origin_names_push bytes known net) _ c.in_ok-name.name _ c.first_origin-found.result _ c.in_ok-name.ensures.read c.first_origin-found.ensures c.in_ok-more_origins.ensures.read
