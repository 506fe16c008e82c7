use Rattle.std.proofs.Common.{◌-◌, length, length-set, Some, None, ap, arith, ◌∙◌}
use Rattle.std.proofs.lemmas.List.{length-map}
use Rattle.list_law.proofs.Exits.{passed_on}
use Rattle.policy_base.specs.Policies.{plain_statement, policy_of}
use Rattle.case_core.specs.Refusals.{IsCause, IsGraphOf}
use Rattle.case_core.proofs.KeptPlaces.{set_fits, taken_fits}
use Rattle.case_core.proofs.LentAutomata.{kept_fits, number_fits}
use Rattle.case_core.proofs.Places.{of_case}
use Rattle.case_core.proofs.cases.graph_within_limits.Goals as goal

pub take-own-requires-clause-within : goal.take-own-requires-clause-within
take-own-requires-clause-within c = omega (arith, c.case_of.ensures.within, c.requires.kept.size, length-map c.args.policy.now.statements plain_statement)

pub trimmed_of-requires : goal.trimmed_of-requires
trimmed_of-requires c =
    let net = c.args.net.now in
    let policy = policy_of c.args.policy.now in
    let number = c.case_of.result.0.now.statement in
    let own = taken_fits net policy c.args.kept.now (number - 1) c.take-own.result c.requires.kept c.take-own.ensures.taken in
    kept_fits net policy (plain_statement c.case_of.result.1.now) number c.take-own.result (c.case_of.ensures.case net c.requires.cases).statement own

pub keep-requires-clause-from_one : goal.keep-requires-clause-from_one
keep-requires-clause-from_one c = omega (arith, c.case_of.ensures.from_one, c.in_ok-given.ensures.statement)

pub keep-requires-clause-within : goal.keep-requires-clause-within
keep-requires-clause-within c =
    let taken = ap length c.take-own.ensures.gone ∙ length-set c.args.kept.now.of.items (c.case_of.result.0.now.statement - 1) None in
    omega (arith, c.case_of.ensures.within, c.in_ok-given.ensures.statement, taken, c.requires.kept.size, length-map c.args.policy.now.statements plain_statement)

pub returns-in_err-given-clause-kept : goal.returns-in_err-given-clause-kept
returns-in_err-given-clause-kept c =
    set_fits c.args.net.now (policy_of c.args.policy.now) c.args.kept.now c.take-own.new.self (c.case_of.result.0.now.statement - 1) None c.requires.kept c.take-own.ensures.gone tt

pub returns-in_err-given-clause-refused : goal.returns-in_err-given-clause-refused
returns-in_err-given-clause-refused c =
    let net = c.args.net.now in
    rw (passed_on c.from_residual.result c.from_residual.ensures.1)
    (of_case (c.case_of.ensures.case net c.requires.cases) (λ t d. IsCause net c.args.number c.args.room t d c.in_err-given.field-0.0) c.in_err-given.ensures.refused)

pub returns-clause-graph : goal.returns-clause-graph
returns-clause-graph c =
    let net = c.args.net.now in
    of_case (c.case_of.ensures.case net c.requires.cases) (λ t d. IsGraphOf net c.args.room t d c.in_ok-given.given) c.in_ok-given.ensures.graph

pub returns-clause-kept : goal.returns-clause-kept
returns-clause-kept c =
    let net = c.args.net.now in
    let policy = policy_of c.args.policy.now in
    let is = c.case_of.ensures.case net c.requires.cases in
    let number = c.case_of.result.0.now.statement in
    let next = c.in_ok-given.next in
    let gone = set_fits net policy c.args.kept.now c.take-own.new.self (number - 1) None c.requires.kept c.take-own.ensures.gone tt in
    let fits = number_fits net policy (plain_statement c.case_of.result.1.now) number next is.statement c.in_ok-given.ensures.automata c.in_ok-given.ensures.statement in
    set_fits net policy c.take-own.new.self c.keep.new.self (next.statement - 1) (Some next) gone c.keep.ensures fits
