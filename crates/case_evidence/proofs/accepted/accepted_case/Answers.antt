use Rattle.std.proofs.Common.{[], length, ap, arith}
use Rattle.list_law.proofs.Exits.{passed_on}
use Rattle.net_base.specs.Sets.{holds}
use Rattle.policy_base.specs.Policies.{policy_of}
use Rattle.graph_base.proofs.WellFormed.{one_step}
use Rattle.case_evidence.proofs.Joined.{given_told_apart, quotient_fits}
use Rattle.case_evidence.proofs.OfCases.{case_there, used_within}
use Rattle.case_evidence.proofs.accepted.accepted_case.Goals as goal

pub quotient-requires : goal.quotient-requires
quotient-requires c =
    let net = c.args.net.now in
    let there = case_there net (policy_of c.args.policy.now) c.args.number c.requires.from_one (omega (arith, c.requires.within, ap length c.requires.cases)) in
    let fits = c.in_ok-given.ensures.fits there.0 there.1 there.2 [] [] in
    one_step net (holds there.1.origins) there.1.external c.in_ok-given.given.graph fits.faithful.formed

pub numbered-requires : goal.numbered-requires
numbered-requires c =
    let net = c.args.net.now in
    let there = case_there net (policy_of c.args.policy.now) c.args.number c.requires.from_one (omega (arith, c.requires.within, ap length c.requires.cases)) in
    let fits = quotient_fits net there.0 there.1 c.in_ok-given.given.graph c.in_ok-graph.graph (c.in_ok-given.ensures.fits there.0 there.1 there.2) c.in_ok-graph.ensures [] [] in
    one_step net (holds there.1.origins) there.1.external c.in_ok-graph.graph fits.faithful.formed

pub returns-in_err-accepted-clause-refused : goal.returns-in_err-accepted-clause-refused
returns-in_err-accepted-clause-refused c =
    let is = c.in_ok-given.ensures in
    rw (passed_on c.from_residual-in_err-accepted.result c.from_residual-in_err-accepted.ensures.1) (λ s case at. c.in_err-accepted.ensures.refused c.args.room s case (record {
      trimmed = c.in_ok-given.given.graph;
      graph = is.graph s case at;
      fits = is.fits s case at;
      quotient = c.in_ok-graph.ensures;
      paths = is.paths s case at;
      unmixed = is.unmixed s case at;
    }))

pub returns-clause-accepted : goal.returns-clause-accepted
returns-clause-accepted c = λ s case at.
    let is = c.in_ok-given.ensures in
    c.in_ok-accepted.ensures.accepted c.args.room s case (record {
      trimmed = c.in_ok-given.given.graph;
      graph = is.graph s case at;
      fits = is.fits s case at;
      quotient = c.in_ok-graph.ensures;
      paths = is.paths s case at;
      unmixed = is.unmixed s case at;
    })

pub returns-clause-apart : goal.returns-clause-apart
returns-clause-apart c =
    let net = c.args.net.now in
    let there = case_there net (policy_of c.args.policy.now) c.args.number c.requires.from_one (omega (arith, c.requires.within, ap length c.requires.cases)) in
    let is = returns-clause-accepted c there.0 there.1 there.2 in
    given_told_apart net c.args.room there.0 there.1 c.in_ok-accepted.accepted.graph c.in_ok-accepted.accepted.used is.graph

pub returns-clause-room : goal.returns-clause-room
returns-clause-room c =
    let within = used_within c.args.net.now (policy_of c.args.policy.now) c.args.number c.args.room c.in_ok-given.given c.requires.from_one
    (omega (arith, c.requires.within, ap length c.requires.cases)) c.in_ok-given.ensures.graph in
    omega (arith, c.in_ok-accepted.ensures.used, within)
