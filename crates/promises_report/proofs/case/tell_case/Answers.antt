use Rattle.std.proofs.Common.{◌≡◌, length, ap, ◌∙◌, arith}
use Rattle.policy_base.specs.declared.case.Case.{Case}
use Rattle.policy_base.specs.Policies.{policy_of}
use Rattle.promises_report.specs.declared.group.Group.{Group}
use Rattle.promises_report.specs.Groups.{alone}
use Rattle.promises_report.specs.Standings.{row_of}
use Rattle.promises_report.specs.Telling.{promises_in}
use Rattle.promises_report.specs.Cases.{row_in}
use Rattle.promises_report.specs.Counting.{case_counts}
use Rattle.promises_report.specs.Taking.{takes}
use Rattle.promises_report.proofs.Casing.{router_rows, session_rows}
use Rattle.promises_report.proofs.case.tell_case.Goals as goal

pub case_counts-counts-requires-clause-routers : goal.case_counts-counts-requires-clause-routers
case_counts-counts-requires-clause-routers c =
    let net = c.args.net.now in
    let policy = policy_of c.args.policy.now in
    let size = router_rows net policy c.case-case.result.now (promises_in c.in_ok-told.told) in
    omega (arith, ap (λ (g : Group). length g.routers) c.in_ok-group.ensures, size.0, c.known_net.ensures.routers)

pub case_counts-counts-requires-clause-origins : goal.case_counts-counts-requires-clause-origins
case_counts-counts-requires-clause-origins c =
    let net = c.args.net.now in
    let policy = policy_of c.args.policy.now in
    let size = router_rows net policy c.case-case.result.now (promises_in c.in_ok-told.told) in
    omega (arith, ap (λ (g : Group). length g.origins) c.in_ok-group.ensures, size.1, c.known_net.ensures.routers)

pub case_counts-counts-requires-clause-sessions : goal.case_counts-counts-requires-clause-sessions
case_counts-counts-requires-clause-sessions c =
    let net = c.args.net.now in
    let policy = policy_of c.args.policy.now in
    let size = session_rows net policy c.case-case.result.now (promises_in c.in_ok-told.told) in
    omega (arith, ap (λ (g : Group). length g.sessions) c.in_ok-group.ensures, size, c.known_net.ensures.count)

pub returns : goal.returns
returns c =
    let net = c.args.net.now in
    let policy = policy_of c.args.policy.now in
    let number = c.args.number in
    let a = promises_in c.in_ok-told.told in
    let one = c.case-case.result.now in
    let d = c.args.case.now in
    let here : one ≡ d.case = c.case-case.ensures.case in
    record {
      promises = a;
      told = c.in_ok-told.ensures;
      group_is = c.in_ok-group.ensures ∙ ap (λ (e : Case). alone net policy number e (row_of net e a)) here;
      counts_are =
          c.case_counts-counts.ensures.counts ∙ ap (λ (g : Group). case_counts net policy one (row_in g)) c.in_ok-group.ensures
          ∙ ap (λ (e : Case). case_counts net policy e (row_of net e a)) here;
      takes_are = c.takes_some-takes.ensures ∙ ap (λ (e : Case). takes net e a) here;
      room = c.case_counts-counts.ensures.room;
    }
