use Rattle.list_law.proofs.Exits.{passed_on}
use Rattle.case_core.specs.Refusals.{FitsCase, IsCause}
use Rattle.case_core.specs.Sources.{HavePaths, NoneMixed}
use Rattle.case_core.proofs.Places.{of_case, origins_fit}
use Rattle.case_core.proofs.cases.case_graph_over.Goals as goal

pub judged-requires-clause-origins : goal.judged-requires-clause-origins
judged-requires-clause-origins c = origins_fit (c.case_of.ensures.case c.args.net.now c.requires.cases) c.requires.routers

pub judged-requires-clause-made : goal.judged-requires-clause-made
judged-requires-clause-made c =
    let is = c.case_of.ensures.case c.args.net.now c.requires.cases in
    let made = c.in_ok-given.ensures.graph _ _ is in
    (c.args.room, made.0, made.1)

pub returns-in_err-judged-clause-refused : goal.returns-in_err-judged-clause-refused
returns-in_err-judged-clause-refused c =
    let net = c.args.net.now in
    let is = c.case_of.ensures.case net c.requires.cases in
    let made = c.in_ok-given.ensures.graph _ _ is in
    rw (passed_on c.from_residual-in_err-judged.result c.from_residual-in_err-judged.ensures.1)
    (of_case is (λ t d. IsCause net c.args.number c.args.room t d c.in_err-judged.field-0.0) (c.in_err-judged.ensures.refused c.args.room made.0 made.1))

pub returns-clause-fits : goal.returns-clause-fits
returns-clause-fits c =
    let net = c.args.net.now in
    of_case (c.case_of.ensures.case net c.requires.cases) (λ t d. FitsCase net t d c.in_ok-given.given.graph) c.in_ok-judged.ensures.fits

pub returns-clause-paths : goal.returns-clause-paths
returns-clause-paths c = of_case (c.case_of.ensures.case c.args.net.now c.requires.cases) (HavePaths c.args.net.now) c.in_ok-judged.ensures.paths

pub returns-clause-unmixed : goal.returns-clause-unmixed
returns-clause-unmixed c = of_case (c.case_of.ensures.case c.args.net.now c.requires.cases) (NoneMixed c.args.net.now) c.in_ok-judged.ensures.unmixed
