use Rattle.std.proofs.Common.{◌∙◌, sym}
use Rattle.std.specs.Prelude.{◌↔◌, IsTrue}
use Rattle.std.proofs.lemmas.Bool.{false≢true}
use Rattle.std.proofs.lemmas.Result.{IfOk-weaker}
use Rattle.net_base.specs.Sets.{holds}
use Rattle.graph_base.specs.Rules.{IsWellFormed}
use Rattle.walk_check.specs.Alike.{IsSingleStepped}
use Rattle.walk_check.proofs.FormedParts.{formed_from_parts, nodes_from_formed, single_from_formed, starts_from_formed, steps_from_formed}
use Rattle.walk_check.proofs.formed.is_well_formed.Goals as goal

pub returns-then-not-parts_fit : goal.returns-then-not-parts_fit
returns-then-not-parts_fit c =
    let net = c.args.net.now in
    let origin = holds c.args.case.now.origins in
    let external = c.args.case.now.external in
    let g = c.args.graph.now in (
      λ h. absurd (false≢true h),
      λ wf. absurd (false≢true (sym c.if-not-parts_fit.true
          ∙ c.parts_fit.ensures.1 (
            starts_from_formed net origin external g wf,
            nodes_from_formed net origin external g wf,
            steps_from_formed net origin external g wf,
          ))),
    )

pub returns : goal.returns
returns c =
    let net = c.args.net.now in
    let origin = holds c.args.case.now.origins in
    let external = c.args.case.now.external in
    let g = c.args.graph.now in
    let fits = c.parts_fit.ensures.0 c.if-not-parts_fit.false in
    IfOk-weaker c.is_single_stepped.result (λ b. IsTrue b ↔ IsSingleStepped g) (λ b. IsTrue b ↔ IsWellFormed net origin external g)
    (λ b h. (λ t. formed_from_parts net origin external g fits.0 fits.1 fits.2 (h.0 t), λ wf. h.1 (single_from_formed net origin external g wf))) c.is_single_stepped.ensures
