use Rattle.std.proofs.Common.{◌≡◌, List, length, map, sym, ap, ◌∙◌, subst}
use Rattle.list_law.specs.Members.{IsIn}
use Rattle.list_law.proofs.Changed.{map-map}
use Rattle.policy_base.specs.Policies.{policy_of}
use Rattle.outcome_base.specs.Outcomes.{Outcome}
use Rattle.settled_law.specs.Settled.{IsFullyStable}
use Rattle.settled_law.proofs.SettledLaw.{settled_outcomes_exist}
use Rattle.scenarios.specs.Scenarios.{failures_of}
use Rattle.impact_law.specs.Cuts.{with_cut}
use Rattle.impact_law.specs.declared.impact.Cut.{Cut}
use Rattle.impact_law.specs.declared.impact.CutRow.{CutRow}
use Rattle.impact_law.specs.declared.impact.Moves.{Moves}
use Rattle.impact_law.proofs.OneImpact.{rows_are_of_live_cuts}
use Rattle.whatif_report.specs.Settling.{Settles, moves_in}
use Rattle.whatif_report.specs.Shifting.{keeps_set}
use Rattle.whatif_report.proofs.Living.{rows_are_of}
use Rattle.whatif_report.proofs.Members.{keeps_tells}
use Rattle.whatif_report.proofs.report.what_if.Goals as goal

pub moves_of-requires-clause-cuts : goal.moves_of-requires-clause-cuts
moves_of-requires-clause-cuts c = λ row at.
    let s = c.args.situation.now in
    rows_are_of s.net.now (policy_of s.policy.now) (failures_of s.scenario.now) s.scenario.now.prefix c.in_ok-impact.impact c.in_ok-impact.ensures
    row (subst (λ (rows : List CutRow). IsIn rows row) c.as_slice.ensures at)

pub returns : goal.returns
returns c =
    let s = c.args.situation.now in
    let net = s.net.now in
    let policy = policy_of s.policy.now in
    let config = s.config.now in
    let f = failures_of s.scenario.now in
    let p = s.scenario.now.prefix in
    let before = s.outcome.now.routes in
    let impact = c.in_ok-impact.impact in
    let rest : (cut : Cut) → (o : Outcome) × (length o ≡ length net.routers) × IsFullyStable net policy config (with_cut cut f) p o =
    λ cut. settled_outcomes_exist net policy config c.args.evidence.now.cases c.known_net.ensures c.requires.fits c.requires.passes p (with_cut cut f) c.known_prefix.ensures in
    let after : Cut → Outcome = λ cut. (rest cut).0 in
    let resettled : (cut : Cut) → Settles s (with_cut cut f) (after cut) = λ cut. record { size = (rest cut).1; stable = (rest cut).2 } in
    let Of : Cut → Moves = λ (cut : Cut). moves_in s cut (after cut) in
    record {
      impact = c.in_ok-impact.ensures;
      before = before;
      settled = c.requires.settled;
      after = after;
      resettled = resettled;
      kept = λ cut. keeps_set net policy config f (with_cut cut f) p before (after cut);
      each = λ cut r. keeps_tells net policy config f (with_cut cut f) p before (after cut) c.known_net.ensures r;
      moves =
          c.in_ok-moves.ensures after resettled ∙ ap (map (λ (row : CutRow). Of row.cut)) c.as_slice.ensures
          ∙ sym (map-map Of (λ (row : CutRow). row.cut) impact.rows) ∙ ap (map Of) (rows_are_of_live_cuts net policy f p impact c.in_ok-impact.ensures);
    }
