use Rattle.std.proofs.Common.{◌≡◌, ℕ, map, take}
use Rattle.std.specs.Prelude.{filter}
use Rattle.graph_base.specs.Runs.{place_of}
use Rattle.outcome_claims.specs.Offers.{is_told}
use Rattle.outcome_claims.proofs.offers.case_pairs.Given as goal

abbrev pub invariant-loop-step : goal.invariant-loop-step
invariant-loop-step l =
    l.pairs.items
    ≡ map (λ (s : ℕ × ℕ). (place_of l.case.graph s.0, place_of l.case.graph s.1)) (filter (is_told l.case l.outcome.routes) (take l.step-index l.step-items))
