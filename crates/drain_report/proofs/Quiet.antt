-- The failure of what no other router's route goes over leaves a quiet world quiet.
use Rattle.std.proofs.Common.{◌≡◌, ℕ, true, List, [], ◌∷◌, ◌++◌, Option, length, refl, sym, ap, ◌∙◌, inl, inr, subst}
use Rattle.list_law.proofs.Options.{cases_Option}
use Rattle.net_base.specs.Locations.{numbers_below}
use Rattle.net_base.proofs.NumbersBelow.{length-numbers_below}
use Rattle.std.proofs.lemmas.List.{length-map}
use Rattle.event_base.specs.declared.event.Event.{Event}
use Rattle.event_base.specs.declared.event.EventFault.{EventFault}
use Rattle.event_base.specs.Speaking.{speakers_of}
use Rattle.event_base.specs.Steps.{IsQuiet, fault_of, happens, opening, or_as_before, run, step}
use Rattle.event_base.specs.World.{Speakers, World, choose_again}
use Rattle.event_law.proofs.Keeping.{opening-keeps, run-keeps}
use Rattle.event_law.proofs.Still.{IsStill, each_still, still}
use Rattle.rest_law.proofs.Choosers.{are_choosers}
use Rattle.event_law.specs.Laws.{world_after}
use Rattle.event_law.specs.Scenarios.{routes_of, scenario_of}
use Rattle.event_law.proofs.Quiet.{are_speakers}
use Rattle.event_law.proofs.Scenario.{worlds_have_scenarios}
use Rattle.event_law.proofs.Waiting.{quiet_worlds_are_settled}
use Rattle.impact_law.specs.declared.impact.Cut.{Cut}
use Rattle.impact_law.specs.declared.impact.Cut.TheVariants.{Link, Router}
use Rattle.drain_report.proofs.Freeing.{free_is_unused}
use Rattle.drain_report.specs.Quiet.{FreeFailuresAreQuiet, UnusedFailuresAreQuiet, failing}
use Rattle.drain_report.proofs.Failing.{all_still, failed, failed_quiet}

module _ {R : Type 0} (net : Speakers R) where
  run_more : (es : List Event) (e : Event) (w : World R) → run net (es ++ e ∷ []) w ≡ happens net e (run net es w)
  run_more [] e w = refl
  run_more (d ∷ es) e w = run_more es e (happens net d w)

  -- where all are still the failure is all that happens
  step_failed : (alike : (m : Option R) → net.same m m ≡ true) (cut : Cut) (w : World R) → ((r : ℕ) → IsStill net alike (failed net cut w) r) → step net (failing cut) w ≡ failed net cut w
  step_failed alike (Link a b) w is = ap (choose_again net b) (still net alike (failed net (Link a b) w) a (is a)) ∙ still net alike (failed net (Link a b) w) b (is b)
  step_failed alike (Router r) w is = each_still net alike (net.neighbours r) (failed net (Router r) w) is

  happens_quiet : (e : Event) (w : World R) → IsQuiet w → IsQuiet (step net e w) → IsQuiet (happens net e w)
  happens_quiet e w quiet then = elim (cases_Option (fault_of net e w)) [
    | inl none ↦ subst IsQuiet (sym (ap (λ (o : Option EventFault). or_as_before o (step net e w) w) none)) then
    | inr fault ↦ subst IsQuiet (sym (ap (λ (o : Option EventFault). or_as_before o (step net e w) w) fault.1)) quiet
  ]

pub unused_failures_are_quiet : UnusedFailuresAreQuiet
unused_failures_are_quiet net policy config p es cut rules quiet off =
    let S = speakers_of net policy config p in
    let w = world_after net policy config p es in
    let speak = are_speakers net policy config p rules in
    let kept = run-keeps S speak es (opening S) (opening-keeps S speak) in
    let f = scenario_of net w in
    let settled = quiet_worlds_are_settled net policy config p es f rules quiet (worlds_have_scenarios net policy config p es rules) in
    let alike = (are_choosers net policy config p rules).alike in
    let is = step_failed S alike cut w (all_still net policy config p rules w kept quiet f settled.stable cut off) in
    let then : IsQuiet (step S (failing cut) w) = subst IsQuiet (sym is) (failed_quiet S w quiet cut) in
    subst IsQuiet (sym (run_more S es (failing cut) (opening S))) (happens_quiet S (failing cut) w quiet then)

pub free_failures_are_quiet : FreeFailuresAreQuiet
free_failures_are_quiet net policy config cs rules fits passes p prefix es f cut scenario quiet free =
    let w = world_after net policy config p es in
    let size : length (routes_of net w) ≡ length net.routers = length-map (numbers_below (length net.routers)) w.route ∙ length-numbers_below (length net.routers) in
    let settled = quiet_worlds_are_settled net policy config p es f rules quiet scenario in
    let unused = (free_is_unused net policy config cs rules fits passes p f cut (routes_of net w) prefix size settled).0 free in
    unused_failures_are_quiet net policy config p es cut rules quiet unused.routes
