-- An outcome before a cut, and one after.
use Rattle.std.specs.Prelude.{◌≡◌, ℕ, ◌<◌, ◌≤◌, Bool, false, not, ◌&&◌, length}
use Rattle.net_base.specs.declared.loc.LocSet.{LocSet}
use Rattle.net_base.specs.Sets.{holds}
use Rattle.policy_base.specs.Policies.{policy_of}
use Rattle.outcome_base.specs.Outcomes.{Outcome}
use Rattle.scenarios.specs.Scenarios.{failures_of}
use Rattle.scenarios.specs.Situations.{IsSituation}
use Rattle.scenarios.specs.declared.situation.Situation.{Situation}
use Rattle.impact_law.specs.Cuts.{is_cut, with_cut}
use Rattle.impact_law.specs.declared.impact.Cut.{Cut}
use Rattle.multipath_report.specs.Members.{member_in}
use Rattle.whatif_report.specs.Cutting.{AreSameFailures}
use Rattle.whatif_report.specs.Moves.{is_moved}
use Rattle.whatif_report.specs.Shifting.{differ}
use Rattle.whatif_report.specs.declared.shifting.Change.{Change}

-- it is of the same configured network, with a cut besides what has failed before
pub record IsAfter (before after : Situation) (cut : Cut) : Type 0 where
  pub situation : IsSituation after
  pub net : after.net.now ≡ before.net.now
  pub policy : policy_of after.policy.now ≡ policy_of before.policy.now
  pub config : after.config.now ≡ before.config.now
  pub prefix : after.scenario.now.prefix ≡ before.scenario.now.prefix
  pub failures : AreSameFailures (failures_of after.scenario.now) (with_cut cut (failures_of before.scenario.now))
  pub before_size : length before.outcome.now.routes ≡ length before.net.now.routers
  pub size : length after.outcome.now.routes ≡ length before.net.now.routers

-- of the routers it has those that hold another route after
abbrev pub AreMoved : Situation → Cut → Outcome → LocSet → Type 0
AreMoved before cut after moved = (r : ℕ) → r < length before.net.now.routers → holds moved r ≡ is_moved cut before.outcome.now.routes after r

-- so it is of the routers below a number, and it has no others
pub record AreBelow (test : ℕ → Bool) (n : ℕ) (set : LocSet) : Type 0 where
  pub here : (r : ℕ) → r < n → holds set r ≡ test r
  pub later : (r : ℕ) → n ≤ r → holds set r ≡ false

pub record IsChange (c : Change) : Type 0 where
  pub before : IsSituation c.before.now
  pub after : IsAfter c.before.now c.after.now c.cut

-- z is in the multipath set of r before or after, and not both times, and r isn't cut
abbrev pub shifts_in : Change → ℕ → ℕ → Bool
shifts_in c z r = not (is_cut c.cut r) && differ (member_in c.before.now r z) (member_in c.after.now r z)
