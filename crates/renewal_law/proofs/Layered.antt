-- On the way a network comes to rest. What goes over is of two layers then, and what stays is held as by what each router runs.
use Rattle.std.proofs.Common.{ℕ, refl, sym, subst, inl, inr}
use Rattle.net_base.specs.Network.{PlainNet}
use Rattle.net_base.specs.Prefixes.{PlainPrefix, IsPrefix}
use Rattle.rollout_base.specs.Mixtures.{Mixture, Part}
use Rattle.rollout_base.specs.Stages.{IsOfRollout, SayAlike}
use Rattle.rollout_mixtures.specs.Alike.{RunsEither}
use Rattle.rollout_mixtures.specs.Between.{IsBetween}
use Rattle.rollout_mixtures.proofs.Alike.{resting_alikes_hold_theirs}
use Rattle.rollout_mixtures.proofs.Layered.{resting_mixtures_are_layered}
use Rattle.rollout_mixtures.proofs.Rest.{mixtures_come_to_rest}
use Rattle.rollout_mixtures.proofs.Staying.{alikes_come_to_rest, rollouts_run_either}
use Rattle.renewal_law.specs.Change.{IsChange, TakesOver}
use Rattle.renewal_law.specs.Laws.{ChangesComeToRest, RestingChangesAreLayered, RestingPrefixesStay, stands}
use Rattle.renewal_law.specs.Phases.{AreIn, IsMarked, Phase, Phase as phases, part_at, stage_one, stage_two}
use Rattle.renewal_law.proofs.Premises.{phases_are_between}

module _ (net : PlainNet) (p : PlainPrefix) (old new : Part) (is : IsChange net old new) (over : TakesOver net p old new) (prefix : IsPrefix p) where
  -- a router that runs what it runs in its phase
  runs_between : (phase : ℕ → Phase) (m : Mixture) → AreIn old new phase m → (r : ℕ) → (b : IsBetween net p old new r (m r)) × IsMarked (phase r) b
  runs_between phase m runs r =
      let in_phase = phases_are_between net p old new is over prefix r (phase r) in
      subst (λ (part : Part). (b : IsBetween net p old new r part) × IsMarked (phase r) b) (sym (runs r)) in_phase

-- of what stays each router runs one of the two policies, with the same lines
module _ (net : PlainNet) (p : PlainPrefix) (old new : Part) (is : IsChange net old new) (alike : SayAlike net p old.config new.config) (prefix : IsPrefix p) where
  runs_in : (s : Phase) → RunsEither net p old new (part_at old new s)
  runs_in s = rollouts_run_either net p old new (stage_one old new) (stage_two old new) (is.stages net old.policy new.policy p prefix) alike (part_at old new s) (which s)
    where
      which : (s : Phase) → IsOfRollout old new (stage_one old new) (stage_two old new) (part_at old new s)
      which phases.at_old = inl (inl refl)
      which phases.at_one = inl (inr refl)
      which phases.at_two = inr (inr refl)
      which phases.at_new = inr (inl refl)

  runs_either : (phase : ℕ → Phase) (m : Mixture) → AreIn old new phase m → (r : ℕ) → RunsEither net p old new (m r)
  runs_either phase m runs r = subst (RunsEither net p old new) (sym (runs r)) (runs_in (phase r))

pub changes_come_to_rest : ChangesComeToRest
changes_come_to_rest net says p old new m es phase is either prefix announced runs = elim either [
  | inl alike ↦
      alikes_come_to_rest net says p old new is.old_passes.0 is.new_passes.0 m es is.network
      is.old_policy is.old_passes.1 is.old_config is.new_policy is.new_passes.1 prefix alike
      announced.peers announced.old_origins announced.new_origins (runs_either net p old new is alike prefix phase (stands net says p m es).runs runs)
  | inr over ↦ (
      let all = runs_between net p old new is over prefix phase (stands net says p m es).runs runs in
      mixtures_come_to_rest net says p old new is.old_passes.0 is.new_passes.0 m es is.network
      is.old_policy is.old_passes.1 is.new_policy is.new_passes.1 prefix over.above
      announced.peers announced.old_origins announced.new_origins (λ r. (all r).0))
]

pub resting_prefixes_stay : RestingPrefixesStay
resting_prefixes_stay net says p old new m es phase f is alike prefix announced runs scenario quiet =
    resting_alikes_hold_theirs net says p old new is.old_passes.0 is.new_passes.0 m es f is.network
    is.old_policy is.old_passes.1 is.old_config is.new_policy is.new_passes.1 prefix alike
    announced.peers announced.old_origins announced.new_origins (runs_either net p old new is alike prefix phase (stands net says p m es).runs runs) scenario quiet

pub resting_changes_are_layered : RestingChangesAreLayered
resting_changes_are_layered net says p old new m es phase f is over prefix announced runs scenario quiet =
    let all = runs_between net p old new is over prefix phase (stands net says p m es).runs runs in
    record {
      between = λ r. (all r).0;
      marked = λ r. (all r).1;
      layers =
          resting_mixtures_are_layered net says p old new is.old_passes.0 is.new_passes.0 m es f is.network
          is.old_policy is.old_passes.1 is.new_policy is.new_passes.1 prefix over.above
          announced.peers announced.old_origins announced.new_origins (λ r. (all r).0) scenario quiet;
    }
