-- A rollout from its first load to its last, and back.
use Rattle.std.proofs.Common.{ℕ, Bool}
use Rattle.policy_base.specs.Governing.{is_origin}
use Rattle.rollout_stages.proofs.Safe.{rollouts_are_safe}
use Rattle.rollout_stages.proofs.Saying.{last_read, mix_swapped, swapped}
use Rattle.rollout_stages.proofs.Still.{first_loads_change_nothing, last_loads_change_nothing}
use Rattle.rollout_base.specs.Stages.{staged}
use Rattle.rollout_rest.specs.Laws.{stands_after}
use Rattle.rollout_rest.specs.Rollouts.{RolloutsAreRight, StagesLeadBack}
use Rattle.rollout_rest.proofs.Rest.{keeps, readers_come_to_rest, resting_readers_are_at_rest}
use Rattle.rollout_rest.proofs.Settled.{resting_readers_hold_its_tags}

pub rollouts_are_right : RolloutsAreRight
rollouts_are_right net p old new one two cs ds rules lawful passes config lawful' passes' prefix are =
    let reads = last_read net p old new one two are in
    record {
      safe = λ says m es peers runs loaded. rollouts_are_safe net p old new one two cs ds rules lawful passes config lawful' passes' prefix are says peers m runs es loaded;
      first = λ m es runs loaded. first_loads_change_nothing net (is_origin net old.policy p) p old new one two es m rules are runs loaded;
      ends = λ m es f runs scenario. readers_come_to_rest net p new ds m es f rules lawful' passes' prefix (λ r. reads r ((stands_after net p new m es).runs r) (runs r)) scenario;
      settled = λ m es f runs scenario quiet. resting_readers_are_at_rest net p new ds m es f rules lawful' passes' prefix (λ r. reads r ((stands_after net p new m es).runs r) (runs r)) scenario quiet;
      last = λ m es loads runs quiet loaded.
          let says : ℕ → Bool = is_origin net new.policy p in
          let s = stands_after net p new m es in
          let kept = keeps net says p m es rules in
          let tags = resting_readers_hold_its_tags net says p new s.runs s.world rules (λ r. reads r (s.runs r) (runs r)) kept quiet in
          (last_loads_change_nothing net says p old new one two loads s rules are kept tags runs loaded).0;
    }

pub stages_lead_back : StagesLeadBack
stages_lead_back net p old new one two are = record {
  mix = mix_swapped net p old new are.mix;
  first_says = λ r. swapped net p old new r (staged new two) (are.second_says r);
  first_reads = are.second_reads;
  second_says = λ r. swapped net p old new r (staged old one) (are.first_says r);
  second_reads = are.first_reads;
}
