-- What the laws of mixtures ask of lines.
use Rattle.std.proofs.Common.{ℕ, refl}
use Rattle.net_base.specs.Network.{PlainNet}
use Rattle.net_base.specs.Prefixes.{PlainPrefix, IsPrefix}
use Rattle.rollout_base.specs.Mixtures.{Part}
use Rattle.rollout_base.specs.Stages.{IsRollout}
use Rattle.rollout_law.proofs.Standing.{disjoint_tags_are_apart}
use Rattle.rollout_mixtures.specs.Between.{IsBetween}
use Rattle.rollout_mixtures.proofs.Parts.{first_is, new_is, old_is, second_is}
use Rattle.evidence_renewal.proofs.Above.{above}
use Rattle.evidence_renewal.proofs.Apart.{apart}
use Rattle.evidence_renewal.proofs.Passing.{passing}
use Rattle.renewal_law.specs.Change.{IsChange, ReplacesAll, TakesOver}
use Rattle.renewal_law.specs.Laws.{PhasesAreBetween, RenewalsReplaceAll, ReplacementsTakeOver}
use Rattle.renewal_law.specs.Phases.{IsMarked, Phase, Phase as phase, part_at, stage_one, stage_two}
use Rattle.renewal_law.proofs.Prefs.{taken_pref}

pub renewals_replace_all : RenewalsReplaceAll
renewals_replace_all net old new ds rules kept is =
    let over : ReplacesAll old new = record {
      apart = apart net new.policy old.config new.config ds rules is;
      above = above net new.policy old.config new.config ds rules kept.rules kept.routers is;
    } in
    (passing net new.policy old.config new.config ds is, over)

pub replacements_take_over : ReplacementsTakeOver
replacements_take_over net p old new is over = record {
  apart = disjoint_tags_are_apart net p old new is.old_config is.new_config (λ t tag here there. over.apart t tag there here);
  above = λ r u v path way t s q k taken taken'. over.above k.1 q.1 (taken_pref net new.config p r v way s k taken') (taken_pref net old.config p r u path t q taken);
}

module _ (net : PlainNet) (p : PlainPrefix) (old new : Part) (is : IsChange net old new) (over : TakesOver net p old new) (prefix : IsPrefix p) (r : ℕ)
  where
    rollout : IsRollout net p old new (stage_one old new) (stage_two old new)
    rollout = is.stages net old.policy new.policy p prefix

    between_at : (s : Phase) → IsBetween net p old new r (part_at old new s)
    between_at phase.at_old = old_is net p old new (stage_one old new) (stage_two old new) rollout over.apart r
    between_at phase.at_one = first_is net p old new (stage_one old new) (stage_two old new) rollout over.apart r
    between_at phase.at_two = second_is net p old new (stage_one old new) (stage_two old new) rollout over.apart r
    between_at phase.at_new = new_is net p old new (stage_one old new) (stage_two old new) rollout over.apart r

    marked_at : (s : Phase) → IsMarked s (between_at s)
    unfolding between_at old_is first_is second_is new_is
    marked_at phase.at_old = record { starts = refl; old_lines = refl; new_lines = refl }
    marked_at phase.at_one = record { starts = refl; old_lines = refl; new_lines = refl }
    marked_at phase.at_two = record { starts = refl; old_lines = refl; new_lines = refl }
    marked_at phase.at_new = record { starts = refl; old_lines = refl; new_lines = refl }

pub phases_are_between : PhasesAreBetween
phases_are_between net p old new is over prefix r s = (between_at net p old new is over prefix r s, marked_at net p old new is over prefix r s)
