-- The routers that are marked are those whose multipath sets are others.
use Rattle.std.proofs.Common.{◌≡◌, ◌<◌, ℕ, Bool, true, false, List, length, refl, sym, ap, ◌∙◌, inl, inr}
use Rattle.std.specs.Prelude.{◌&&◌, ◌||◌, not}
use Rattle.std.specs.List.{list_any}
use Rattle.std.specs.Option.{option_map_or}
use Rattle.std.proofs.lemmas.Bool.{and_from, and_parts, cases_Bool, not-false, not-true, or_parts, true≢false}
use Rattle.list_law.proofs.Truth.{same_tests}
use Rattle.net_base.specs.declared.loc.LocSet.{LocSet}
use Rattle.net_base.specs.Network.{PlainNet, IsNet}
use Rattle.net_base.specs.Prefixes.{PlainPrefix}
use Rattle.net_base.specs.Sets.{holds}
use Rattle.policy_base.specs.Policies.{PlainPolicy, policy_of}
use Rattle.config_base.specs.Configs.{PlainConfig}
use Rattle.outcome_base.specs.Outcomes.{Failures, Outcome}
use Rattle.scenarios.specs.Scenarios.{failures_of}
use Rattle.scenarios.specs.Tests.{far_end}
use Rattle.scenarios.specs.declared.situation.Situation.{Situation}
use Rattle.impact_law.specs.Cuts.{is_cut, with_cut}
use Rattle.impact_law.specs.declared.impact.Cut.{Cut}
use Rattle.multipath_report.specs.Members.{is_member, member_in}
use Rattle.whatif_report.specs.Changing.{AreMoved, IsAfter}
use Rattle.whatif_report.specs.Shifting.{Covers, differ, differs, keeps_set, over_link, touches}
use Rattle.whatif_report.proofs.FarEnds.{at_far_end, from_far_end}
use Rattle.whatif_report.proofs.Gifts.{member_same}
use Rattle.whatif_report.proofs.Members.{differ_itself, other_linked, other_some}
use Rattle.whatif_report.proofs.StandIn.{members_same}
use Rattle.whatif_report.proofs.Touching.{as_silent, end_uncut, uncut_lives, unmoved, unmoved_anywhere}

module _ (s t : Situation) (cut : Cut) (rules : IsNet s.net.now) (is : IsAfter s t cut) where
  abbrev net : PlainNet
  net = s.net.now

  abbrev policy : PlainPolicy
  policy = policy_of s.policy.now

  abbrev config : PlainConfig
  config = s.config.now

  abbrev p : PlainPrefix
  p = s.scenario.now.prefix

  abbrev f : Failures
  f = failures_of s.scenario.now

  abbrev h : Failures
  h = with_cut cut f

  abbrev before : Outcome
  before = s.outcome.now.routes

  abbrev after : Outcome
  after = t.outcome.now.routes

  abbrev earlier : ℕ → ℕ → Bool
  earlier = is_member net policy config f p before

  abbrev later : ℕ → ℕ → Bool
  later = is_member net policy config h p after

  later_there : (r z : ℕ) → member_in t r z ≡ later r z
  later_there r z =
      (λ i. is_member (is.net i) (is.policy i) (is.config i) (failures_of t.scenario.now) (is.prefix i) after r z)
      ∙ members_same net policy config (failures_of t.scenario.now) h p after after rules is.failures (λ u alive. refl) r z

  abbrev shifts : ℕ → ℕ → Bool
  shifts r z = not (is_cut cut r) && differ (member_in s r z) (member_in t r z)

  abbrev other : ℕ → ℕ → Bool
  other r z = differs net policy config f h p before after z r

  shifts_other : (r z : ℕ) → shifts r z ≡ (not (is_cut cut r) && other r z)
  shifts_other r z = ap (λ m. not (is_cut cut r) && differ (member_in s r z) m) (later_there r z)

  module _ (moved : LocSet) (are : AreMoved s cut after moved) (links : List (ℕ × ℕ)) (covers : Covers net cut moved links) where
    untouched : (r z : ℕ) → r < length net.routers → is_cut cut r ≡ false → touches cut moved r z ≡ false → earlier r z ≡ later r z
    untouched r z low off none =
        let parts = or_parts (holds moved r || holds moved z) (over_link cut r z) none in
        let ends = or_parts (holds moved r) (holds moved z) parts.0 in
        member_same net policy config f h p before after rules r z (uncut_lives net cut f r z parts.1) (as_silent cut f r z)
        (unmoved_anywhere cut before after (length net.routers) z is.before_size is.size (end_uncut cut r z parts.1) (λ there. sym (are z there) ∙ ends.1))
        (unmoved cut before after r off (sym (are r low) ∙ ends.0))

    pub marks_tell : (r : ℕ) → r < length net.routers
        → list_any (λ link. option_map_or (shifts r) (far_end r link) false) links ≡ (not (is_cut cut r) && not (keeps_set net policy config f h p before after r))
    marks_tell r low = same_tests _ _ marked shifted
      where
        marked : list_any (λ link. option_map_or (shifts r) (far_end r link) false) links ≡ true → (not (is_cut cut r) && not (keeps_set net policy config f h p before after r)) ≡ true
        marked on =
            let at = from_far_end (shifts r) r links on in
            let parts = and_parts (not (is_cut cut r)) (other r at.0) (sym (shifts_other r at.0) ∙ at.1) in
            and_from (not (is_cut cut r)) _ parts.0 (ap (λ b. not (not b)) (other_some net policy config f h p before after rules r at.0 parts.1))

        shifted : (not (is_cut cut r) && not (keeps_set net policy config f h p before after r)) ≡ true → list_any (λ link. option_map_or (shifts r) (far_end r link) false) links ≡ true
        shifted on =
            let parts = and_parts (not (is_cut cut r)) (not (keeps_set net policy config f h p before after r)) on in
            let at = from_far_end (other r) r net.links (not-false _ (not-true _ parts.1)) in
            elim (cases_Bool (touches cut moved r at.0)) [
              | inl touched ↦
                  at_far_end (shifts r) r links at.0 (covers r at.0 (other_linked net policy config f h p before after rules r at.0 at.1) touched)
                  (shifts_other r at.0 ∙ and_from (not (is_cut cut r)) (other r at.0) parts.0 at.1)
              | inr none ↦ absurd (true≢false (sym at.1 ∙ differ_itself (earlier r at.0) (later r at.0) (untouched r at.0 low (not-true _ parts.0) none)))
            ]
