-- A router keeps its multipath set where no neighbour is in it before or after, and not both times.
use Rattle.std.proofs.Common.{◌≡◌, ℕ, Bool, true, false, refl, sym, ap, ap₂, ◌∙◌, inl, inr}
use Rattle.std.specs.Prelude.{◌↔◌, not}
use Rattle.std.specs.List.{list_any}
use Rattle.std.specs.Option.{option_map_or}
use Rattle.std.proofs.lemmas.Bool.{cases_Bool, false_from_ne_true, not-true, true≢false}
use Rattle.list_law.proofs.Truth.{same_tests}
use Rattle.net_base.specs.Network.{PlainNet, IsNet, linked}
use Rattle.net_base.specs.Prefixes.{PlainPrefix}
use Rattle.net_base.proofs.Links.{linked_flips}
use Rattle.policy_base.specs.Policies.{PlainPolicy}
use Rattle.config_base.specs.Configs.{PlainConfig}
use Rattle.outcome_base.specs.Outcomes.{Failures, Outcome}
use Rattle.scenarios.specs.Tests.{far_end}
use Rattle.multipath_report.specs.Members.{is_member}
use Rattle.multipath_report.proofs.Finding.{member_from, member_linked, member_to}
use Rattle.whatif_report.specs.Moves.{KeepsSet}
use Rattle.whatif_report.specs.Shifting.{differ, differs, keeps_set}
use Rattle.whatif_report.proofs.FarEnds.{at_far_end, from_far_end}

pub differ_itself : (a b : Bool) → a ≡ b → differ a b ≡ false
differ_itself true true same = refl
differ_itself false false same = refl
differ_itself true false same = same
differ_itself false true same = sym same

pub differ_apart : (a b : Bool) → a ≡ true → b ≡ false → differ a b ≡ true
differ_apart a b on off = ap₂ differ on off

pub differ_turned : (a b : Bool) → a ≡ false → b ≡ true → differ a b ≡ true
differ_turned a b off on = ap₂ differ off on

module _ (net : PlainNet) (policy : PlainPolicy) (config : PlainConfig) (f h : Failures) (p : PlainPrefix) (before after : Outcome) (rules : IsNet net) where
  abbrev earlier : ℕ → ℕ → Bool
  earlier r z = is_member net policy config f p before r z

  abbrev later : ℕ → ℕ → Bool
  later r z = is_member net policy config h p after r z

  abbrev other : ℕ → ℕ → Bool
  other r z = differs net policy config f h p before after z r

  abbrev some : ℕ → Bool
  some r = list_any (λ link. option_map_or (other r) (far_end r link) false) net.links

  -- who is in one set alone is a neighbour
  pub other_linked : (r z : ℕ) → other r z ≡ true → linked net z r ≡ true
  other_linked r z on = linked_flips net z r ∙ elim (cases_Bool (earlier r z)) [
    | inl t ↦ member_linked net policy config f p before rules r z (member_from net policy config f p before r z t)
    | inr t ↦ elim (cases_Bool (later r z)) [
      | inl u ↦ member_linked net policy config h p after rules r z (member_from net policy config h p after r z u)
      | inr u ↦ absurd (true≢false (sym on ∙ differ_itself (earlier r z) (later r z) (t ∙ sym u)))
    ]
  ]

  pub other_some : (r z : ℕ) → other r z ≡ true → some r ≡ true
  other_some r z on = at_far_end (other r) r net.links z (other_linked r z on) on

  same_if_kept : (r z : ℕ) → keeps_set net policy config f h p before after r ≡ true → earlier r z ≡ later r z
  same_if_kept r z keeps =
      let none : some r ≡ false = not-true (some r) keeps in
      elim (cases_Bool (earlier r z)) [
        | inl t ↦ elim (cases_Bool (later r z)) [
          | inl u ↦ t ∙ sym u
          | inr u ↦ absurd (true≢false (sym (other_some r z (differ_apart (earlier r z) (later r z) t u)) ∙ none))
        ]
        | inr t ↦ elim (cases_Bool (later r z)) [
          | inl u ↦ absurd (true≢false (sym (other_some r z (differ_turned (earlier r z) (later r z) t u)) ∙ none))
          | inr u ↦ t ∙ sym u
        ]
      ]

  -- the test tells whether a router keeps its set
  pub keeps_tells : (r : ℕ) → (keeps_set net policy config f h p before after r ≡ true) ↔ KeepsSet net policy config f h p before after r
  keeps_tells r = (
    λ keeps z. (
      λ m. member_from net policy config h p after r z (sym (same_if_kept r z keeps) ∙ member_to net policy config f p before r z m),
      λ m. member_from net policy config f p before r z (same_if_kept r z keeps ∙ member_to net policy config h p after r z m),
    ),
    λ keeps. ap not (false_from_ne_true (some r) (λ on.
        let at = from_far_end (other r) r net.links on in
        let same = same_tests (earlier r at.0) (later r at.0)
        (λ t. member_to net policy config h p after r at.0 ((keeps at.0).0 (member_from net policy config f p before r at.0 t)))
        (λ t. member_to net policy config f p before r at.0 ((keeps at.0).1 (member_from net policy config h p after r at.0 t))) in
        true≢false (sym at.1 ∙ differ_itself (earlier r at.0) (later r at.0) same))),
  )
