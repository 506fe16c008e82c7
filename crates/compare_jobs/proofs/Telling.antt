-- What the text of a comparison tells a reader.
use Rattle.std.proofs.Common.{◌≡◌, ℕ, ◌<◌, ◌^◌, List, length, sym, ap, ◌∙◌}
use Rattle.std.specs.List.{count_by}
use Rattle.net_base.specs.Network.{PlainNet}
use Rattle.policy_base.specs.Policies.{PlainPolicy}
use Rattle.text_parts.proofs.Words.{number_cut}
use Rattle.comparison.specs.Changed.{is_changed}
use Rattle.comparison_law.proofs.One.{comparisons_are_one}
use Rattle.comparison_law.proofs.Told.{same_unchanged, served_alike, told_pairs, unchanged_same, untold_prefixes}
use Rattle.compare_report.specs.Changes.{compare_text, last_line}
use Rattle.compare_report.proofs.Unchanged.{told_where_unchanged, unchanged_where_told}
use Rattle.compare_jobs.specs.Compared.{IsCompared}
use Rattle.compare_jobs.specs.Laws.{ComparedTextsAreOne, SamePoliciesAreTold, ToldPairsDiffer, UnchangedTextsTellSamePolicies, UntoldPrefixesAreAlike}

module _ (net : PlainNet) (old new : PlainPolicy) (bytes : List ℕ) (compared : IsCompared net old new bytes) where
  -- a text that tells of no change is that of a comparison without one
  none_changed : (n : ℕ) → n < 2 ^ 64 → bytes ≡ last_line n 0 → count_by (is_changed net) compared.pairs ≡ 0
  none_changed n fits is = unchanged_where_told number_cut net old new compared.pairs n compared.few fits (sym compared.told ∙ is)

pub unchanged_texts : UnchangedTextsTellSamePolicies
unchanged_texts net old new bytes n rules compared fits is =
    let none = none_changed net old new bytes compared n fits is in
    (unchanged_same net old new compared.pairs rules compared.are none, λ config. served_alike net old new compared.pairs config rules compared.are none)

pub one_text : ComparedTextsAreOne
one_text net old new one other fits fits_too a b =
    a.told ∙ ap (compare_text net old new) (comparisons_are_one net old new a.pairs b.pairs fits fits_too a.are b.are) ∙ sym b.told

pub untold : UntoldPrefixesAreAlike
untold net old new bytes p rules compared prefix none = untold_prefixes net old new compared.pairs p rules compared.are prefix none

pub same_policies : SamePoliciesAreTold
same_policies net old new bytes rules old_sets new_sets compared same =
    let none = same_unchanged net old new compared.pairs rules old_sets new_sets compared.are same in
    (length compared.pairs, compared.few, compared.told ∙ told_where_unchanged net old new compared.pairs none)

pub told : ToldPairsDiffer
told net old new bytes x rules old_sets new_sets compared at changed = told_pairs net old new compared.pairs x rules old_sets new_sets compared.are at changed
