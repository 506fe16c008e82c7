-- Ranks of permitted walks, by the statement that governs a prefix.
use Rattle.std.proofs.Common.{◌≡◌, ℕ, true, false, List, Some, None, sym, ap, ◌∙◌, inl, inr}
use Rattle.std.specs.Prelude.{◌&&◌, is_some, if◌then◌else◌}
use Rattle.std.proofs.lemmas.Bool.{and_parts, cases_Bool}
use Rattle.net_base.specs.Network.{PlainNet}
use Rattle.net_base.specs.Prefixes.{PlainPrefix}
use Rattle.policy_base.specs.Policies.{PlainPolicy, PlainStatement}
use Rattle.policy_base.specs.Meaning.{at_first, rank_of}
use Rattle.policy_base.specs.Governing.{statement_of}
use Rattle.policy_base.specs.Permitted.{from_holds, is_case_walk, is_permitted}
use Rattle.compare_base.specs.Ranks.{rank_by, rank_for}

module _ (net : PlainNet) (policy : PlainPolicy) (p : PlainPrefix) (s : PlainStatement) (path : List ℕ) where
  pub permitted_ranked : is_permitted net policy p s path ≡ true → is_some (rank_of net s.ranked path) ≡ true
  permitted_ranked is = (and_parts (is_case_walk net policy p path && at_first (from_holds s.from) path) (is_some (rank_of net s.ranked path)) is).1

  pub rank_by-permitted : is_permitted net policy p s path ≡ true → rank_by net policy p (Some s) path ≡ rank_of net s.ranked path
  rank_by-permitted is = ap (λ b. if b then rank_of net s.ranked path else None) is

  pub is_some-rank_by : is_some (rank_by net policy p (Some s) path) ≡ is_permitted net policy p s path
  is_some-rank_by = elim (cases_Bool (is_permitted net policy p s path)) [
    | inl is ↦ ap is_some (rank_by-permitted is) ∙ permitted_ranked is ∙ sym is
    | inr off ↦ ap (λ b. is_some (if b then rank_of net s.ranked path else None)) off ∙ sym off
  ]

  module _ (at : statement_of policy p ≡ Some s) where
    pub is_some-rank_for : is_some (rank_for net policy p path) ≡ is_permitted net policy p s path
    is_some-rank_for = ap (λ o. is_some (rank_by net policy p o path)) at ∙ is_some-rank_by

    pub rank_for-permitted : is_permitted net policy p s path ≡ true → rank_for net policy p path ≡ rank_of net s.ranked path
    rank_for-permitted is = ap (λ o. rank_by net policy p o path) at ∙ rank_by-permitted is

pub is_some-rank_for-none : (net : PlainNet) (policy : PlainPolicy) (p : PlainPrefix) (path : List ℕ) → statement_of policy p ≡ None → is_some (rank_for net policy p path) ≡ false
is_some-rank_for-none net policy p path at = ap (λ o. is_some (rank_by net policy p o path)) at
