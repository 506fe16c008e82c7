-- What a source that loses nothing keeps under failures.
use Rattle.std.proofs.Common.{◌≡◌, ℕ, ◌≤◌, true, List, ◌++◌, Option, Some, None, refl, sym, ap, ◌∙◌, subst, inl, inr}
use Rattle.std.specs.Prelude.{◌&&◌}
use Rattle.std.proofs.lemmas.Bool.{and_from, and_parts}
use Rattle.list_law.proofs.Options.{cases_Option, is_some_from, is_some_parts}
use Rattle.net_base.specs.Network.{PlainNet}
use Rattle.net_base.specs.Prefixes.{PlainPrefix}
use Rattle.policy_base.specs.Policies.{PlainPolicy, PlainStatement}
use Rattle.policy_base.specs.Meaning.{rank_of}
use Rattle.policy_base.specs.Walks.{is_loop_free}
use Rattle.policy_base.specs.Governing.{statement_of}
use Rattle.policy_base.specs.Permitted.{is_permitted}
use Rattle.outcome_base.specs.Outcomes.{Failures, survives}
use Rattle.compare_base.specs.declared.rows.Row.{Row}
use Rattle.impact_law.specs.Impacts.{begin_at}
use Rattle.compare_base.specs.Ranks.{rank_by, rank_for}
use Rattle.compare_law.specs.Laws.{HasGood, HasGoodRank, IsGoodBy, LosesNothing, NothingLostStaysInReach, RanksGetLess, RanksGetNoGreater, rank_in}
use Rattle.compare_law.proofs.Ranked.{is_some-rank_by, permitted_ranked, rank_by-permitted}

-- a row with a rank in the old policy isn't the empty one
some_row : (i : ℕ) (row none : Row) → row.old ≡ Some i → none.old ≡ None → row ≡ none → ⊥
some_row i row none at off same = (let clash : Some i ≡ None = sym at ∙ ap (λ (x : Row). x.old) same ∙ off in cc)

module _ (net : PlainNet) (policy : PlainPolicy) (f : Failures) (p : PlainPrefix) (path : List ℕ) where
  -- a good path has a rank, has no loop and survives
  pub good_parts : (o : Option PlainStatement) → IsGoodBy net policy f p o path → (n : ℕ) × (rank_by net policy p o path ≡ Some n) × (rank_in net o path ≡ Some n) × ((is_loop_free path && survives net f path) ≡ true)
  good_parts None good = absurd good
  good_parts (Some s) good =
      let last = and_parts (is_permitted net policy p s path && is_loop_free path) (survives net f path) good in
      let first = and_parts (is_permitted net policy p s path) (is_loop_free path) last.0 in
      let n = is_some_parts (rank_of net s.ranked path) (permitted_ranked net policy p s path first.0) in
      (n.0, rank_by-permitted net policy p s path first.0 ∙ n.1, n.1, and_from (is_loop_free path) (survives net f path) first.1 last.1)

  -- and what has a rank, has no loop and survives is good
  pub good_from : (o : Option PlainStatement) (n : ℕ) → rank_by net policy p o path ≡ Some n → (is_loop_free path && survives net f path) ≡ true → IsGoodBy net policy f p o path × (rank_in net o path ≡ Some n)
  good_from None n at free = absurd (cc)
  good_from (Some s) n at free =
      let parts = and_parts (is_loop_free path) (survives net f path) free in
      let is : is_permitted net policy p s path ≡ true = sym (is_some-rank_by net policy p s path) ∙ is_some_from (rank_by net policy p (Some s) path) n at in (
        and_from (is_permitted net policy p s path && is_loop_free path) (survives net f path) (and_from (is_permitted net policy p s path) (is_loop_free path) is parts.0) parts.1,
        sym (rank_by-permitted net policy p s path is) ∙ at,
      )

module _ (net : PlainNet) (old new : PlainPolicy) (p : PlainPrefix) (r : ℕ) (peer : Option ℕ) (kept : LosesNothing net old new p r peer) where
  -- a walk of the source that the old policy permits has a rank in the new one
  kept_rank : (rest : List ℕ) (i : ℕ) → rank_for net old p (begin_at r peer ++ rest) ≡ Some i → (j : ℕ) × (rank_for net new p (begin_at r peer ++ rest) ≡ Some j)
  kept_rank rest i at = elim (cases_Option (rank_for net new p (begin_at r peer ++ rest))) [
    | inl none ↦ absurd (kept i (rest, at, none, λ same. some_row i (record { old = Some i; new = None }) (record { old = None; new = None }) refl refl same))
    | inr j ↦ j
  ]

  stays : (f : Failures) → HasGood net old f p r peer → HasGood net new f p r peer
  stays f good =
      let path = begin_at r peer ++ good.0 in
      let parts = good_parts net old f p path (statement_of old p) good.1 in
      let j = kept_rank good.0 parts.0 parts.1 in
      (good.0, (good_from net new f p path (statement_of new p) j.0 j.1 parts.3).0)

  no_greater : RanksGetLess net old new p r peer → (f : Failures) (n : ℕ) → HasGoodRank net old f p r peer n → (m : ℕ) × (m ≤ n) × HasGoodRank net new f p r peer m
  no_greater less f n good =
      let path = begin_at r peer ++ good.0 in
      let parts = good_parts net old f p path (statement_of old p) good.1 in
      let j = kept_rank good.0 parts.0 parts.1 in
      let there = good_from net new f p path (statement_of new p) j.0 j.1 parts.3 in
      let same : parts.0 ≡ n = (let both : Some parts.0 ≡ Some n = sym parts.2 ∙ good.2 in cc) in
      (j.0, subst (λ k. j.0 ≤ k) same (less parts.0 j.0 (good.0, parts.1, j.1, λ same. some_row parts.0 (record { old = Some parts.0; new = Some j.0 }) (record { old = None; new = None }) refl refl same)), (good.0, there.0, there.1))

pub nothing_lost : NothingLostStaysInReach
nothing_lost net old new p r peer kept f good = stays net old new p r peer kept f good

pub ranks_no_greater : RanksGetNoGreater
ranks_no_greater net old new p r peer kept less f n good = no_greater net old new p r peer kept less f n good
