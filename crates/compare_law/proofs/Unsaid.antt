-- Two policies say the same of a prefix of which both say nothing.
use Rattle.std.proofs.Common.{◌≡◌, ℕ, ◌+◌, false, List, [], ◌∷◌, ◌++◌, length, None, Some, refl, sym, ap, ◌∙◌, arith, inl, inr}
use Rattle.std.specs.Prelude.{◌&&◌, not, is_some, nat_le, nat_lt, if◌then◌else◌}
use Rattle.std.specs.List.{list_any}
use Rattle.std.proofs.lemmas.Bool.{and_cases, and_parts, cases_Bool, false_from_ne_true, leb-true, lt-ltb, ltb-true, or_parts, true≢false}
use Rattle.list_law.proofs.Options.{is_some_from, none_from_not_some}
use Rattle.net_base.specs.Network.{PlainNet, is_location, is_peer}
use Rattle.net_base.specs.Prefixes.{PlainPrefix}
use Rattle.policy_base.specs.Policies.{PlainPolicy, PlainStatement}
use Rattle.policy_base.specs.Meaning.{at_last, front}
use Rattle.policy_base.specs.Walks.{is_walk}
use Rattle.policy_base.specs.Governing.{governing, governing_from, is_origin, is_origin_by, originated_at, some_contains, statement_from, statement_of}
use Rattle.policy_base.specs.Permitted.{ends_at_origin}
use Rattle.policy_base.proofs.WalkParts.{at_last-never}
use Rattle.impact_law.specs.Impacts.{begin_at}
use Rattle.compare_base.specs.Cases.{is_governed, is_originated, pair_for}
use Rattle.compare_base.specs.Ranks.{rank_for, IsAlike}
use Rattle.compare_law.specs.Laws.{NothingSaidIsAlike}
use Rattle.compare_law.proofs.Ranked.{is_some-rank_for-none}
use Rattle.compare_law.proofs.Rows.{ranked_walk}

-- without a number there is no statement
ungoverned : (ss : List PlainStatement) (p : PlainPrefix) (k : ℕ) → governing_from ss p k ≡ None → statement_from ss p ≡ None
ungoverned [] p k h = refl
ungoverned (s ∷ ss) p k h = elim (cases_Bool (some_contains s.patterns p)) [
  | inl met ↦ (let clash : Some k ≡ None = sym (ap (λ b. if b then Some k else governing_from ss p (k + 1)) met) ∙ h in absurd (cc))
  | inr missed ↦
      ap (λ b. if b then Some s else statement_from ss p) missed
      ∙ ungoverned ss p (k + 1) (sym (ap (λ b. if b then Some k else governing_from ss p (k + 1)) missed) ∙ h)
]

no_peer : (net : PlainNet) → nat_lt 0 (length net.peers) ≡ false → (l : ℕ) → is_peer net l ≡ false
no_peer net none l = false_from_ne_true (is_peer net l) (λ peer.
    (let parts = and_parts (nat_le (length net.routers) l) (is_location net l) peer in
    let low = leb-true (length net.routers) l parts.0 in
    let high = ltb-true l (length net.routers + length net.peers) parts.1 in
    true≢false (sym (lt-ltb 0 (length net.peers) (omega (arith, low, high))) ∙ none)))

module _ (net : PlainNet) (policy : PlainPolicy) (p : PlainPrefix) where
  unranked_by_number : governing policy p ≡ None → (path : List ℕ) → is_some (rank_for net policy p path) ≡ false
  unranked_by_number none path = is_some-rank_for-none net policy p path (ungoverned policy.statements p 1 none)

  unranked_by_origin : ((l : ℕ) → is_origin net policy p l ≡ false) → (path : List ℕ) → is_some (rank_for net policy p path) ≡ false
  unranked_by_origin none path = false_from_ne_true (is_some (rank_for net policy p path)) (λ has.
      (let walk = ranked_walk net policy p (statement_of policy p) path has in
      let ends = (and_parts (is_walk net path) (ends_at_origin (is_origin net policy p) path) walk).1 in
      let last = (and_parts (at_last (is_origin net policy p) path) (not (list_any (is_origin net policy p) (front path))) ends).0 in
      true≢false (sym last ∙ at_last-never (is_origin net policy p) path none)))

module _ (net : PlainNet) (old new : PlainPolicy) (p : PlainPrefix) (bare : originated_at old.origins p ≡ None) (bare_too : originated_at new.origins p ≡ None) where
  alike_unranked : ((path : List ℕ) → is_some (rank_for net old p path) ≡ false) → ((path : List ℕ) → is_some (rank_for net new p path) ≡ false) → IsAlike net old new p
  alike_unranked none none_too = record {
    origins = λ l. ap (λ o. is_origin_by net o l) bare ∙ sym (ap (λ o. is_origin_by net o l) bare_too);
    permitted = λ path. none path ∙ sym (none_too path);
    order = λ r peer u v a b c d router at_a at_b at_c at_d.
        absurd (true≢false (sym (is_some_from (rank_for net old p (begin_at r peer ++ u)) a at_a) ∙ none (begin_at r peer ++ u)));
  }

  without_peers : nat_lt 0 (length net.peers) ≡ false → IsAlike net old new p
  without_peers none =
      alike_unranked (unranked_by_origin net old p (λ l. ap (λ o. is_origin_by net o l) bare ∙ no_peer net none l))
      (unranked_by_origin net new p (λ l. ap (λ o. is_origin_by net o l) bare_too ∙ no_peer net none l))

pub nothing_said : NothingSaidIsAlike
nothing_said net old new p nothing =
    let pair = pair_for old new p in
    let parts = or_parts (is_originated pair) (is_governed pair && nat_lt 0 (length net.peers)) nothing in
    let outside = or_parts (is_some (originated_at old.origins p)) (is_some (originated_at new.origins p)) parts.0 in
    let bare = none_from_not_some (originated_at old.origins p) outside.0 in
    let bare_too = none_from_not_some (originated_at new.origins p) outside.1 in
    elim (and_cases (is_governed pair) (nat_lt 0 (length net.peers)) parts.1) [
      | inl free ↦
          let both = or_parts (is_some (governing old p)) (is_some (governing new p)) free in
          alike_unranked net old new p bare bare_too (unranked_by_number net old p (none_from_not_some (governing old p) both.0))
          (unranked_by_number net new p (none_from_not_some (governing new p) both.1))
      | inr none ↦ without_peers net old new p bare bare_too none
    ]
