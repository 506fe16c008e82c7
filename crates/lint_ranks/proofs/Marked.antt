-- The bits that are set are the ranks of permitted walks.
use Rattle.std.proofs.Common.{◌≡◌, ℕ, zero, suc, ◌+◌, ◌<◌, ◌≤◌, true, length, Some, refl, sym, ap, subst, ◌∙◌, inl, inr, arith}
use Rattle.std.specs.Prelude.{◌↔◌, ◌&&◌, ◌||◌, ◌==◌, ◌⊎◌, IsTrue, option_and_then, slice_get}
use Rattle.std.proofs.lemmas.Bool.{and_parts, and_from, cases_order, eq-eqb, eqb-true, or_cases, or_left, or_right}
use Rattle.std.proofs.lemmas.Option.{same_Some, slice_get_within}
use Rattle.list_law.proofs.Members.{list_any-from_IsIn}
use Rattle.list_law.proofs.Options.{option_and_then_parts, option_map_or_equal}
use Rattle.list_law.proofs.Tests.{list_any_parts}
use Rattle.net_base.specs.Network.{PlainNet}
use Rattle.policy_base.specs.declared.case.Case.{Case}
use Rattle.policy_base.specs.Cases.{case_list}
use Rattle.policy_base.specs.Policies.{PlainPolicy, PlainStatement, statement_at}
use Rattle.graph_base.specs.declared.graph.Node.{Node}
use Rattle.graph_base.specs.Graphs.{PlainGraph}
use Rattle.bit_rows.specs.Tables.{PlainRows, has_at}
use Rattle.policy_base.specs.CaseNumbers.{IsCase}
use Rattle.lint_ranks.specs.Marks.{AreReached, HasRank, is_rank, some_has_rank}
use Rattle.lint_ranks.specs.Reached.{IsRankOfCase, IsReached}

-- ---- nodes

pub is_rank-same : (b k : ℕ) → k ≡ b → is_rank b (Some k) ≡ true
is_rank-same b k same = eq-eqb k b same

node_rank : (g : PlainGraph) (b : ℕ) → HasRank g b → some_has_rank b g.nodes ≡ true
node_rank g b node =
    let found = option_and_then_parts (λ (x : Node). x.rank) (slice_get g.nodes node.0) b node.2 in
    list_any-from_IsIn (λ (x : Node). is_rank b x.rank) g.nodes found.0 (node.0, found.1) (ap (is_rank b) found.2 ∙ is_rank-same b b refl)

rank_node : (g : PlainGraph) (b : ℕ) → some_has_rank b g.nodes ≡ true → HasRank g b
rank_node g b h =
    let found = list_any_parts (λ (x : Node). is_rank b x.rank) g.nodes h in
    let rank = option_map_or_equal found.1.rank b found.3 in
    (found.0, slice_get_within g.nodes found.0 found.1 found.2, ap (option_and_then (λ (x : Node). x.rank)) found.2 ∙ rank)

-- ---- the cases one after the other

-- a permitted walk of one of the first k cases
abbrev pub IsReachedTo : PlainNet → PlainPolicy → ℕ → ℕ → ℕ → Type 0
IsReachedTo net policy k n b = (r : IsReached net policy n b) × (r.number ≤ k)

-- the bits that are set are the ranks of the first k cases
abbrev pub AreReachedTo : PlainNet → PlainPolicy → ℕ → PlainRows → Type 0
AreReachedTo net policy k ranks = (n b : ℕ) → n ≤ length policy.statements → IsTrue (has_at ranks n b) ↔ IsReachedTo net policy k n b

module _ (net : PlainNet) (policy : PlainPolicy) where
  no_case : (s : PlainStatement) (c : Case) (number : ℕ) → number ≤ 0 → IsCase net policy number s c → ⊥
  no_case s c zero none is = let at = is.case in absurd cc
  no_case s c (suc k) none is = absurd (omega (arith, none))

  case_within : (s : PlainStatement) (c : Case) (number : ℕ) → IsCase net policy number s c → number ≤ length (case_list net policy)
  case_within s c zero is = omega arith
  case_within s c (suc k) is = let within = slice_get_within (case_list net policy) k c is.case in omega (arith, within)

  same_case : (number : ℕ) (s t : PlainStatement) (c d : Case) → IsCase net policy number s c → IsCase net policy number t d → (s ≡ t) × (c ≡ d)
  same_case number s t c d a b =
      let one : c ≡ d = same_Some c d (sym a.case ∙ b.case) in
      (same_Some s t (sym a.statement ∙ ap (λ (x : Case). statement_at policy x.statement) one ∙ b.statement), one)

  pub reached_all : (k : ℕ) (ranks : PlainRows) → k ≡ length (case_list net policy) → AreReachedTo net policy k ranks → AreReached net policy ranks
  reached_all k ranks all are n b within = (
    λ h. ((are n b within).0 h).0,
    λ r. (are n b within).1 (r, let least = case_within r.statement r.case r.number r.is in omega (arith, all, least)),
  )

  -- one more case
  module _ (k : ℕ) (s : PlainStatement) (c : Case) (is : IsCase net policy (k + 1) s c) (g : PlainGraph) (of : (b : ℕ) → HasRank g b ↔ IsRankOfCase net s c b)
      (old new : PlainRows) (before : AreReachedTo net policy k old)
      (bits : (n b : ℕ) → n ≤ length policy.statements → has_at new n b ≡ (has_at old n b || (n == c.statement && some_has_rank b g.nodes))) where
    here : (n b : ℕ) → n ≡ c.statement → IsRankOfCase net s c b → IsReachedTo net policy (k + 1) n b
    here n b row walk = (record { number = k + 1; statement = s; case = c; is = is; of = sym row; reached = walk }, omega arith)

    set : (n b : ℕ) → n ≤ length policy.statements → has_at new n b ≡ true → IsReachedTo net policy (k + 1) n b
    set n b within h = by_bit (or_cases (has_at old n b) (n == c.statement && some_has_rank b g.nodes) (sym (bits n b within) ∙ h))
      where
        by_bit : (has_at old n b ≡ true) ⊎ ((n == c.statement && some_has_rank b g.nodes) ≡ true) → IsReachedTo net policy (k + 1) n b
        by_bit (inl was) = let r = (before n b within).0 was in (r.0, omega (arith, r.1))
        by_bit (inr now) =
            let parts = and_parts (n == c.statement) (some_has_rank b g.nodes) now in
            here n b (eqb-true _ _ parts.0) ((of b).0 (rank_node g b parts.1))

    reached : (n b : ℕ) → n ≤ length policy.statements → IsReachedTo net policy (k + 1) n b → has_at new n b ≡ true
    reached n b within r = bits n b within ∙ by_number (cases_order r.0.number (k + 1))
      where
        old_bit : r.0.number ≤ k → (has_at old n b || (n == c.statement && some_has_rank b g.nodes)) ≡ true
        old_bit less = or_left (has_at old n b) (n == c.statement && some_has_rank b g.nodes) ((before n b within).1 (r.0, less))

        new_bit : r.0.number ≡ k + 1 → (has_at old n b || (n == c.statement && some_has_rank b g.nodes)) ≡ true
        new_bit same =
            let case = same_case (k + 1) r.0.statement s r.0.case c (subst (λ m. IsCase net policy m r.0.statement r.0.case) same r.0.is) is in
            let row : n ≡ c.statement = sym r.0.of ∙ ap (λ (x : Case). x.statement) case.1 in
            let walk = subst (λ (t : PlainStatement). IsRankOfCase net t c b) case.0 (subst (λ (d : Case). IsRankOfCase net r.0.statement d b) case.1 r.0.reached) in
            or_right (has_at old n b) (n == c.statement && some_has_rank b g.nodes)
            (and_from (n == c.statement) (some_has_rank b g.nodes) (eq-eqb _ _ row) (node_rank g b ((of b).1 walk)))

        by_number : (r.0.number ≡ k + 1) ⊎ ((r.0.number < k + 1) ⊎ (k + 1 < r.0.number)) → (has_at old n b || (n == c.statement && some_has_rank b g.nodes)) ≡ true
        by_number (inl same) = new_bit same
        by_number (inr (inl less)) = old_bit (omega (arith, less))
        by_number (inr (inr more)) = absurd (omega (arith, more, r.1))

    pub reached_more : AreReachedTo net policy (k + 1) new
    reached_more n b within = (set n b within, reached n b within)
