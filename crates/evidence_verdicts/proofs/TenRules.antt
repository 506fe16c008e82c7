-- Evidence passes exactly where each of the ten rules holds.
use Rattle.std.proofs.Common.{◌≡◌, ◌⊎◌, ◌↔◌, ℕ, zero, suc, ◌<◌, ◌-◌, false, List, [], ◌∷◌, length, map, take, Some, option_map, slice_get, refl, sym, ap, ◌∙◌, subst, arith, inl, inr}
use Rattle.std.proofs.lemmas.Option.{slice_get-map}
use Rattle.std.proofs.lemmas.Bool.{cases_lt}
use Rattle.std.proofs.Math.Seq.{take-length}
use Rattle.net_base.specs.Network.{PlainNet, is_peer}
use Rattle.net_base.specs.Sets.{holds}
use Rattle.policy_base.specs.declared.case.Case.{Case}
use Rattle.policy_base.specs.Cases.{case_list}
use Rattle.policy_base.specs.Policies.{PlainPolicy, PlainStatement, statement_at}
use Rattle.graph_base.specs.Runs.{place_of}
use Rattle.evidence_law.proofs.FaithfulParts.{faithful_parts}
use Rattle.config_base.specs.Configs.{PlainConfig}
use Rattle.evidence_base.specs.Made.{PlainCaseEvidence, case_at, tag_at, IsConfigOf, AreTags}
use Rattle.evidence_law.specs.Faithful.{HasWalks, HasRank}
use Rattle.evidence_law.specs.Passes.{IsCaseGraph, AreWithin, all_steps, Passes}
use Rattle.evidence_verdicts.specs.declared.rule.CheckRule.{CheckRule}
use Rattle.evidence_verdicts.specs.declared.rule.CheckRule.TheVariants.{Cases, Walks, Ranks, Mixed, PrefRank, PrefStep, PrefLoop, PrefListener, Tags, ConfigDiffers}
use Rattle.evidence_verdicts.specs.Rules.{AtCase, listed_at, IsNodeOf, KeepsTag, Keeps}

-- ---- lists and their cases

within_front : (net : PlainNet) (policy : PlainPolicy) (room k : ℕ) (cs : List Case) → AreWithin net policy room cs → AreWithin net policy room (take k cs)
within_front net policy room zero cs h = tt
within_front net policy room (suc k) [] h = tt
within_front net policy room (suc k) (c ∷ cs) h = (h.0, h.1, h.2, h.3, h.4, h.5, within_front net policy (room - h.1) k cs h.6)

same_lists : {A : Type 0} → (xs ys : List A) → ((k : ℕ) → slice_get xs k ≡ slice_get ys k) → xs ≡ ys
same_lists [] [] h = refl
same_lists [] (y ∷ ys) h = absurd (let e = h 0 in cc)
same_lists (x ∷ xs) [] h = absurd (let e = h 0 in cc)
same_lists {A} (x ∷ xs) (y ∷ ys) h =
    let first : Some x ≡ Some y = h 0 in
    let one : x ≡ y = cc in
    let rest = same_lists xs ys (λ k. h (suc k)) in
    ap (λ z. z ∷ xs) one ∙ ap (λ zs. y ∷ zs) rest

-- the walks of a case's graph, and the rank of each of its nodes
parts_of : (net : PlainNet) (s : PlainStatement) (c : PlainCaseEvidence) → IsCaseGraph net s c
    → HasWalks net s (holds c.case.origins) c.case.external c.graph × ((n : ℕ) → n < length c.graph.nodes → HasRank net s (holds c.case.origins) c.graph n)
parts_of net s c g = (faithful_parts net s (holds c.case.origins) c.case.external c.graph g.graph).0 g.faithful

-- ---- from passing to the rules

module _ (net : PlainNet) (policy : PlainPolicy) (config : PlainConfig) (cs : List PlainCaseEvidence) where
  listed : map (λ (c : PlainCaseEvidence). c.case) cs ≡ case_list net policy → (k : ℕ) → option_map (λ (c : PlainCaseEvidence). c.case) (case_at cs k) ≡ listed_at (case_list net policy) k
  listed e zero = refl
  listed e (suc k) = sym (slice_get-map (λ (c : PlainCaseEvidence). c.case) cs k) ∙ ap (λ l. slice_get l k) e

  module _ (passes : Passes net policy config cs) where
    -- what is said of each case
    at_each : (Says : PlainStatement → PlainCaseEvidence → Type 0)
        → ((k : ℕ) (c : PlainCaseEvidence) (s : PlainStatement) → slice_get cs k ≡ Some c → statement_at policy c.case.statement ≡ Some s → Says s c)
        → (k : ℕ) → AtCase policy cs k Says
    at_each Says all zero = λ c s at of_statement. absurd cc
    at_each Says all (suc k) = λ c s at of_statement. all k c s at of_statement

    tag_at_node : (k n : ℕ) → KeepsTag net cs k n
    tag_at_node zero n = record {
      at_router = λ c at r. let no = at.0 in absurd cc;
      at_peer = λ c at p. let no = at.0 in absurd cc;
      new = λ j m d c before at. let no = at.0 in absurd cc;
    }
    tag_at_node (suc k) n = record {
      at_router = λ c at r. passes.made.tags.at_routers k n c at.0 at.1 r;
      at_peer = λ c at p. passes.made.tags.at_peers k n c at.0 at.1 p;
      new = new_tag;
    }
      where
        new_tag : (j m : ℕ) (d c : PlainCaseEvidence) → IsNodeOf cs j m d → IsNodeOf cs (suc k) n c → (j < suc k) ⊎ ((j ≡ suc k) × (m < n))
            → is_peer net (place_of d.graph m) ≡ false → place_of d.graph m ≡ place_of c.graph n → tag_at d m ≡ tag_at c n → ⊥
        new_tag zero m d c before at order r p t = let no = before.0 in absurd cc
        new_tag (suc j) m d c before at order r p t =
            let one = passes.made.tags.differ j k m n d c before.0 at.0 before.1 at.1 r p t in
            elim order [ inl lt ↦ omega (arith, lt, one.0) | inr e ↦ omega (arith, e.1, one.1) ]

    keeps : (r : CheckRule) → Keeps r net policy cs
    keeps Cases k m n = record { same = listed passes.made.cases k; within = within_front net policy all_steps k (case_list net policy) passes.limits }
    keeps Walks k m n = at_each _ (λ i c s at of_statement. ((passes.made.graphs i c s at of_statement).graph, (parts_of net s c (passes.made.graphs i c s at of_statement)).0)) k
    keeps Ranks k m n = at_each _ (λ i c s at of_statement within. (parts_of net s c (passes.made.graphs i c s at of_statement)).1 m within) k
    keeps Mixed k m n = at_each _ (λ i c s at of_statement within claimed. (passes.made.graphs i c s at of_statement).ranked m within claimed) k
    keeps PrefRank k m n = at_each _ (λ i c s at of_statement. (passes.rules i c s at of_statement).rank m n) k
    keeps PrefStep k m n = at_each _ (λ i c s at of_statement. (passes.rules i c s at of_statement).step m n) k
    keeps PrefLoop k m n = at_each _ (λ i c s at of_statement. (passes.rules i c s at of_statement).loop m n) k
    keeps PrefListener k m n = at_each _ (λ i c s at of_statement. (passes.rules i c s at of_statement).listener m n) k
    keeps Tags k m n = tag_at_node k m
    keeps ConfigDiffers k m n = tt

-- ---- and back

module _ (net : PlainNet) (policy : PlainPolicy) (cs : List PlainCaseEvidence) (keep : (r : CheckRule) → Keeps r net policy cs) where
  pub all_cases : map (λ (c : PlainCaseEvidence). c.case) cs ≡ case_list net policy
  all_cases = same_lists _ _ (λ k. slice_get-map (λ (c : PlainCaseEvidence). c.case) cs k ∙ (keep Cases (suc k) 0 0).same)

  graph_of : (k : ℕ) (c : PlainCaseEvidence) (s : PlainStatement) → slice_get cs k ≡ Some c → statement_at policy c.case.statement ≡ Some s → IsCaseGraph net s c
  graph_of k c s at of_statement =
      let walks = keep Walks (suc k) 0 0 c s at of_statement in
      record {
        graph = walks.0;
        faithful = (faithful_parts net s (holds c.case.origins) c.case.external c.graph walks.0).1 (walks.1, λ n within. keep Ranks (suc k) n 0 c s at of_statement within);
        ranked = λ n within. keep Mixed (suc k) n 0 c s at of_statement within;
      }

  pub tags : AreTags net cs
  tags = record {
    at_routers = λ k n c at within r. (keep Tags (suc k) n 0).at_router c (at, within) r;
    at_peers = λ k n c at within p. (keep Tags (suc k) n 0).at_peer c (at, within) p;
    differ = differ_by;
  }
    where
      differ_by : (j k m n : ℕ) (c d : PlainCaseEvidence) → slice_get cs j ≡ Some c → slice_get cs k ≡ Some d → m < length c.graph.nodes → n < length d.graph.nodes
          → is_peer net (place_of c.graph m) ≡ false → place_of c.graph m ≡ place_of d.graph n → tag_at c m ≡ tag_at d n → (j ≡ k) × (m ≡ n)
      differ_by j k m n c d at_j at_k in_c in_d r p t = elim (cases_lt j k) [
        | inl lt ↦ absurd ((keep Tags (suc k) n 0).new (suc j) m c d (at_j, in_c) (at_k, in_d) (inl (omega (arith, lt))) r p t)
        | inr le ↦ elim (cases_lt k j) [
          | inl lt ↦ absurd ((keep Tags (suc j) m 0).new (suc k) n d c (at_k, in_d) (at_j, in_c) (inl (omega (arith, lt))) (subst (λ l. is_peer net l ≡ false) p r) (sym p) (sym t))
          | inr ge ↦
              let one : j ≡ k = omega (arith, le, ge) in
              elim (cases_lt m n) [
                | inl lt ↦ absurd ((keep Tags (suc k) n 0).new (suc j) m c d (at_j, in_c) (at_k, in_d) (inr (ap suc one, lt)) r p t)
                | inr le_m ↦ elim (cases_lt n m) [
                  | inl lt ↦ absurd ((keep Tags (suc j) m 0).new (suc k) n d c (at_k, in_d) (at_j, in_c) (inr (ap suc (sym one), lt)) (subst (λ l. is_peer net l ≡ false) p r) (sym p) (sym t))
                  | inr ge_m ↦ (one, omega (arith, le_m, ge_m))
                ]
              ]
        ]
      ]

  passes_back : (config : PlainConfig) → IsConfigOf net policy cs config → Passes net policy config cs
  passes_back config lines = record {
    limits = subst (AreWithin net policy all_steps) (take-length (case_list net policy)) (keep Cases (length (case_list net policy)) 0 0).within;
    made = record { cases = all_cases; graphs = graph_of; tags = tags; lines = lines };
    rules = λ k c s at of_statement. record {
      rank = λ m n. keep PrefRank (suc k) m n c s at of_statement;
      step = λ m n. keep PrefStep (suc k) m n c s at of_statement;
      loop = λ m n. keep PrefLoop (suc k) m n c s at of_statement;
      listener = λ m n. keep PrefListener (suc k) m n c s at of_statement;
    };
  }

pub passing : (net : PlainNet) (policy : PlainPolicy) (config : PlainConfig) (cs : List PlainCaseEvidence)
    → Passes net policy config cs ↔ ((r : CheckRule) → Keeps r net policy cs) × IsConfigOf net policy cs config
passing net policy config cs = (λ p. (keeps net policy config cs p, p.made.lines), λ h. passes_back net policy cs h.0 config h.1)
