-- The first rule that fails in a case.
use Rattle.std.proofs.Common.{◌≡◌, ◌↔◌, ℕ, ◌+◌, ◌<◌, ◌≤◌, Bool, true, not, List, length, Option, Some, None, sym, ap, subst, ◌∙◌, arith, inl, inr}
use Rattle.std.specs.Prelude.{IsSome, IsTrue, option_map}
use Rattle.std.proofs.lemmas.Bool.{and_parts, both_ways, cases_Bool, cases_lt, not-true}
use Rattle.std.proofs.lemmas.Option.{same_Some}
use Rattle.net_base.specs.declared.loc.LocSet.{LocSet}
use Rattle.net_base.specs.Network.{PlainNet, IsNet, is_peer}
use Rattle.net_base.specs.Sets.{holds}
use Rattle.net_base.proofs.Links.{linked_known}
use Rattle.net_base.proofs.RoutersAndPeers.{router_or_peer}
use Rattle.policy_base.specs.Policies.{PlainPolicy, PlainStatement, statement_at}
use Rattle.graph_base.specs.Graphs.{IsGraph, PlainGraph}
use Rattle.graph_base.specs.Ranked.{IsRankedRouter}
use Rattle.graph_base.specs.Rules.{IsWellFormed, KeepsListener, KeepsLoop, KeepsRank, KeepsStep}
use Rattle.graph_base.specs.Runs.{has_step, is_listener, place_of, rank_at}
use Rattle.graph_base.proofs.WellFormed.{heard_at_peers, linked_parts}
use Rattle.evidence_base.specs.Made.{PlainCaseEvidence, number_at}
use Rattle.evidence_law.specs.Faithful.{HasRank, HasWalks}
use Rattle.evidence_law.specs.Passes.{IsClaimed}
use Rattle.walk_check.specs.Firsts.{IsFirstOrNone}
use Rattle.preference_check.specs.FirstPair.{IsFirstPair, IsFirstPairOrNone}
use Rattle.evidence_verdicts.specs.declared.rule.CheckRule.{CheckRule}
use Rattle.evidence_verdicts.specs.declared.rule.CheckRule.TheVariants.{Mixed, PrefListener, PrefLoop, PrefRank, PrefStep, Ranks, Walks}
use Rattle.evidence_verdicts.specs.Rules.{AtCase, KeepsAt, rule_number}
use Rattle.evidence_verdicts.proofs.OneVerdict.{rule_of, rule_of-number}
use Rattle.evidence_check.specs.declared.case_rules.Fault.{Fault}
use Rattle.evidence_check.specs.CaseFaults.{IsFaultFrom, IsFirstFault, KeepsIn}
use Rattle.evidence_check.specs.CaseRules.{AreClaimedWhereRanked, IsOfCase, LeadsToRouters}

pub same_rule : (r q : CheckRule) → rule_number r ≡ rule_number q → r ≡ q
same_rule r q e = sym (rule_of-number r) ∙ ap rule_of e ∙ rule_of-number q

-- in a well-formed graph steps to nodes that don't hear lead to routers
pub leads_to_routers : (net : PlainNet) (origin : ℕ → Bool) (external : Bool) (g : PlainGraph) → IsNet net → IsGraph g → IsWellFormed net origin external g → LeadsToRouters net g
leads_to_routers net origin external g rules graph formed m t step =
    let parts = and_parts (has_step g m t) (not (is_listener g t)) step in
    let link = linked_parts net g m t (formed.links m t parts.0) in
    let there = linked_known net (place_of g m) (place_of g t) rules link.0 in
    elim (cases_Bool (is_peer net (place_of g t))) [
      | inl peer ↦ absurd (both_ways _ (not-true _ parts.1) (heard_at_peers net origin external g graph formed m t parts.0 peer))
      | inr off ↦ router_or_peer net (place_of g t) there.1 off
    ]

module _ (net : PlainNet) (policy : PlainPolicy) (cs : List PlainCaseEvidence) (k : ℕ) where
  pub stops : (q : CheckRule) (pair : ℕ × ℕ) → rule_number q < 9 → IsFirstPair (KeepsAt q net policy cs k) pair
      → IsFirstFault (rule_number q) net policy cs k (record { rule = q; first = pair.0; second = pair.1 })
  stops q pair most first = record { least = omega arith; most = most; earlier = λ r least less. absurd (omega (arith, least, less)); first = record { fails = first.fails; before = first.before } }

  kept_or_later : (q : CheckRule) → KeepsIn q net policy cs k → (r : CheckRule) → rule_number q ≤ rule_number r
      → (rule_number q + 1 ≤ rule_number r → KeepsIn r net policy cs k) → KeepsIn r net policy cs k
  kept_or_later q kept r least later = elim (cases_lt (rule_number q) (rule_number r)) [
    | inl lt ↦ later (omega (arith, lt))
    | inr le ↦ subst (λ p. KeepsIn p net policy cs k) (same_rule q r (omega (arith, least, le))) kept
  ]

  pub passes : (q : CheckRule) → KeepsIn q net policy cs k → (o : Option Fault) → IsFaultFrom (rule_number q + 1) net policy cs k o → IsFaultFrom (rule_number q) net policy cs k o
  passes q kept None h = λ r least most. kept_or_later q kept r least (λ later. h r later most)
  passes q kept (Some f) h = record {
    least = let more = h.least in omega (arith, more);
    most = h.most;
    earlier = λ r least less. kept_or_later q kept r least (λ later. h.earlier r later less);
    first = h.first;
  }

  pub none_left : IsFaultFrom 9 net policy cs k None
  none_left r least most = absurd (omega (arith, least, most))

  by_pairs : (q : CheckRule) (Pair : ℕ → ℕ → Type 0) → ((m n : ℕ) → Pair m n → KeepsAt q net policy cs k m n) → ((m n : ℕ) → KeepsAt q net policy cs k m n → Pair m n)
      → (o : Option (ℕ × ℕ)) → IsFirstPairOrNone Pair o → IsFirstPairOrNone (KeepsAt q net policy cs k) o
  by_pairs q Pair to back None h = λ m n. to m n (h m n)
  by_pairs q Pair to back (Some p) h = record { fails = λ keeps. h.fails (back p.0 p.1 keeps); before = λ m n e. to m n (h.before m n e) }

  by_nodes : (q : CheckRule) (Has : ℕ → Type 0) (count : ℕ) → ((m n : ℕ) → (m < count → Has m) → KeepsAt q net policy cs k m n) → ((m n : ℕ) → KeepsAt q net policy cs k m n → m < count → Has m)
      → (o : Option ℕ) → IsFirstOrNone Has count o → IsFirstPairOrNone (KeepsAt q net policy cs k) (option_map (λ n. (n, 0)) o)
  by_nodes q Has count to back None h = λ m n. to m n (h m)
  by_nodes q Has count to back (Some p) h = record {
    fails = λ keeps. h.1 (back p 0 keeps h.0);
    before = λ m n e. elim e [ inl lt ↦ to m n (λ _. h.2 m lt) | inr same ↦ absurd (let none = same.1 in omega (arith, none)) ];
  }

  module _ (s : PlainStatement) (c : PlainCaseEvidence) (of : IsOfCase policy cs k s c) where
    at_case : (Says : PlainStatement → PlainCaseEvidence → Type 0) → Says s c → AtCase policy cs k Says
    at_case Says h d t at statement =
        let one : c ≡ d = same_Some c d (sym of.at ∙ at) in
        let two : s ≡ t = same_Some s t (sym of.statement ∙ ap (λ (x : PlainCaseEvidence). statement_at policy x.case.statement) one ∙ statement) in
        subst (λ (x : PlainStatement). Says x d) two (subst (Says s) one h)

    pub walks_kept : IsGraph c.graph → HasWalks net s (holds c.case.origins) c.case.external c.graph → KeepsIn Walks net policy cs k
    walks_kept graph walks = λ m n. at_case (λ t d. IsGraph d.graph × HasWalks net t (holds d.case.origins) d.case.external d.graph) (graph, walks)

    pub walks_first : (HasWalks net s (holds c.case.origins) c.case.external c.graph → ⊥) → IsFirstPair (KeepsAt Walks net policy cs k) (0, 0)
    walks_first off = record {
      fails = λ keeps. off (keeps c s of.at of.statement).1;
      before = λ m n e. elim e [ inl lt ↦ absurd (omega (arith, lt)) | inr same ↦ absurd (let none = same.1 in omega (arith, none)) ];
    }

    pub ranks_first : (o : Option ℕ) → IsFirstOrNone (HasRank net s (holds c.case.origins) c.graph) (length c.graph.nodes) o
        → IsFirstPairOrNone (KeepsAt Ranks net policy cs k) (option_map (λ n. (n, 0)) o)
    ranks_first = by_nodes Ranks (HasRank net s (holds c.case.origins) c.graph) (length c.graph.nodes)
        (λ m n h. at_case (λ t d. m < length d.graph.nodes → HasRank net t (holds d.case.origins) d.graph m) h) (λ m n keeps. keeps c s of.at of.statement)

    pub mixed_first : (o : Option ℕ)
        → IsFirstOrNone (λ n. IsClaimed net s c.case (place_of c.graph n) → IsSome (rank_at c.graph n)) (length c.graph.nodes) o
        → IsFirstPairOrNone (KeepsAt Mixed net policy cs k) (option_map (λ n. (n, 0)) o)
    mixed_first = by_nodes Mixed (λ n. IsClaimed net s c.case (place_of c.graph n) → IsSome (rank_at c.graph n)) (length c.graph.nodes)
        (λ m n h. at_case (λ t d. m < length d.graph.nodes → IsClaimed net t d.case (place_of d.graph m) → IsSome (rank_at d.graph m)) h) (λ m n keeps. keeps c s of.at of.statement)

    pub rank_first : AreClaimedWhereRanked net s c → (ranked : LocSet) → ((l : ℕ) → IsTrue (holds ranked l) ↔ IsRankedRouter net c.graph l) → (o : Option (ℕ × ℕ))
        → IsFirstPairOrNone (KeepsRank net (λ l. IsTrue (holds ranked l)) c.graph (number_at c)) o → IsFirstPairOrNone (KeepsAt PrefRank net policy cs k) o
    rank_first claims ranked are = by_pairs PrefRank (KeepsRank net (λ l. IsTrue (holds ranked l)) c.graph (number_at c))
        (λ m n h. at_case (λ t d. KeepsRank net (IsClaimed net t d.case) d.graph (number_at d) m n) (λ i over there rank. h i over (from (place_of c.graph n) there) rank))
        (λ m n keeps. λ i over there rank. keeps c s of.at of.statement i over (to (place_of c.graph n) there) rank)
      where
        to : (l : ℕ) → holds ranked l ≡ true → IsClaimed net s c.case l
        to l h = (claims l).0 ((are l).0 h)

        from : (l : ℕ) → IsClaimed net s c.case l → holds ranked l ≡ true
        from l claimed = (are l).1 ((claims l).1 claimed)

    pub step_first : (o : Option (ℕ × ℕ)) → IsFirstPairOrNone (KeepsStep net c.graph (number_at c)) o → IsFirstPairOrNone (KeepsAt PrefStep net policy cs k) o
    step_first = by_pairs PrefStep (KeepsStep net c.graph (number_at c)) (λ m n h. at_case (λ t d. KeepsStep net d.graph (number_at d) m n) h) (λ m n keeps. keeps c s of.at of.statement)

    pub loop_first : (o : Option (ℕ × ℕ)) → IsFirstPairOrNone (KeepsLoop net c.graph (number_at c)) o → IsFirstPairOrNone (KeepsAt PrefLoop net policy cs k) o
    loop_first = by_pairs PrefLoop (KeepsLoop net c.graph (number_at c)) (λ m n h. at_case (λ t d. KeepsLoop net d.graph (number_at d) m n) h) (λ m n keeps. keeps c s of.at of.statement)

    pub listener_first : (o : Option (ℕ × ℕ)) → IsFirstPairOrNone (KeepsListener net c.case.external c.graph (number_at c)) o → IsFirstPairOrNone (KeepsAt PrefListener net policy cs k) o
    listener_first =
        by_pairs PrefListener (KeepsListener net c.case.external c.graph (number_at c))
        (λ m n h. at_case (λ t d. KeepsListener net d.case.external d.graph (number_at d) m n) h) (λ m n keeps. keeps c s of.at of.statement)
