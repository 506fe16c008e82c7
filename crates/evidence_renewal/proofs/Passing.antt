-- Renewed evidence passes.
use Rattle.std.proofs.Common.{◌≡◌, ℕ, ◌<◌, ◌≤◌, false, List, length, Some, sym, ap, ◌∙◌, subst, arith, IsTrue}
use Rattle.std.specs.Prelude.{slice_get}
use Rattle.std.proofs.lemmas.Bool.{and_parts}
use Rattle.net_base.specs.declared.numbers.Tag.{Tag}
use Rattle.net_base.specs.Network.{PlainNet, is_peer, asn_of}
use Rattle.net_base.specs.Numbers.{is_router_as, is_tag, no_tag}
use Rattle.net_base.proofs.NumberRanges.{tag-made, tag-range}
use Rattle.policy_base.specs.declared.case.Case.{Case}
use Rattle.policy_base.specs.Policies.{PlainPolicy, PlainStatement, statement_at}
use Rattle.graph_base.specs.Graphs.{PlainGraph}
use Rattle.graph_base.specs.Runs.{place_of}
use Rattle.graph_base.specs.Rules.{MeetsRules}
use Rattle.config_base.specs.Configs.{PlainConfig}
use Rattle.evidence_base.specs.Made.{PlainCaseEvidence, AreTags, IsConfigOf, number_at, tag_at}
use Rattle.evidence_law.specs.Passes.{IsCaseGraph, IsClaimed, Passes}
use Rattle.free_tags.specs.Free.{IsNewTag, free_count}
use Rattle.free_tags.proofs.Counting.{value_is}
use Rattle.evidence_renewal.specs.Laws.{RenewedEvidencePasses}
use Rattle.evidence_renewal.specs.Renewed.{AreRenewedCases, IsRenewedCase, raised}
use Rattle.evidence_renewal.proofs.Cases.{new_at, new_none, new_value, renewed_at, same_cases}
use Rattle.evidence_renewal.proofs.Raising.{raised-down, raised-in, raised-up, rules-alike}

module _ (taken : List Tag) (by : ℕ) (net : PlainNet) where
  -- ---- one case

  module _ (c d : PlainCaseEvidence) (is : IsRenewedCase taken by c d) where
    pub node_there : (n : ℕ) → n < length d.graph.nodes → n < length c.graph.nodes
    node_there n within = subst (λ (g : PlainGraph). n < length g.nodes) is.graph within

    pub placed : (n : ℕ) → place_of d.graph n ≡ place_of c.graph n
    placed n = ap (λ (g : PlainGraph). place_of g n) is.graph

    pub tag_new : (n : ℕ) → IsNewTag taken (tag_at c n) (tag_at d n)
    tag_new n = new_at taken c.tags d.tags is.tags n

    pub case_graph : (s : PlainStatement) → IsCaseGraph net s c → IsCaseGraph net s d
    case_graph s of =
        let rest : Case → PlainGraph → PlainCaseEvidence = λ x g. record { case = x; graph = g; numbers = d.numbers; tags = d.tags } in
        let begun : IsCaseGraph net s (rest c.case c.graph) = record { graph = of.graph; faithful = of.faithful; ranked = of.ranked } in
        subst (λ (g : PlainGraph). IsCaseGraph net s (rest d.case g)) (sym is.graph) (subst (λ (x : Case). IsCaseGraph net s (rest x c.graph)) (sym is.case) begun)

    pub rules : (s : PlainStatement) → MeetsRules net (IsClaimed net s c.case) c.case.external c.graph (number_at c) → MeetsRules net (IsClaimed net s d.case) d.case.external d.graph (number_at d)
    rules s meets =
        let number : (n : ℕ) → number_at d n ≡ raised by (number_at c n) = raised-in by c.numbers d.numbers is.numbers in
        let up : (a b : ℕ) → number_at c a ≤ number_at c b → number_at d a ≤ number_at d b = λ a b less.
        omega (arith, number a, number b, raised-up by (number_at c a) (number_at c b) less) in
        let down : (a b : ℕ) → number_at d a ≤ number_at d b → number_at c a ≤ number_at c b = λ a b less.
        raised-down by (number_at c a) (number_at c b) (omega (arith, number a, number b, less)) in
        let alike = rules-alike net (IsClaimed net s c.case) c.case.external c.graph (number_at c) (number_at d) up down meets in
        subst (λ (g : PlainGraph). MeetsRules net (IsClaimed net s d.case) d.case.external g (number_at d)) (sym is.graph)
        (subst (λ (x : Case). MeetsRules net (IsClaimed net s x) x.external c.graph (number_at d)) (sym is.case) alike)

  -- ---- all

  module _ (cs ds : List PlainCaseEvidence) (are : AreRenewedCases taken by cs ds) (tags : AreTags net cs) where
    old_peer : (c d : PlainCaseEvidence) → IsRenewedCase taken by c d → (n : ℕ) → is_peer net (place_of d.graph n) ≡ false → is_peer net (place_of c.graph n) ≡ false
    old_peer c d is n no_peer = ap (is_peer net) (sym (placed c d is n)) ∙ no_peer

    at_routers : (k n : ℕ) (d : PlainCaseEvidence) → slice_get ds k ≡ Some d → n < length d.graph.nodes → is_peer net (place_of d.graph n) ≡ false
        → IsTrue (is_tag (tag_at d n)) × ((tag_at d n).asn ≡ asn_of net (place_of d.graph n))
    at_routers k n d at within no_peer =
        let o = renewed_at taken by cs ds are k d at in
        let c = o.0 in
        let old = tags.at_routers k n c o.1 (node_there c d o.2 n within) (old_peer c d o.2 n no_peer) in
        let range = tag-range (tag_at c n) old.0 in
        let new = new_value taken (tag_at c n) (tag_at d n) (tag_new c d o.2 n) range.2 in
        let router : IsTrue (is_router_as (tag_at d n).asn) = ap is_router_as new.0 ∙ (and_parts (is_router_as (tag_at c n).asn) _ old.0).0 in (
          tag-made (tag_at d n) router (value_is taken (tag_at c n).asn (tag_at c n).value (tag_at d n).value new.1 range.2) new.1.small,
          new.0 ∙ old.1 ∙ ap (asn_of net) (sym (placed c d o.2 n)),
        )

    at_peers : (k n : ℕ) (d : PlainCaseEvidence) → slice_get ds k ≡ Some d → n < length d.graph.nodes → IsTrue (is_peer net (place_of d.graph n)) → tag_at d n ≡ no_tag
    at_peers k n d at within peer =
        let o = renewed_at taken by cs ds are k d at in
        let c = o.0 in
        let old = tags.at_peers k n c o.1 (node_there c d o.2 n within) (subst (λ l. IsTrue (is_peer net l)) (placed c d o.2 n) peer) in
        new_none taken (tag_at d n) (subst (λ (t : Tag). IsNewTag taken t (tag_at d n)) old (tag_new c d o.2 n))

    differ : (j k m n : ℕ) (d e : PlainCaseEvidence) → slice_get ds j ≡ Some d → slice_get ds k ≡ Some e → m < length d.graph.nodes → n < length e.graph.nodes
        → is_peer net (place_of d.graph m) ≡ false → place_of d.graph m ≡ place_of e.graph n → tag_at d m ≡ tag_at e n → (j ≡ k) × (m ≡ n)
    differ j k m n d e at_j at_k within_m within_n no_peer same one =
        let o = renewed_at taken by cs ds are j d at_j in
        let p = renewed_at taken by cs ds are k e at_k in
        let c = o.0 in
        let b = p.0 in
        let there : place_of c.graph m ≡ place_of b.graph n = sym (placed c d o.2 m) ∙ same ∙ placed b e p.2 n in
        let no_peer_c = old_peer c d o.2 m no_peer in
        let no_peer_b : is_peer net (place_of b.graph n) ≡ false = ap (is_peer net) (sym there) ∙ no_peer_c in
        let old_c = tags.at_routers j m c o.1 (node_there c d o.2 m within_m) no_peer_c in
        let old_b = tags.at_routers k n b p.1 (node_there b e p.2 n within_n) no_peer_b in
        let new_c = new_value taken (tag_at c m) (tag_at d m) (tag_new c d o.2 m) (tag-range (tag_at c m) old_c.0).2 in
        let new_b = new_value taken (tag_at b n) (tag_at e n) (tag_new b e p.2 n) (tag-range (tag_at b n) old_b.0).2 in
        let asn : (tag_at c m).asn ≡ (tag_at b n).asn = sym new_c.0 ∙ ap (λ (t : Tag). t.asn) one ∙ new_b.0 in
        let value : (tag_at c m).value ≡ (tag_at b n).value = sym new_c.1.count ∙ ap (λ a. free_count taken a (tag_at d m).value) asn
        ∙ ap (λ (t : Tag). free_count taken (tag_at b n).asn t.value) one ∙ new_b.1.count in
        let A : ℕ → Tag = λ a. record { asn = a; value = (tag_at c m).value } in
        let V : ℕ → Tag = λ v. record { asn = (tag_at b n).asn; value = v } in
        tags.differ j k m n c b o.1 p.1 (node_there c d o.2 m within_m) (node_there b e p.2 n within_n) no_peer_c there (ap A asn ∙ ap V value)

    pub are_tags : AreTags net ds
    are_tags = record { at_routers = at_routers; at_peers = at_peers; differ = differ }

-- what passes with one configuration, renewed, passes with the one that is made of it
pub renewed_passes : (taken : List Tag) (by : ℕ) (net : PlainNet) (policy : PlainPolicy) (old config : PlainConfig) (cs ds : List PlainCaseEvidence) → Passes net policy old cs
    → AreRenewedCases taken by cs ds → IsConfigOf net policy ds config → Passes net policy config ds
renewed_passes taken by net policy old config cs ds passes are lines =
    let has : (k : ℕ) (d : PlainCaseEvidence) → slice_get ds k ≡ Some d → (c : PlainCaseEvidence) × (slice_get cs k ≡ Some c) × IsRenewedCase taken by c d = renewed_at taken by cs ds are in
    let stated : (s : PlainStatement) (c d : PlainCaseEvidence) → IsRenewedCase taken by c d → statement_at policy d.case.statement ≡ Some s → statement_at policy c.case.statement ≡ Some s
    = λ s c d is of. ap (λ (x : Case). statement_at policy x.statement) (sym is.case) ∙ of in
    record {
      limits = passes.limits;
      made = record {
        cases = same_cases taken by cs ds are ∙ passes.made.cases;
        graphs = λ k d s at of.
            let o = has k d at in
            case_graph taken by net o.0 d o.2 s (passes.made.graphs k o.0 s o.1 (stated s o.0 d o.2 of));
        tags = are_tags taken by net cs ds are passes.made.tags;
        lines = lines;
      };
      rules = λ k d s at of.
          let o = has k d at in
          rules taken by net o.0 d o.2 s (passes.rules k o.0 s o.1 (stated s o.0 d o.2 of));
    }

pub passing : RenewedEvidencePasses
passing net policy old config ds is =
    renewed_passes _ _ net policy is.evidence.made.0 config is.evidence.compiled ds is.evidence.made.2 is.evidence.renewed is.lines
