-- Each preference of a renewed configuration is above each of the old one.
use Rattle.std.proofs.Common.{◌≡◌, ℕ, zero, suc, ◌<◌, ◌≤◌, true, cond, List, length, Some, sym, ap, ◌∙◌, subst, arith}
use Rattle.std.specs.Prelude.{slice_get}
use Rattle.std.proofs.lemmas.Bool.{lt-ltb}
use Rattle.std.proofs.lemmas.Option.{slice_get_within}
use Rattle.list_law.proofs.Members.{IsIn-flat_map_parts, IsIn-map_parts}
use Rattle.net_base.specs.Network.{IsNet, PlainNet, is_router}
use Rattle.net_base.specs.Locations.{neighbours}
use Rattle.policy_base.specs.CaseNumbers.{OriginsAreRouters}
use Rattle.policy_base.specs.Policies.{PlainPolicy}
use Rattle.graph_base.specs.Graphs.{PlainGraph}
use Rattle.graph_base.specs.Preferences.{number_in}
use Rattle.graph_base.specs.Runs.{has_step, place_of}
use Rattle.graph_base.proofs.StartsAndSteps.{step_nodes}
use Rattle.relation_law.specs.Evidence.{at_routers}
use Rattle.relation_law.specs.Numbers.{number_of}
use Rattle.evidence_base.specs.Made.{PlainCaseEvidence, case_at, number_at}
use Rattle.compile_core.specs.Compiling.{IsEvidenceOfMade}
use Rattle.compile_core.proofs.Known.{IsKnown, case_graph, known_at}
use Rattle.free_tags.specs.Taken.{greatest, pref_of_import, prefs_in, prefs_of_router, prefs_of_session}
use Rattle.free_tags.proofs.Tops.{greatest_is}
use Rattle.evidence_renewal.specs.Laws.{RenewedConfigurationsAreAbove}
use Rattle.evidence_renewal.proofs.Apart.{block_in}
use Rattle.evidence_renewal.proofs.Cases.{renewed_class}
use Rattle.evidence_renewal.proofs.Raising.{raised-in, raised-some}

-- the number of a node at a router isn't 0
some_number : (net : PlainNet) (policy : PlainPolicy) (c : PlainCaseEvidence) → IsKnown net policy c → (n : ℕ) → n < length c.graph.nodes → is_router net (place_of c.graph n) ≡ true
    → 1 ≤ number_at c n
some_number net policy c known n within router =
    let g = known.given.graph in
    let counted = known.is.numbers in
    let inside : n < length g.nodes = subst (λ (h : PlainGraph). n < length h.nodes) (sym known.graph) within in
    let there : is_router net (place_of g n) ≡ true = ap (λ (h : PlainGraph). is_router net (place_of h n)) known.graph ∙ router in
    let number : ℕ → ℕ = number_of (length g.nodes) counted.relation in
    let is : at_routers net g number n ≡ number n = ap {B = ℕ} (λ b. cond b (number n) 0) there in
    let own : number_at c n ≡ number_in known.given.prefs.of n = ap (λ (ns : List ℕ). number_in ns n) (sym known.numbers) in
    omega (arith, own, counted.counts n inside, is)

module _ (net : PlainNet) (policy : PlainPolicy) (cs : List PlainCaseEvidence) (made : IsEvidenceOfMade net policy cs) (rules : IsNet net) (routers : OriginsAreRouters net policy.origins) where
  -- each case is known
  pub known_place : (k : ℕ) (c : PlainCaseEvidence) → slice_get cs k ≡ Some c → IsKnown net policy c
  known_place k c at =
      let one = made.1 in
      known_at net rules policy routers one.accepted one.all one.each k c (ap (λ (es : List PlainCaseEvidence). slice_get es k) (sym one.evidence) ∙ at)

  known_class : (class : ℕ) (c : PlainCaseEvidence) → case_at cs class ≡ Some c → IsKnown net policy c
  known_class zero c at = absurd cc
  known_class (suc k) c at = known_place k c at

pub above : RenewedConfigurationsAreAbove
above net policy old config ds rules kept routers is m n new there =
    let r = IsIn-flat_map_parts prefs_of_router config.routers m new in
    let b = IsIn-flat_map_parts prefs_of_session r.0.sessions m r.2 in
    let i = IsIn-map_parts pref_of_import b.0.imports m b.2 in
    let x = r.1.0 in
    let block = block_in net ds x (neighbours net x) r.0.sessions b.1.0 b.0 (is.lines.routers x r.0 r.1.1).sessions b.1.1 in
    let from = (block.1.imports i.0).0 i.1 in
    let o = renewed_class _ _ is.evidence.compiled ds is.evidence.renewed i.0.class from.case from.step.at_class in
    let c = o.0 in
    let known = known_class net policy is.evidence.compiled is.evidence.made rules routers i.0.class c o.1 in
    let graph = (case_graph net policy c known known.statement known.of).graph in
    let stepped : has_step c.graph from.node from.next ≡ true = subst (λ (g : PlainGraph). has_step g from.node from.next ≡ true) o.2.graph from.step.step in
    let at : place_of c.graph from.next ≡ x = ap (λ (g : PlainGraph). place_of g from.next) (sym o.2.graph) ∙ from.step.to in
    let within : x < length net.routers = omega (arith, slice_get_within config.routers x r.0 r.1.1, is.lines.count) in
    let router : is_router net (place_of c.graph from.next) ≡ true = ap (is_router net) at ∙ lt-ltb x (length net.routers) within in
    let some = some_number net policy c known from.next (step_nodes c.graph from.node from.next graph stepped).1 router in
    let number = raised-in (greatest (prefs_in old)) c.numbers from.case.numbers o.2.numbers from.next in
    let raise = raised-some (greatest (prefs_in old)) (number_at c from.next) some in
    let pref : m ≡ number_at from.case from.next = sym i.2 ∙ from.pref in
    omega (arith, pref, number, raise, greatest_is (prefs_in old) n there)
