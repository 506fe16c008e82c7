-- Cases that are accepted one after the other are within the limits.
use Rattle.std.proofs.Common.{◌≡◌, ℕ, suc, ◌+◌, ◌-◌, ◌*◌, ◌<◌, ◌≤◌, ◌^◌, Bool, List, [], ◌∷◌, length, Some, slice_get, refl, ap, subst, arith, length-append, inl, inr}
use Rattle.std.proofs.lemmas.Bool.{cases_Bool}
use Rattle.std.proofs.lemmas.List.Concat.{flat_map-cons}
use Rattle.net_base.specs.Network.{PlainNet}
use Rattle.policy_base.specs.declared.case.Case.{Case}
use Rattle.policy_base.specs.Cases.{case_list}
use Rattle.policy_base.specs.Policies.{IsPolicy, PlainPolicy, PlainStatement}
use Rattle.graph_base.specs.declared.graph.Node.{Node}
use Rattle.graph_base.specs.Graphs.{PlainGraph}
use Rattle.reach_prune.specs.Trimmed.{nodes_kept}
use Rattle.node_quotient.specs.Quotient.{is_least}
use Rattle.config_maker.proofs.CaseClasses.{case_count}
use Rattle.tag_assign.specs.Tagging.{all_nodes}
use Rattle.evidence_law.specs.Passes.{AreWithin, all_steps}
use Rattle.graph_law.proofs.Counted.{built_walked}
use Rattle.policy_base.proofs.KnownCases.{case_known}
use Rattle.case_evidence.specs.declared.accepted.AcceptedCase.{AcceptedCase}
use Rattle.case_evidence.specs.Accepted.{IsAccepted}
use Rattle.compile_core.specs.Compiling.{AreAccepted, AreAcceptedFrom, graphs_of}
use Rattle.compile_core.proofs.OneByOne.{there}

module _ (net : PlainNet) (policy : PlainPolicy) where
  from_accepted : (k room : ℕ) (accepted : List AcceptedCase) (cs : List Case) → length accepted ≡ length cs
      → ((i : ℕ) (c : Case) → slice_get cs i ≡ Some c → slice_get (case_list net policy) (k + i) ≡ Some c)
      → AreAcceptedFrom net policy (suc k) room accepted → AreWithin net policy room cs
  from_accepted k room [] [] len places each = tt
  from_accepted k room [] (c ∷ cs) len places each = absurd (omega (arith, len))
  from_accepted k room (a ∷ later) [] len places each = absurd (omega (arith, len))
  from_accepted k room (a ∷ later) (c ∷ cs) len places each =
      let here : k + 0 ≡ k = omega arith in
      let at : slice_get (case_list net policy) k ≡ Some c = subst (λ n. slice_get (case_list net policy) n ≡ Some c) here (places 0 c refl) in
      let known = case_known net policy k c at in
      let s = known.statement.0 in
      let is = each.0 s c (record { case = at; statement = known.statement.1 }) in
      let given = is.graph.graph in
      let steps = length given.0.steps in
      let within = given.1.within in
      let used : a.used ≡ steps = given.2 in
      let next : suc k + 1 ≡ suc (suc k) = omega arith in
      let later_each : AreAcceptedFrom net policy (suc (suc k)) (room - steps) later
      = subst (λ n. AreAcceptedFrom net policy n (room - steps) later) next (subst (λ u. AreAcceptedFrom net policy (suc k + 1) (room - u) later) used each.1) in
      let later_places : (i : ℕ) (d : Case) → slice_get cs i ≡ Some d → slice_get (case_list net policy) (suc k + i) ≡ Some d
      = λ i d e. let shift : k + suc i ≡ suc k + i = omega arith in subst (λ n. slice_get (case_list net policy) n ≡ Some d) shift (places (suc i) d e) in
      (s, steps, known.statement.1, within.ranks, built_walked net room s c given.0 within, within.steps, from_accepted (suc k) (room - steps) later cs (omega (arith, len)) later_places later_each)

pub made_within : (net : PlainNet) (policy : PlainPolicy) (accepted : List AcceptedCase) → length accepted ≡ length (case_list net policy)
    → AreAccepted net policy accepted → AreWithin net policy all_steps (case_list net policy)
made_within net policy accepted len each =
    from_accepted net policy 0 all_steps accepted (case_list net policy) len
    (λ i c e. let same : i ≡ 0 + i = omega arith in subst (λ n. slice_get (case_list net policy) n ≡ Some c) same e) each

-- ---- nodes

kept_nodes : (keep : ℕ → Bool) (k : ℕ) (nodes : List Node) → length (nodes_kept keep k nodes) ≤ length nodes
kept_nodes keep k [] = omega arith
kept_nodes keep k (node ∷ nodes) = elim (cases_Bool (keep k)) [
  | inl t ↦ rw t (omega (arith, kept_nodes keep (k + 1) nodes))
  | inr t ↦ rw t (omega (arith, kept_nodes keep (k + 1) nodes))
]

-- the graph of an accepted case has no more nodes than the one that was built
accepted_nodes : (net : PlainNet) (room : ℕ) (s : PlainStatement) (c : Case) (a : AcceptedCase) → IsAccepted net room s c a → length a.graph.nodes ≤ 4096
accepted_nodes net room s c a is =
    let built = is.graph.graph.0 in
    let made = is.graph.graph.1 in
    let keep = made.trimmed.0 in
    let trimmed : length is.graph.trimmed.nodes ≡ length (nodes_kept keep 0 built.nodes) = ap (λ (g : PlainGraph). length g.nodes) made.trimmed.2 in
    let first = is_least is.graph.quotient.0 in
    let joined : length a.graph.nodes ≡ length (nodes_kept first 0 is.graph.trimmed.nodes) = ap (λ (g : PlainGraph). length g.nodes) is.graph.quotient.2 in
    omega (arith, made.within.states, kept_nodes keep 0 built.nodes, trimmed, kept_nodes first 0 is.graph.trimmed.nodes, joined)

nodes_from : (net : PlainNet) (policy : PlainPolicy) (j room : ℕ) (accepted : List AcceptedCase) → AreAcceptedFrom net policy (j + 1) room accepted
    → j + length accepted ≤ length (case_list net policy)
    → length (all_nodes (graphs_of accepted)) ≤ length accepted * 4096
nodes_from net policy j room [] each within = omega arith
nodes_from net policy j room (a ∷ later) each within =
    let case = there net policy j (j + 1) (omega (arith, within)) refl in
    let here = accepted_nodes net room case.0 case.1 a (each.0 case.0 case.1 case.2) in
    let rest = nodes_from net policy (j + 1) (room - a.used) later each.1 (omega (arith, within)) in
    let both = ap (λ (ns : List Node). length ns) (flat_map-cons (λ (g : PlainGraph). g.nodes) a.graph (graphs_of later)) in
    omega (arith, here, rest, both, length-append a.graph.nodes (all_nodes (graphs_of later)))

-- so all cases have fewer nodes than there are tags of one router
pub few_nodes : (net : PlainNet) (policy : PlainPolicy) → IsPolicy policy → (accepted : List AcceptedCase) → length accepted ≡ length (case_list net policy) → AreAccepted net policy accepted
    → length (all_nodes (graphs_of accepted)) < 2 ^ 32
few_nodes net policy kept accepted all each =
    omega (arith, nodes_from net policy 0 all_steps accepted each (omega (arith, all)), all, case_count net policy, kept.prefixes, kept.statements)
