-- What is known of the graph of the case at a place of the case list.
use Rattle.std.proofs.Common.{◌≡◌, ℕ, ◌+◌, ◌<◌, Option, Some, None, refl, ap, ◌∙◌, arith}
use Rattle.std.specs.Prelude.{◌↔◌, IfSome, option_and_then}
use Rattle.std.specs.List.{AllByRecursion}
use Rattle.std.proofs.lemmas.Option.{slice_get_within}
use Rattle.list_law.specs.Members.{IsIn}
use Rattle.list_law.proofs.Members.{AllByRecursion-from_IsIn}
use Rattle.policy_base.specs.declared.limits.TheConstants.{ALTERNATIVES}
use Rattle.net_base.specs.Network.{PlainNet, IsNet}
use Rattle.policy_base.specs.declared.case.Case.{Case}
use Rattle.policy_base.specs.Policies.{PlainPolicy, PlainStatement}
use Rattle.graph_base.specs.declared.graph.Node.{Node}
use Rattle.graph_base.specs.Graphs.{IsGraph, PlainGraph}
use Rattle.policy_base.specs.CaseNumbers.{IsCase, OriginsAreRouters}
use Rattle.case_core.proofs.Given.{made_is_faithful}
use Rattle.case_core.proofs.Places.{origins_fit}
use Rattle.case_graphs.specs.Graphs.{IsGraphFor, prefix_case}
use Rattle.evidence_law.specs.Passes.{all_steps}
use Rattle.lint_ranks.specs.Marks.{HasRank}
use Rattle.lint_ranks.specs.Reached.{IsRankOfCase}
use Rattle.lint_ranks.proofs.NodeRanks.{both, rank_within}

-- the ranks of its graph are those of its walks
module _ (net : PlainNet) (policy : PlainPolicy) (rules : IsNet net) (routers : OriginsAreRouters net policy.origins) (number : ℕ) (s : PlainStatement) (c : Case)
    (is : IsCase net policy number s c) (g : PlainGraph) (graph : IsGraph g) (of : IsGraphFor net policy (prefix_case c) g) where
  pub ranks_are : (k : ℕ) → HasRank g k ↔ IsRankOfCase net s c k
  ranks_are k =
      let made = of.made number s c is refl in
      both net s c g k graph (made_is_faithful net all_steps s c made.0 g rules (origins_fit is routers) made.1)

  -- and no greater than there may be
  pub ranks_below : (bits : ℕ) → bits ≡ ALTERNATIVES + 1 → AllByRecursion (λ (node : Node). IfSome node.rank (λ k. k < bits)) g.nodes
  ranks_below bits all = AllByRecursion-from_IsIn (λ (node : Node). IfSome node.rank (λ k. k < bits)) g.nodes (λ node at. of_rank node at node.rank refl)
    where
      of_rank : (node : Node) → IsIn g.nodes node → (rank : Option ℕ) → node.rank ≡ rank → IfSome rank (λ k. k < bits)
      of_rank node at None same = tt
      of_rank node at (Some k) same =
          let has : HasRank g k = (at.0, slice_get_within g.nodes at.0 node at.1, ap (option_and_then (λ (x : Node). x.rank)) at.1 ∙ same) in
          let within = rank_within net s c k ((ranks_are k).0 has) in
          let made = of.made number s c is refl in
          omega (arith, within.1, made.1.within.ranks, all)
