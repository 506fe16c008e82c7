-- The graph of a case shows what the policy says of each prefix of the case.
use Rattle.net_base.specs.Network.{PlainNet, IsNet}
use Rattle.net_base.specs.Prefixes.{PlainPrefix, IsPrefix}
use Rattle.policy_base.specs.Policies.{PlainPolicy, IsPolicyOf}
use Rattle.graph_base.specs.Graphs.{PlainGraph, IsGraph}
use Rattle.compare_base.specs.Cases.{case_for}
use Rattle.case_graphs.specs.Graphs.{IsGraphFor}
use Rattle.pair_changes.specs.Shown.{ShowsWalks}

-- Of a policy for the network the graph for the case of a prefix shows the walks of the prefix, and so does the graph without nodes, where the policy has
-- no such case.
abbrev pub CaseGraphsShowWalks : Type 0
CaseGraphsShowWalks =
    (net : PlainNet) (policy : PlainPolicy) (p : PlainPrefix) (g : PlainGraph) → IsNet net → IsPolicyOf net policy → IsPrefix p → IsGraph g
    → IsGraphFor net policy (case_for policy p) g → ShowsWalks net policy p g
