-- The graph of each case of a policy, by what decides a prefix.
use Rattle.std.specs.Prelude.{◌≡◌, ℕ, [], Some, None, unwrap_or, if◌then◌else◌}
use Rattle.indexmap.specs.IndexMap.{get}
use Rattle.net_base.specs.Network.{PlainNet}
use Rattle.policy_base.specs.declared.case.Case.{Case}
use Rattle.policy_base.specs.Policies.{PlainPolicy, PlainStatement}
use Rattle.policy_base.specs.CaseNumbers.{IsCase}
use Rattle.graph_base.specs.Graphs.{PlainGraph}
use Rattle.evidence_law.specs.Passes.{all_steps}
use Rattle.case_core.specs.Refusals.{IsMade}
use Rattle.compare_base.specs.declared.cases.PrefixCase.{PrefixCase}
use Rattle.compare_base.specs.Same.{same_case}
use Rattle.case_graphs.specs.declared.graphs.CaseGraphs.{CaseGraphs}

abbrev pub no_graph : PlainGraph
no_graph = record { nodes = []; starts = []; steps = [] }

-- the graph that is kept for the case, and the graph without nodes where none is
abbrev pub graph_in : CaseGraphs → PrefixCase → PlainGraph
graph_in graphs case = unwrap_or (get same_case graphs.graphs case) graphs.none

-- what decides the prefixes of a case of the policy: its statement, and its origins where these are routers
abbrev pub prefix_case : Case → PrefixCase
prefix_case c = record { statement = Some c.statement; origins = if c.external then None else Some c.origins }

-- the policy has such a case
abbrev pub HasCase : PlainNet → PlainPolicy → PrefixCase → Type 0
HasCase net policy of = (number : ℕ) × (s : PlainStatement) × (c : Case) × IsCase net policy number s c × (prefix_case c ≡ of)

-- The graph is that of the policy's case: what is built of it, trimmed. Where the policy has no such case it has no nodes.
pub record IsGraphFor (net : PlainNet) (policy : PlainPolicy) (of : PrefixCase) (g : PlainGraph) : Type 0 where
  pub made : (number : ℕ) (s : PlainStatement) (c : Case) → IsCase net policy number s c → prefix_case c ≡ of → (built : PlainGraph) × IsMade net all_steps s c built g
  pub none : ¬ HasCase net policy of → g ≡ no_graph

-- the graphs of all cases of the policy
abbrev pub AreCaseGraphs : PlainNet → PlainPolicy → CaseGraphs → Type 0
AreCaseGraphs net policy graphs = (of : PrefixCase) → IsGraphFor net policy of (graph_in graphs of)
