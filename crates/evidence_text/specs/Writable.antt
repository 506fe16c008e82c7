-- Evidence as every value of the program is: what its text needs in order to be read again.
use Rattle.std.specs.Prelude.{ℕ, ◌<◌, ◌^◌, unwrap_or}
use Rattle.std.specs.List.{AllByRecursion}
use Rattle.net_base.specs.declared.numbers.Tag.{Tag}
use Rattle.net_base.specs.Prefixes.{IsPrefix}
use Rattle.net_base.specs.Sets.{IsWords}
use Rattle.graph_base.specs.declared.graph.Node.{Node}
use Rattle.graph_base.specs.Graphs.{IsGraph}
use Rattle.evidence_base.specs.Evidence.{IsCaseEvidence}
use Rattle.evidence_base.specs.Made.{PlainCaseEvidence}

-- a number of 32 bits
abbrev pub IsShort : ℕ → Type 0
IsShort n = n < 2 ^ 32

abbrev pub HasShortRank : Node → Type 0
HasShortRank v = IsShort (unwrap_or v.rank 0)

abbrev pub IsShortTag : Tag → Type 0
IsShortTag t = IsShort t.asn × IsShort t.value

-- It keeps the rules of evidence and of graphs, its prefixes and its set are such, and its numbers have 32 bits.
pub record IsWritable (c : PlainCaseEvidence) : Type 0 where
  pub rules : IsCaseEvidence c
  pub graph : IsGraph c.graph
  pub origins : IsWords c.case.origins
  pub prefixes : AllByRecursion IsPrefix c.case.prefixes
  pub statement : IsShort c.case.statement
  pub ranks : AllByRecursion HasShortRank c.graph.nodes
  pub numbers : AllByRecursion IsShort c.numbers
  pub tags : AllByRecursion IsShortTag c.tags
