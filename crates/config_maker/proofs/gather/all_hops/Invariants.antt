use Rattle.std.proofs.Common.{◌≡◌, ℕ, ◌<◌, ◌+◌, ◌++◌, drop, All, Some}
use Rattle.std.specs.Prelude.{slice_get}
use Rattle.graph_base.specs.Graphs.{IsGraph}
use Rattle.evidence_base.specs.Made.{PlainCaseEvidence}
use Rattle.config_maker.specs.Hops.{HasPref, hops_from}
use Rattle.config_maker.proofs.gather.all_hops.Given as goal

abbrev pub invariant-loop-place : goal.invariant-loop-place
invariant-loop-place l = record {
  hops : l.hops.items ++ hops_from (l.place + 1) (drop l.place l.evidence) ≡ hops_from 1 l.evidence;
  fits : All HasPref l.hops.items;
  graphs : (k : ℕ) (c : PlainCaseEvidence) → k < l.place → slice_get l.evidence k ≡ Some c → IsGraph c.graph;
}
