use Rattle.std.proofs.Common.{◌≡◌, ◌++◌, length, drop}
use Rattle.compile_core.specs.Compiling.{evidence_of as plain_evidence_of}
use Rattle.compile_core.proofs.evidence.evidence_of.Given as goal

abbrev pub invariant-loop-graph : goal.invariant-loop-graph
invariant-loop-graph l = record {
  size : length l.all ≡ length l.yielded;
  made : l.all ++ drop (length l.yielded) (plain_evidence_of l.cases l.fn.graphs.items l.fn.prefs.items l.tags) ≡ plain_evidence_of l.cases l.fn.graphs.items l.fn.prefs.items l.tags;
}
