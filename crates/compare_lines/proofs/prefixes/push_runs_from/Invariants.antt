use Rattle.std.proofs.Common.{◌≡◌, ◌++◌, drop}
use Rattle.compare_lines.specs.Prefixes.{run_lines_from}
use Rattle.compare_lines.proofs.prefixes.push_runs_from.Given as goal

abbrev pub invariant-loop-prefix : goal.invariant-loop-prefix
invariant-loop-prefix l =
    l.text.items ++ run_lines_from l.word l.begin l.last (drop l.prefix-index l.rest) ≡ l.fn.text.items ++ run_lines_from l.word l.fn.first l.fn.first l.rest
