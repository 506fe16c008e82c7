use Rattle.std.proofs.Common.{◌≡◌, map}
use Rattle.evidence_text.specs.Spelled.{evidence_of}
use Rattle.evidence_text.proofs.judge.evidence.Given as goal

abbrev pub invariant-loop-case : goal.invariant-loop-case
invariant-loop-case l = l.all ≡ map evidence_of l.yielded
