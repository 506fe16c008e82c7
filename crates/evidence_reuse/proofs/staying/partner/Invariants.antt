use Rattle.std.proofs.Common.{◌≡◌, drop}
use Rattle.evidence_reuse.specs.Staying.{partner}
use Rattle.evidence_reuse.proofs.staying.partner.Given as goal

abbrev pub invariant-loop-cell : goal.invariant-loop-cell
invariant-loop-cell l = partner l.olds l.cells l.class ≡ partner l.olds (drop l.cell-index l.cells) l.class
