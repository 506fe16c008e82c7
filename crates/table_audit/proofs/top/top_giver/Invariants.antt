use Rattle.scenarios.specs.Situations.{given_in}
use Rattle.table_audit.specs.Tops.{IsTopUntil}
use Rattle.table_audit.proofs.top.top_giver.Given as goal

abbrev pub invariant-loop-i : goal.invariant-loop-i
invariant-loop-i l = record {
  top : IsTopUntil (λ z. given_in l.situation z l.at) l.at l.situation.net.now.links l.i l.top;
}
