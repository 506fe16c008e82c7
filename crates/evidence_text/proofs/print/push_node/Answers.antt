use Rattle.std.proofs.Common.{subst}
use Rattle.std.proofs.lemmas.Result.{on_ok_weaker}
use Rattle.evidence_text.specs.Writable.{IsShort}
use Rattle.evidence_text.proofs.print.push_node.Goals as goal

pub returns-clause-rules : goal.returns-clause-rules
returns-clause-rules c =
    on_ok_weaker c.push_numbers.result (λ h. (subst IsShort c.unwrap_or-rank.ensures h.1.1.0, h.1.1.1.0, (h.1.1.1.1.0, h.1.1.1.1.1.0))) c.push_numbers.ensures.rules
