use Rattle.std.specs.List.{AllByRecursion}
use Rattle.evidence_text.specs.declared.raw.ReadText.{ReadText}
use Rattle.evidence_text.specs.Ranges.{IsReadCase}
use Rattle.evidence_text.specs.Spelled.{numbered}
use Rattle.evidence_text.proofs.InRange.{numbered_in, of_ok}
use Rattle.evidence_text.proofs.read.judge.Goals as goal

pub evidence-requires-clause-ranges : goal.evidence-requires-clause-ranges
evidence-requires-clause-ranges c =
    of_ok (λ (t : ReadText). AllByRecursion IsReadCase t.cases) (numbered c.args.raw.now) c.in_ok-text.text (numbered_in c.args.raw.now c.requires) c.in_ok-text.ensures
