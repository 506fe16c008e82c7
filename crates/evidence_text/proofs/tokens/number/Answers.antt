use Rattle.std.proofs.Common.{◌≡◌, ◌∷◌, arith}
use Rattle.json.specs.Token.{Token}
use Rattle.serde_json.specs.Data.{number, unsigned}
use Rattle.evidence_text.proofs.TokenLaws.{number_first, number_within, some_weaker}
use Rattle.evidence_text.proofs.tokens.number.Goals as goal

pub returns-clause-number : goal.returns-clause-number
returns-clause-number c =
    let first : c.args.reader.now ≡ Token.number c.in-Some-Number.text.now ∷ c.next.new.self = grind arith in
    let n = c.in_ok-whole.field-0 in
    some_weaker _ _ (λ k says f depth deep. (number (unsigned n), rw first (number_first depth c.in-Some-Number.text.now c.next.new.self (unsigned n) c.in_ok-whole.ensures), says f)) c.within.result
    (number_within c.args.least c.args.most n c.within.result c.within.ensures)
