use Rattle.std.proofs.Common.{◌≡◌, ◌∷◌, refl, arith}
use Rattle.json.specs.Token.{Token}
use Rattle.serde_json.specs.Data.{string}
use Rattle.evidence_text.specs.Shape.{prefix_of}
use Rattle.evidence_text.proofs.TokenLaws.{string_first}
use Rattle.evidence_text.proofs.tokens.prefix.Goals as goal

pub returns-in-Ok : goal.returns-in-Ok
unfolding prefix_of
returns-in-Ok c =
    let s = c.in-Some-String.text.now in
    let first : c.args.reader.now ≡ Token.string s ∷ c.next.new.self = grind arith in
    λ depth deep. (string s, rw first (string_first depth s c.next.new.self), rw (← c.as_bytes.ensures.value, ← c.in-Ok.ensures) refl)
