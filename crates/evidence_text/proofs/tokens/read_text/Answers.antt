use Rattle.std.proofs.Common.{◌≡◌, [], Some, arith}
use Rattle.json.specs.Lex.{tokens}
use Rattle.serde_json.specs.Read.{read}
use Rattle.evidence_text.specs.Tokens.{IsFirst}
use Rattle.evidence_text.proofs.tokens.read_text.Goals as goal

pub returns : goal.returns
returns c =
    let text = c.args.text.now in
    let found = c.in_ok-raw.ensures 127 (omega arith) in
    let all : c.evidence.new.reader ≡ [] = grind arith in
    let whole : IsFirst 127 (tokens text) found.0 [] = rw (← c.in-Ok.ensures.ok, ← all) found.1 in
    let is : read text ≡ Some found.0 = rw whole.1 whole.2 in
    (found.0, is, found.2)
