use Rattle.std.proofs.Common.{sym, ap, ◌∙◌}
use Rattle.serde_json.specs.Read.{read}
use Rattle.json_values.proofs.JsonTexts.{json_of-read}
use Rattle.evidence_text.proofs.TokenLaws.{some_weaker}
use Rattle.evidence_text.proofs.tokens.read_tokens.Goals as goal

pub returns-in-Ok : goal.returns-in-Ok
returns-in-Ok c =
    let text = c.in-Ok.ensures in
    some_weaker _ _ (λ e found. (found.0, json_of-read c.args.bytes.now found.0 text.1 (ap read (sym text.0) ∙ found.1), found.2)) c.read_text.result c.read_text.ensures
