use Rattle.std.proofs.Common.{◌≡◌, ◌==◌, get_or, false, sym, ap, ◌∙◌}
use Rattle.fast_float.specs.Text.{scan}
use Rattle.serde_json.specs.Read.{number_from, number_of}
use Rattle.evidence_text.proofs.TokenLaws.{some_weaker, whole_number}
use Rattle.evidence_text.proofs.tokens.whole.Goals as goal

pub returns : goal.returns
unfolding number_of
returns c =
    let s = c.as_bytes-bytes.result.now in
    let unsigned_text : (get_or s 0 0 == 45) ≡ false = sym c.has_minus.ensures ∙ c.if-has_minus.false in
    let read : number_from false (scan s) ≡ number_of s = rw unsigned_text in
    some_weaker _ _ (λ n is. ap number_of (sym c.as_bytes-bytes.ensures.value) ∙ sym read ∙ ap (number_from false) (sym c.scan.ensures.parts) ∙ is) c.to_u64.result
    (whole_number c.scan.result c.to_u64.result c.to_u64.ensures)
