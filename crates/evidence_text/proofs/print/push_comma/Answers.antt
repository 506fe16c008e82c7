use Rattle.std.proofs.Common.{◌++◌, ◌∙◌, ap, append-nil, sym}
use Rattle.std.proofs.lemmas.Bool.{le-ltb, lt-ltb}
use Rattle.std.proofs.lemmas.Result.{on_ok_weaker}
use Rattle.serde_json.specs.Written.{comma_if}
use Rattle.evidence_text.proofs.print.push_comma.Goals as goal

pub returns-then-place-gt0 : goal.returns-then-place-gt0
returns-then-place-gt0 c =
    on_ok_weaker c.push_bytes.result
    (λ pushed. pushed ∙ ap (λ some. c.args.text.now.items ++ comma_if some) (sym (lt-ltb 0 c.args.place c.if-place-gt0.true)))
    c.push_bytes.ensures

pub returns-else-place-gt0 : goal.returns-else-place-gt0
returns-else-place-gt0 c = rw (le-ltb 0 c.args.place c.if-place-gt0.false) (sym (append-nil c.args.text.now.items))
