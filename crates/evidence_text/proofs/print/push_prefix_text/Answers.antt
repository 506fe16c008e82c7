use Rattle.std.proofs.Common.{◌++◌, ◌∷◌, [], ◌∙◌, ap}
use Rattle.std.specs.Prelude.{codes}
use Rattle.std.proofs.lemmas.Result.{on_ok_weaker}
use Rattle.text_parts.specs.Texts.{prefix_text}
use Rattle.list_law.proofs.Pieces.{written}
use Rattle.evidence_text.proofs.PrefixLetters.{quoted_prefix}
use Rattle.evidence_text.proofs.print.push_prefix_text.Goals as goal

pub returns-clause-text : goal.returns-clause-text
returns-clause-text c =
    on_ok_weaker c.push_bytes-2.result
    (λ last.
    written c.args.text.now.items ((codes "\"", c.push_bytes.new.text.items) ∷ (prefix_text c.args.prefix, c.push_prefix.new.text.items) ∷ (codes "\"", c.push_bytes-2.new.text.items) ∷ [])
    (c.in_ok-push_bytes.ensures, (c.in_ok-push_prefix.ensures.text, (last, tt)))
    ∙ ap (λ t. c.args.text.now.items ++ t) (quoted_prefix c.args.prefix c.push_prefix.ensures.rules))
    c.push_bytes-2.ensures
