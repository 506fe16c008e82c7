use Rattle.std.proofs.Common.{◌++◌, ◌∷◌, [], ◌∙◌, ap}
use Rattle.std.specs.Prelude.{codes}
use Rattle.std.proofs.lemmas.Result.{on_ok_weaker}
use Rattle.list_law.proofs.Pieces.{written}
use Rattle.net_text.proofs.Letters.{quoted_simple, simple_name}
use Rattle.net_text.proofs.print.push_name_text.Goals as goal

pub returns-clause-text : goal.returns-clause-text
returns-clause-text c =
    on_ok_weaker c.push_bytes-2.result
    (λ last.
    written c.args.text.now.items ((codes "\"", c.push_bytes.new.text.items) ∷ (c.args.name.now, c.push_name.new.text.items) ∷ (codes "\"", c.push_bytes-2.new.text.items) ∷ [])
    (c.in_ok-push_bytes.ensures, (c.in_ok-push_name.ensures.text, (last, tt)))
    ∙ ap (λ t. c.args.text.now.items ++ t) (quoted_simple c.args.name.now (simple_name c.args.name.now c.push_name.ensures.rules)))
    c.push_bytes-2.ensures
