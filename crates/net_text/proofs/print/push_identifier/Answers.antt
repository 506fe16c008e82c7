use Rattle.std.proofs.Common.{◌++◌, ◌∷◌, [], ◌∙◌, ap, arith}
use Rattle.std.specs.Prelude.{codes}
use Rattle.std.proofs.lemmas.Result.{on_ok_weaker}
use Rattle.list_law.proofs.Pieces.{written}
use Rattle.text_parts.specs.Texts.{address_text}
use Rattle.net_text.proofs.Letters.{quoted_simple, simple_address}
use Rattle.net_text.proofs.print.push_identifier.Goals as goal

pub returns : goal.returns
returns c =
    on_ok_weaker c.push_bytes-2.result
    (λ last.
    written c.args.text.now.items ((codes "\"", c.push_bytes.new.text.items) ∷ (address_text c.args.bits, c.push_address.new.text.items) ∷ (codes "\"", c.push_bytes-2.new.text.items) ∷ [])
    (c.in_ok-push_bytes.ensures, (c.in_ok-push_address.ensures, (last, tt)))
    ∙ ap (λ t. c.args.text.now.items ++ t) (quoted_simple (address_text c.args.bits) (simple_address c.args.bits (omega arith))))
    c.push_bytes-2.ensures
