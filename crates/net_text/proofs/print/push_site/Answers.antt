use Rattle.std.proofs.Common.{◌++◌, ◌∷◌, [], ◌∙◌, ap}
use Rattle.std.specs.Prelude.{codes}
use Rattle.std.specs.Fmt.{decimal}
use Rattle.std.proofs.lemmas.Result.{on_ok_weaker}
use Rattle.list_law.proofs.Pieces.{written}
use Rattle.serde_json.specs.Data.{string}
use Rattle.serde_json.specs.Written.{compact_text}
use Rattle.text_parts.specs.Texts.{address_text}
use Rattle.net_text.proofs.Items.{site_as}
use Rattle.net_text.proofs.print.push_site.Goals as goal

pub returns-clause-text : goal.returns-clause-text
returns-clause-text c =
    let s = c.args.site.now in
    on_ok_weaker c.push_bytes-4.result
    (λ last.
    written c.args.text.now.items
    ((codes "{\"asn\":", c.push_bytes.new.text.items) ∷
    (decimal s.asn, c.push_number.new.text.items) ∷
    (codes ",\"id\":", c.push_bytes-2.new.text.items) ∷
    (compact_text (string (address_text s.id)), c.push_identifier.new.text.items) ∷
    (codes ",\"name\":", c.push_bytes-3.new.text.items) ∷
    (compact_text (string s.name), c.push_name_text.new.text.items) ∷
    (codes "}", c.push_bytes-4.new.text.items) ∷ []) (
      c.in_ok-push_bytes.ensures,
      (
        c.in_ok-push_number.ensures ∙ ap (λ n. c.push_bytes.new.text.items ++ decimal n) c.from.ensures,
        (
          c.in_ok-push_bytes-2.ensures,
          (c.in_ok-push_identifier.ensures, (c.in_ok-push_bytes-3.ensures, (c.in_ok-push_name_text.ensures.text, (last, tt)))),
        ),
      ),
    )
    ∙ ap (λ t. c.args.text.now.items ++ t) (site_as s))
    c.push_bytes-4.ensures
