use Rattle.std.proofs.Common.{◌≡◌, ◌∙◌, false, refl, sym}
use Rattle.list_law.proofs.Options.{none_from_not_some}
use Rattle.config_reader.specs.Reading.{stood_before}
use Rattle.config_reader.proofs.reading.takes_router.Goals as goal

pub returns : goal.returns
returns c =
    let none = none_from_not_some c.args.reading.now.opened (sym c.is_some.ensures ∙ c.if-is_some.false) in
    let apart : stood_before c.args.name.now c.args.asn c.args.id c.args.reading.now.routers ≡ false = sym c.are_like.ensures ∙ c.if-are_like.false in
    rw (none, apart) refl
