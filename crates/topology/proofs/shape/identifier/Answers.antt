use Rattle.std.proofs.Common.{◌≡◌, Some, None, refl, sym, ap, ◌∙◌}
use Rattle.std.proofs.lemmas.Bool.{ne_eqb}
use Rattle.net_base.specs.Addresses.{address_of}
use Rattle.topology.proofs.shape.identifier.Goals as goal

pub returns-in_err-id : goal.returns-in_err-id
returns-in_err-id c =
    let none : address_of c.args.text.now ≡ None = ap address_of (sym c.as_bytes.ensures.value) ∙ sym c.read_address.ensures ∙ c.in_err-id.was in
    rw (c.from_residual.ensures, none) refl

pub returns-then-id-eq0 : goal.returns-then-id-eq0
returns-then-id-eq0 c =
    let some : address_of c.args.text.now ≡ Some c.in_ok-id.id = ap address_of (sym c.as_bytes.ensures.value) ∙ sym c.read_address.ensures ∙ c.in_ok-id.was in
    rw (some, c.if-id-eq0.true) refl

pub returns-else-id-eq0 : goal.returns-else-id-eq0
returns-else-id-eq0 c =
    let some : address_of c.args.text.now ≡ Some c.in_ok-id.id = ap address_of (sym c.as_bytes.ensures.value) ∙ sym c.read_address.ensures ∙ c.in_ok-id.was in
    rw (some, ne_eqb c.in_ok-id.id 0 c.if-id-eq0.false) refl
