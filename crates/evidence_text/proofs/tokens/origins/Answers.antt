use Rattle.std.proofs.Common.{◌≡◌, true, refl, sym, ap, ◌∙◌}
use Rattle.json_values.specs.Json.{list_at}
use Rattle.net_base.specs.Steps.{or_fault}
use Rattle.net_base.proofs.StepLemmas.{bind_ok}
use Rattle.evidence_text.specs.declared.fault.EvidenceFault.TheVariants.{Shape}
use Rattle.evidence_text.specs.declared.parts.Field.TheVariants as field
use Rattle.evidence_text.specs.Shape.{are_in_order, each, number_of, origins_of}
use Rattle.evidence_text.proofs.tokens.origins.Goals as goal

pub returns-then-are_in_order : goal.returns-then-are_in_order
unfolding origins_of
returns-then-are_in_order c = λ depth deep.
    let found = c.in_ok-origins.ensures field.Origins depth deep in
    let parts = bind_ok (or_fault (Shape field.Origins) (list_at found.0)) (each (number_of field.Origins 0 767)) _ found.2 in
    let ordered : are_in_order c.in_ok-origins.origins ≡ true = ap are_in_order (sym c.as_slice.ensures) ∙ sym c.are_in_order.ensures ∙ c.if-are_in_order.true in
    (found.0, found.1, rw (parts.1, parts.2, ordered) refl)
