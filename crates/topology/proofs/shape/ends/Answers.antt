use Rattle.std.proofs.Common.{length, map, refl, sym, ◌∙◌}
use Rattle.std.proofs.lemmas.Bool.{ne_eqb}
use Rattle.std.proofs.lemmas.List.{length-map}
use Rattle.serde_json.specs.View.{view}
use Rattle.topology.specs.Shape.{ends_of}
use Rattle.topology.proofs.shape.ends.Goals as goal

pub returns-then-ends-ne2 : goal.returns-then-ends-ne2
unfolding ends_of
returns-then-ends-ne2 c = λ _.
    let ends = c.in-Some.ends.now in
    rw (sym c.in-Some.ensures, ne_eqb (length (map view ends)) 2 (λ two. c.if-ends-ne2.true (sym (length-map ends view) ∙ two))) refl
