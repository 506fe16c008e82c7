use Rattle.std.proofs.Common.{length, map, refl, sym, ◌∙◌}
use Rattle.std.proofs.lemmas.Bool.{ne_eqb}
use Rattle.std.proofs.lemmas.List.{length-map}
use Rattle.serde_json.specs.View.{view}
use Rattle.table_reader.specs.Shape.{tag_of}
use Rattle.table_reader.proofs.shape.tag.Goals as goal

pub returns-then-numbers-ne2 : goal.returns-then-numbers-ne2
unfolding tag_of
returns-then-numbers-ne2 c = λ _.
    let numbers = c.in-Some.numbers.now in
    rw (sym c.in-Some.ensures, ne_eqb (length (map view numbers)) 2 (λ two. c.if-numbers-ne2.true (sym (length-map numbers view) ∙ two))) refl
