use Rattle.std.proofs.Common.{rules, ◌≡◌, [], ◌∷◌, ◌++◌, ap, sym, ◌∙◌, List}
use Rattle.route_maps.specs.declared.maps.ListLine.{ListLine}
use Rattle.map_reader.specs.MapsReading.{on_last}
use Rattle.map_reader.proofs.MapSteps.{on_last_push}
use Rattle.map_reader.proofs.reading.add_to_last.Goals as goal

pub returns-in_ok-push-in-Some-2 : goal.returns-in_ok-push-in-Some-2
returns-in_ok-push-in-Some-2 c =
    let xs : List (List ListLine) = c.pop.new.self.items in
    let x : List ListLine = c.in-Some.last in
    let l = c.args.line in
    let before : c.args.lists ≡ xs ++ x ∷ [] = sym c.into_vec-all.ensures ∙ c.in-Some.ensures.items in
    let made : c.from_vec-in-Some.result ≡ xs ++ (x ++ l ∷ []) ∷ [] = search rules in
    made ∙ sym (on_last_push xs x l) ∙ ap (λ (ls : List (List ListLine)). on_last ls l) (sym before)
