use Rattle.std.proofs.Common.{option_map, Some, sym, ap, ◌∙◌}
use Rattle.json_values.specs.Json.{list_of}
use Rattle.json_values.proofs.JsonLists.{list_of-items_view}
use Rattle.json_values.proofs.parts.list.Goals as goal

pub returns-in-Some : goal.returns-in-Some
returns-in-Some c =
    rw (c.as_slice.ensures.value) (ap Some (sym (list_of-items_view c.in-Some.items.now.items)) ∙ ap (option_map list_of) c.in-Some.ensures)
