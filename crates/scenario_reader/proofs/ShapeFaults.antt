-- The shape is judged by faults of the shape alone.
use Rattle.std.specs.Prelude.{◌==◌, codes, length, slice_get, option_and_then}
use Rattle.serde_json.specs.Data.{Data}
use Rattle.serde_json.specs.Find.{get, as_object, as_str}
use Rattle.serde_json.specs.Events.{members_len}
use Rattle.json_values.specs.Json.{list_at}
use Rattle.scenario_reader.specs.declared.parts.Field.{Field}
use Rattle.scenario_reader.specs.declared.parts.Field.TheVariants as field
use Rattle.scenario_reader.specs.declared.fault.ScenarioFault.TheVariants.{Shape}
use Rattle.scenario_reader.specs.Shape.{each, ends_of, shape_of, text_of}
use Rattle.json_values.proofs.OnlyFaults.{IsOf, Only, only_bind, only_each, or_only, or_then, unless_then}

text_only : (f : Field) (d : Data) → Only (IsOf Shape) (text_of f d)
unfolding text_of
text_only f d = or_only Shape f (as_str d)

ends_only : (f : Field) (d : Data) → Only (IsOf Shape) (ends_of f d)
unfolding ends_of
ends_only f d =
    or_then Shape f (list_at d) _ (λ ends.
    unless_then Shape f (length ends == 2) _ (λ _.
    or_then Shape f (option_and_then as_str (slice_get ends 0)) _ (λ from.
    or_then Shape f (option_and_then as_str (slice_get ends 1)) _ (λ to. tt))))

pub shape_only : (d : Data) → Only (IsOf Shape) (shape_of d)
unfolding shape_of
shape_only d =
    or_then Shape field.Top (as_object d) _ (λ members.
    or_then Shape field.Top (get (codes "prefix") d) _ (λ prefix.
    or_then Shape field.Top (get (codes "dead") d) _ (λ dead.
    or_then Shape field.Top (get (codes "dead_links") d) _ (λ links.
    or_then Shape field.Top (get (codes "silent") d) _ (λ silent.
    unless_then Shape field.Top (members_len members == 4) _ (λ _.
    or_then Shape field.Prefix (as_str prefix) _ (λ prefix.
    or_then Shape field.Dead (list_at dead) _ (λ dead.
    only_bind (IsOf Shape) (each (text_of field.Dead) dead) _ (only_each (IsOf Shape) (text_of field.Dead) (text_only field.Dead) 1 dead) (λ names.
    or_then Shape field.DeadLinks (list_at links) _ (λ links.
    only_bind (IsOf Shape) (each (ends_of field.DeadLinks) links) _ (only_each (IsOf Shape) (ends_of field.DeadLinks) (ends_only field.DeadLinks) 1 links) (λ pairs.
    or_then Shape field.Silent (list_at silent) _ (λ silent.
    only_bind (IsOf Shape) (each (ends_of field.Silent) silent) _ (only_each (IsOf Shape) (ends_of field.Silent) (ends_only field.Silent) 1 silent) (λ others. tt)))))))))))))
