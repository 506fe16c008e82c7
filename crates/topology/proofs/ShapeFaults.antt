-- The shape is judged by faults of the shape alone.
use Rattle.std.proofs.Common.{List, Result}
use Rattle.std.specs.Prelude.{◌==◌, codes, length, slice_get, option_and_then}
use Rattle.serde_json.specs.Data.{Data}
use Rattle.serde_json.specs.Find.{get, as_object, as_str}
use Rattle.serde_json.specs.Events.{members_len}
use Rattle.topology.specs.declared.parts.Field.TheVariants as field
use Rattle.topology.specs.declared.fault.TopoFault.{TopoFault}
use Rattle.topology.specs.declared.fault.TopoFault.TheVariants.{Shape}
use Rattle.json_values.specs.Json.{list_at, text_at, number_at}
use Rattle.json_values.proofs.OnlyFaults.{IsOf, Only, only_bind, only_each, or_then, unless_then}
use Rattle.topology.specs.Shape.{each, entry_of, ends_of, shape_of, identifier_of}

only_all : {A B : Type 0} (f : A → Result B TopoFault) → ((x : A) → Only (IsOf Shape) (f x)) → (xs : List A) → Only (IsOf Shape) (each f xs)
unfolding each
only_all f one xs = only_each (IsOf Shape) f one 1 xs

entry_only : (d : Data) → Only (IsOf Shape) (entry_of d)
unfolding entry_of
entry_only d =
    or_then Shape field.Entry (as_object d) _ (λ members.
    or_then Shape field.Name (text_at (codes "name") d) _ (λ name.
    or_then Shape field.Asn (number_at (codes "asn") d) _ (λ asn.
    or_then Shape field.Id (text_at (codes "id") d) _ (λ text.
    or_then Shape field.Id (identifier_of text) _ (λ id.
    unless_then Shape field.Entry (members_len members == 3) _ (λ _. tt))))))

ends_only : (d : Data) → Only (IsOf Shape) (ends_of d)
unfolding ends_of
ends_only d =
    or_then Shape field.Entry (list_at d) _ (λ ends.
    unless_then Shape field.Entry (length ends == 2) _ (λ _.
    or_then Shape field.Entry (option_and_then as_str (slice_get ends 0)) _ (λ from.
    or_then Shape field.Entry (option_and_then as_str (slice_get ends 1)) _ (λ to. tt))))

pub shape_only : (d : Data) → Only (IsOf Shape) (shape_of d)
unfolding shape_of
shape_only d =
    or_then Shape field.Top (as_object d) _ (λ members.
    or_then Shape field.Top (get (codes "routers") d) _ (λ routers.
    or_then Shape field.Top (get (codes "peers") d) _ (λ peers.
    or_then Shape field.Top (get (codes "links") d) _ (λ links.
    unless_then Shape field.Top (members_len members == 3) _ (λ _.
    or_then Shape field.Routers (list_at routers) _ (λ routers.
    only_bind (IsOf Shape) (each entry_of routers) _ (only_all entry_of entry_only routers) (λ rs.
    or_then Shape field.Peers (list_at peers) _ (λ peers.
    only_bind (IsOf Shape) (each entry_of peers) _ (only_all entry_of entry_only peers) (λ ps.
    or_then Shape field.Links (list_at links) _ (λ links.
    only_bind (IsOf Shape) (each ends_of links) _ (only_all ends_of ends_only links) (λ ls. tt)))))))))))
