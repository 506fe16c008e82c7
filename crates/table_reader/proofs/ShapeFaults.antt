-- The shape is judged by faults of the shape alone.
use Rattle.std.proofs.Common.{ℕ, Some, None, Ok}
use Rattle.std.specs.Prelude.{◌==◌, codes, is_some, length, not, option_and_then, slice_get}
use Rattle.serde_json.specs.Data.{Data}
use Rattle.serde_json.specs.Find.{get, as_null, as_object, as_str}
use Rattle.serde_json.specs.Events.{members_len}
use Rattle.json_values.specs.Json.{list_at}
use Rattle.json_values.proofs.OnlyFaults.{IsOf, Only, only_bind, only_each, only_each_from, only_if, or_only, or_then, unless_then}
use Rattle.net_base.specs.Steps.{◌>>=◌}
use Rattle.table_reader.specs.declared.fault.TablesFault.TheVariants.{Shape}
use Rattle.table_reader.specs.Shape.{entry_of, path_of, route_of, shape_of, short_of, tag_of, text_of}

text_only : (place : ℕ) (d : Data) → Only (IsOf Shape) (text_of place d)
unfolding text_of
text_only place d = or_only Shape place (as_str d)

path_only : (place : ℕ) (d : Data) → Only (IsOf Shape) (path_of place d)
unfolding path_of
path_only place d =
    or_then Shape place (list_at d) _ (λ names.
    unless_then Shape place (not (length names == 0)) _ (λ _.
    only_each (IsOf Shape) (text_of place) (text_only place) 1 names))

tag_only : (place : ℕ) (d : Data) → Only (IsOf Shape) (tag_of place d)
unfolding tag_of
tag_only place d =
    or_then Shape place (list_at d) _ (λ numbers.
    unless_then Shape place (length numbers == 2) _ (λ _.
    or_then Shape place (option_and_then short_of (slice_get numbers 0)) _ (λ asn.
    or_then Shape place (option_and_then short_of (slice_get numbers 1)) _ (λ value. tt))))

route_only : (place : ℕ) (d : Data) → Only (IsOf Shape) (route_of place d)
unfolding route_of
route_only place d =
    or_then Shape place (as_object d) _ (λ members.
    or_then Shape place (get (codes "path") d) _ (λ path.
    or_then Shape place (get (codes "pref") d) _ (λ pref.
    or_then Shape place (get (codes "tag") d) _ (λ tag.
    unless_then Shape place (members_len members == 3) _ (λ _.
    only_bind (IsOf Shape) (path_of place path) _ (path_only place path) (λ path.
    or_then Shape place (short_of pref) _ (λ pref.
    only_bind (IsOf Shape) (tag_of place tag) _ (tag_only place tag) (λ tag. tt))))))))

entry_only : (place : ℕ) (d : Data) → Only (IsOf Shape) (entry_of place d)
unfolding entry_of
entry_only place d =
    only_if (IsOf Shape) (is_some (as_null d)) (Ok None) (route_of place d >>= (λ said. Ok (Some said))) tt
    (only_bind (IsOf Shape) (route_of place d) (λ said. Ok (Some said)) (route_only place d) (λ said. tt))

pub shape_only : (d : Data) → Only (IsOf Shape) (shape_of d)
unfolding shape_of
shape_only d =
    or_then Shape 0 (as_object d) _ (λ members.
    or_then Shape 0 (get (codes "routes") d) _ (λ routes.
    unless_then Shape 0 (members_len members == 1) _ (λ _.
    or_then Shape 0 (list_at routes) _ (λ entries.
    only_each_from (IsOf Shape) entry_of entry_only 1 entries))))
