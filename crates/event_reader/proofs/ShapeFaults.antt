-- The shape is judged by faults of the shape alone.
use Rattle.std.proofs.Common.{ℕ, List, Err, refl}
use Rattle.std.specs.Prelude.{◌==◌, codes, length, slice_get, if◌then◌else◌}
use Rattle.serde_json.specs.Data.{Data}
use Rattle.serde_json.specs.Find.{get, as_object, as_str}
use Rattle.serde_json.specs.Events.{members_len}
use Rattle.json_values.specs.Json.{list_at}
use Rattle.json_values.proofs.OnlyFaults.{IsOf, Only, only_bind, only_each_from, only_if, or_only, or_then, unless_then}
use Rattle.net_base.specs.Steps.{each_from}
use Rattle.event_reader.specs.declared.fault.EventsFault.TheVariants.{Shape}
use Rattle.event_reader.specs.Shape.{between_two, event_of, of_router, shape_of, text_in}
use Rattle.event_reader.specs.Words.{link_word, router_word}

text_only : (place : ℕ) (parts : List Data) (i : ℕ) → Only (IsOf Shape) (text_in place parts i)
unfolding text_in
text_only place parts i = or_then Shape place (slice_get parts i) _ (λ part. or_only Shape place (as_str part))

between_only : (place : ℕ) (parts : List Data) → Only (IsOf Shape) (between_two place parts)
unfolding between_two
between_only place parts =
    only_bind (IsOf Shape) (text_in place parts 0) _ (text_only place parts 0) (λ text.
    or_then Shape place (link_word text) _ (λ word.
    only_bind (IsOf Shape) (text_in place parts 1) _ (text_only place parts 1) (λ first.
    only_bind (IsOf Shape) (text_in place parts 2) _ (text_only place parts 2) (λ second. tt))))

router_only : (place : ℕ) (parts : List Data) → Only (IsOf Shape) (of_router place parts)
unfolding of_router
router_only place parts =
    only_bind (IsOf Shape) (text_in place parts 0) _ (text_only place parts 0) (λ text.
    or_then Shape place (router_word text) _ (λ word.
    only_bind (IsOf Shape) (text_in place parts 1) _ (text_only place parts 1) (λ router. tt)))

event_only : (place : ℕ) (d : Data) → Only (IsOf Shape) (event_of place d)
unfolding event_of
event_only place d =
    or_then Shape place (list_at d) _ (λ parts.
    only_if (IsOf Shape) (length parts == 3) (between_two place parts) (if length parts == 2 then of_router place parts else Err (Shape place)) (between_only place parts)
    (only_if (IsOf Shape) (length parts == 2) (of_router place parts) (Err (Shape place)) (router_only place parts) (place, refl)))

pub shape_only : (d : Data) → Only (IsOf Shape) (shape_of d)
unfolding shape_of
shape_only d =
    or_then Shape 0 (as_object d) _ (λ members.
    or_then Shape 0 (get (codes "prefix") d) _ (λ prefix.
    or_then Shape 0 (get (codes "events") d) _ (λ events.
    unless_then Shape 0 (members_len members == 2) _ (λ _.
    or_then Shape 0 (as_str prefix) _ (λ prefix.
    or_then Shape 0 (list_at events) _ (λ events.
    only_bind (IsOf Shape) (each_from event_of 1 events) _ (only_each_from (IsOf Shape) event_of event_only 1 events) (λ all. tt)))))))
