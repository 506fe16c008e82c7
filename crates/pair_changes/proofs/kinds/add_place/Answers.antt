use Rattle.std.proofs.Common.{◌∙◌, List, Some, ap, arith, set, sym}
use Rattle.std.specs.List.{position}
use Rattle.compare_base.specs.declared.rows.Place.{Place}
use Rattle.pair_changes.specs.Kinds.{is_of}
use Rattle.pair_changes.proofs.KindNumbers.{number_begun, number_found, number_kept}
use Rattle.pair_changes.proofs.KindSteps.{added_kind, begun_kind}
use Rattle.pair_changes.proofs.kinds.add_place.Goals as goal

pub returns-in-Some-clause-kinds : goal.returns-in-Some-clause-kinds
returns-in-Some-clause-kinds c = λ way_at done are is last.
    let kinds = c.args.kinds.now.items in
    let way = c.args.way in
    let k = c.index_mut.result.now in
    added_kind way_at done kinds c.args.place.now way c.in-Some.number k _ are is
    (ap (position (is_of way)) (sym c.as_slice.ensures.value) ∙ sym c.number_of.ensures ∙ c.in-Some.is) c.index_mut.ensures.value
    (ap (λ (ps : List Place). set kinds c.in-Some.number (record { words = k.words; rows = k.rows; places = ps; walks = k.walks })) c.in_ok-push.ensures.ok)

pub returns-in-Some-clause-number : goal.returns-in-Some-clause-number
returns-in-Some-clause-number c =
    let kinds = c.args.kinds.now.items in
    let way = c.args.way in
    number_kept kinds (Some way) c.in-Some.number c.index_mut.result.now c.push.new.self
    (number_found kinds way c.in-Some.number (ap (position (is_of way)) (sym c.as_slice.ensures.value) ∙ sym c.number_of.ensures ∙ c.in-Some.is)) c.index_mut.ensures.value

pub returns-clause-kinds : goal.returns-clause-kinds
returns-clause-kinds c = λ way_at done are is last.
    let kinds = c.args.kinds.now.items in
    let way = c.args.way in
    begun_kind way_at done kinds c.args.place.now way c.in_ok-kind_of.field-0 _ are is
    (ap (position (is_of way)) (sym c.as_slice.ensures.value) ∙ sym c.number_of.ensures ∙ c.in_default.is) last c.in_ok-kind_of.ensures c.in_ok-push-2.ensures.items

pub returns-clause-number : goal.returns-clause-number
returns-clause-number c =
    number_begun c.args.kinds.now.items c.args.way c.in_ok-kind_of.field-0 c.push-2.new.self.items c.len-number.result c.args.place.now c.in_ok-kind_of.ensures c.in_ok-push-2.ensures.items
    (omega (arith, c.len-number.ensures, c.args.kinds.now.ok.0))
