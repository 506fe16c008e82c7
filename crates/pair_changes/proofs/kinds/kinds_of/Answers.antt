use Rattle.std.proofs.Common.{◌≡◌, ◌+◌, ◌∙◌, ℕ, List, ap, arith, inl, inr, subst, sym, take, take_all}
use Rattle.std.specs.Prelude.{Option}
use Rattle.compare_base.specs.declared.rows.Kind.{Kind}
use Rattle.compare_base.specs.declared.rows.Place.{Place}
use Rattle.compare_base.specs.declared.rows.Row.{Row}
use Rattle.pair_rows.specs.declared.values.FirstRow.{FirstRow}
use Rattle.pair_rows.specs.Meetings.{rows_alone}
use Rattle.place_rows.specs.Rows.{rows_of}
use Rattle.pair_changes.specs.declared.ways.Way.{Way}
use Rattle.pair_changes.specs.Kinds.{AreKinds, IsNumberOf, way_by}
use Rattle.pair_changes.proofs.OneMore.{kinds_next, places_before}
use Rattle.pair_changes.proofs.kinds.kinds_of.Goals as goal
use Rattle.pair_changes.proofs.kinds.kinds_of.Goals.{then-are_alike+in_ok-join, else-are_alike+in_ok-of+in_ok-number}

pub loop-place-preserved : goal.loop-place-preserved
loop-place-preserved c =
    let table = c.args.table.now in
    let places = c.args.places.now in
    let i = c.loop-place.place-index in
    let place = c.place-item.result in
    let way = λ (q : Place). way_by (rows_alone (rows_of table q)) in
    elim c.if-are_alike.branch [
      | then-are_alike+in_ok-join w ↦
          let alike : rows_alone c.loop-place.last.now ≡ rows_alone (rows_of table place) =
          c.are_alike.ensures w.if-are_alike.true ∙ ap rows_alone c.rows-rows.ensures in
          let of : IsNumberOf c.loop-place.kinds.items (way place) c.loop-place.number =
          subst (λ (rows : List Row). IsNumberOf c.loop-place.kinds.items (way_by rows) c.loop-place.number) alike c.loop-place.invariant.number in
          record {
            kinds = λ order.
                subst (λ v. AreKinds way (take (i + 1) places) v.items) (sym w.kinds-is)
                (kinds_next way places i place _ c.loop-place-test.true c.place-item.is (w.in_ok-join.ensures.kinds way (take i places) (c.loop-place.invariant.kinds order) of));
            number =
                subst (λ v. IsNumberOf v.items (way_by (rows_alone c.if-are_alike.last.now)) c.if-are_alike.number) (sym w.kinds-is)
                (subst (λ v. IsNumberOf w.join.new.kinds.items (way_by (rows_alone v.now)) c.if-are_alike.number) (sym w.last-is)
                (subst (λ (n : Option ℕ). IsNumberOf w.join.new.kinds.items (way_by (rows_alone c.loop-place.last.now)) n) (sym w.number-is)
                (w.in_ok-join.ensures.number (way_by (rows_alone c.loop-place.last.now)) c.loop-place.invariant.number)));
          }
      | else-are_alike+in_ok-of+in_ok-number w ↦
          let is = sym (w.in_ok-of.ensures ∙ ap (λ (xs : List FirstRow). way_by (rows_alone xs)) c.rows-rows.ensures) in
          record {
            kinds = λ order.
                subst (λ v. AreKinds way (take (i + 1) places) v.items) (sym w.kinds-is)
                (kinds_next way places i place _ c.loop-place-test.true c.place-item.is
                (w.in_ok-number.ensures.kinds way (take i places) (c.loop-place.invariant.kinds order) is (places_before places i place order c.loop-place-test.true c.place-item.is)));
            number =
                subst (λ v. IsNumberOf v.items (way_by (rows_alone c.if-are_alike.last.now)) c.if-are_alike.number) (sym w.kinds-is)
                (subst (λ v. IsNumberOf w.add_if.new.kinds.items (way_by (rows_alone v.now)) c.if-are_alike.number) (sym w.last-is)
                (subst (λ (n : Option ℕ). IsNumberOf w.add_if.new.kinds.items (way_by (rows_alone c.rows-rows.result.now)) n) (sym w.number-is)
                (subst (λ (o : Option Way). IsNumberOf w.add_if.new.kinds.items o w.in_ok-number.number) w.in_ok-of.ensures w.in_ok-number.ensures.number)));
          }
    ]

pub returns : goal.returns
returns c = λ order.
    subst (λ (qs : List Place). AreKinds (λ q. way_by (rows_alone (rows_of c.args.table.now q))) qs c.loop-place.kinds.items)
    (take_all c.loop-place.place-index c.args.places.now (omega arith)) (c.loop-place.invariant.kinds order)
