use Rattle.std.proofs.Common.{List, length, ap, arith, subst, sym}
use Rattle.list_law.specs.Members.{IsIn}
use Rattle.compare_base.specs.declared.rows.Kind.{Kind}
use Rattle.place_rows.specs.Rows.{rows_of}
use Rattle.pair_changes.specs.Places.{ArePlaces}
use Rattle.pair_changes.specs.Walks.{AreAllShown}
use Rattle.pair_changes.proofs.Needed.{nodes_within_any, rows_known, some_place}
use Rattle.pair_changes.proofs.Whole.{whole_change}
use Rattle.pair_changes.proofs.change.pair_change.Goals as goal

pub shown_kinds-requires : goal.shown_kinds-requires
shown_kinds-requires c =
    let both = c.in_ok-both.both in
    let table = c.in_ok-table.table in
    let places = c.as_slice.result.now in
    let bare = c.in_ok-bare.bare.items in
    let all : ArePlaces c.args.net.now c.args.cases.now places = subst (ArePlaces c.args.net.now c.args.cases.now) (sym c.as_slice.ensures.value) c.in_ok-places.ensures in
    let grouped = c.in_ok-bare.ensures all.order in
    record {
      some = λ kind at. some_place (rows_of table) places bare grouped kind (subst (λ (ks : List Kind). IsIn ks kind) c.as_slice-2.ensures.value at);
      nodes = λ place x at. (
          nodes_within_any c.args.net.now c.args.old.now c.args.new.now both.graph both.pairs (rows_of table place) place x c.in_ok-both.ensures.graph.size
          (c.in_ok-table.ensures.rows place) (c.in_ok-table.ensures.others place) at);
      rows = λ kind place row at there among. rows_known (rows_of table) places bare grouped kind place row (subst (λ (ks : List Kind). IsIn ks kind) c.as_slice-2.ensures.value at) there among;
      entered = c.in_ok-both.ensures.graph.entered;
    }

pub returns-clause-change : goal.returns-clause-change
returns-clause-change c = λ before after p has shows_old shows_new.
    let both = c.in_ok-both.both in
    let table = c.in_ok-table.table in
    let places = c.as_slice.result.now in
    let bare = c.in_ok-bare.bare.items in
    let kinds = c.in_ok-kinds.kinds in
    let all : ArePlaces c.args.net.now c.args.cases.now places = subst (ArePlaces c.args.net.now c.args.cases.now) (sym c.as_slice.ensures.value) c.in_ok-places.ensures in
    let shown : AreAllShown both.graph (rows_of table) bare kinds = subst (λ (ks : List Kind). AreAllShown both.graph (rows_of table) ks kinds) c.as_slice-2.ensures.value c.in_ok-kinds.ensures in
    whole_change c.args.net.now before after p c.args.old.now c.args.new.now both.graph both.pairs c.in_ok-both.ensures.graph c.steps.ensures.rules
    c.routers_of-before.ensures.rules c.routers_of-after.ensures.rules shows_old shows_new (rows_of table) c.in_ok-table.ensures.rows places bare kinds (c.in_ok-bare.ensures all.order) shown
    c.routers_of-before.result c.routers_of-after.result c.routers_of-before.ensures.routers c.routers_of-after.ensures.routers
    c.args.cases.now c.in_ok-lost.lost c.in_ok-gained.gained has all c.in_ok-lost.ensures c.in_ok-gained.ensures

pub overflow_cast-used : goal.overflow_cast-used
overflow_cast-used c = omega (arith, ap length c.steps.ensures.steps, c.in_ok-both.ensures.room, c.ranges.room.fits)

pub returns-clause-room : goal.returns-clause-room
returns-clause-room c = omega (arith, ap length c.steps.ensures.steps, c.in_ok-both.ensures.room)

pub returns-clause-used : goal.returns-clause-used
returns-clause-used c =
    let all = c.in_ok-both.ensures.steps in
    record { ways = all.ways; are = all.are; all = all.all; steps = omega (arith, ap length c.steps.ensures.steps, all.steps) }
