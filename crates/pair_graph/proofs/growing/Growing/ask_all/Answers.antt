use Rattle.std.proofs.Common.{◌≡◌, ◌+◌, ◌≤◌, Some, arith, rules, length}
use Rattle.std.specs.Prelude.{slice_get}
use Rattle.std.proofs.lemmas.Option.{slice_get_read}
use Rattle.pair_graph.specs.Pairs.{step_pair, walks_of}
use Rattle.pair_graph.proofs.Grown.{grown_turn, grown_upto}
use Rattle.pair_graph.proofs.Nexts.{at_place, nexts_all, nexts_past}
use Rattle.pair_graph.proofs.Turns.{cut_none}
use Rattle.pair_graph.proofs.WalkPairs.{are_walks}
use Rattle.pair_graph.proofs.growing.Growing.ask_all.Goals as goal

pub loop-i-init : goal.loop-i-init
loop-i-init c = record { grown = λ g h starts sides is. (0, is, cut_none at_place c.steps.new.pairs.items); few = c.requires.few; size = c.requires.size; room = c.requires.room; pair = c.requires.there }

pub loop-i-preserved : goal.loop-i-preserved
loop-i-preserved c =
    let was = c.loop-i.invariant in
    let told = c.in_ok-ask.ensures in
    let x = c.args.pair.now in
    let y = c.index.result.now in
    let nexts = c.steps.new.pairs.items in
    let self = c.loop-i.self in
    let at : slice_get nexts c.loop-i.i ≡ Some y = slice_get_read nexts c.len-i-end.result c.loop-i.i y (omega (arith, c.len-i-end.ensures)) c.loop-i-test.true c.index.ensures in
    record {
      grown = λ g h starts sides is.
          let are = c.in_ok-steps.ensures g h sides in
          let stands = (are_walks g h).steps x in
          let now = was.grown g h starts sides is in
          let over = grown_upto (walks_of g h) starts self.pairs.keys self.before.items self.steps.items c.args.number now.0 now.1 x nexts c.loop-i.i y (are_walks g h) was.pair are now.2 at in
          (y.place + 1, told.grown g h starts x was.pair (are.sound c.loop-i.i y at) over, nexts_past (step_pair g h x) stands nexts are c.loop-i.i y at);
      few = told.few;
      size = told.size;
      room = told.room;
      pair = told.there x was.pair;
    }

pub returns-clause-grown : goal.returns-clause-grown
returns-clause-grown c = λ g h starts sides is.
    let x = c.args.pair.now in
    let nexts = c.steps.new.pairs.items in
    let self = c.loop-i.self in
    let are = c.in_ok-steps.ensures g h sides in
    let stands = (are_walks g h).steps x in
    let now = c.loop-i.invariant.grown g h starts sides is in
    let all : length nexts ≤ c.loop-i.i = omega (arith, c.loop-i-test.false, c.len-i-end.ensures) in
    grown_turn (walks_of g h) starts self.pairs.keys self.before.items self.steps.items c.args.number now.0 now.1 x c.loop-i.invariant.pair
    (λ i y goes. nexts_all (step_pair g h x) stands nexts are now.0 c.loop-i.i i y now.2 all goes)

pub returns-in_err-ask-clause-many : goal.returns-in_err-ask-clause-many
returns-in_err-ask-clause-many c = λ g h starts sides is fault.
    let was = c.loop-i.invariant in
    let x = c.args.pair.now in
    let y = c.index.result.now in
    let nexts = c.steps.new.pairs.items in
    let self = c.loop-i.self in
    let at : slice_get nexts c.loop-i.i ≡ Some y = slice_get_read nexts c.len-i-end.result c.loop-i.i y (omega (arith, c.len-i-end.ensures)) c.loop-i-test.true c.index.ensures in
    let are = c.in_ok-steps.ensures g h sides in
    let now = was.grown g h starts sides is in
    let over = grown_upto (walks_of g h) starts self.pairs.keys self.before.items self.steps.items c.args.number now.0 now.1 x nexts c.loop-i.i y (are_walks g h) was.pair are now.2 at in
    let told = c.ask.ensures.many g h starts x was.pair (are.sound c.loop-i.i y at) over in
    search rules
