use Rattle.std.proofs.Common.{◌≡◌, ◌+◌, ◌≤◌, Some, arith, length, refl, sym, subst, ◌∙◌}
use Rattle.std.specs.Prelude.{slice_get}
use Rattle.std.proofs.lemmas.Option.{slice_get_read}
use Rattle.pair_graph.specs.Nexts.{AreNextsBelow}
use Rattle.pair_graph.specs.Pairs.{start_pair, walks_of}
use Rattle.pair_graph.proofs.Grown.{begun_step}
use Rattle.pair_graph.proofs.Nexts.{at_place, nexts_all, nexts_between, nexts_end, nexts_from, nexts_none, nexts_over, nexts_past}
use Rattle.pair_graph.proofs.Turns.{cut_none}
use Rattle.pair_graph.proofs.WalkPairs.{are_walks}
use Rattle.pair_graph.proofs.growing.Growing.add_starts.Goals as goal

pub loop-i-init : goal.loop-i-init
loop-i-init c = record {
  begun = λ g h sides. (0, subst (λ xs. AreNextsBelow (start_pair g h) xs 0) (sym c.requires.pairs) (nexts_none (start_pair g h)), cut_none at_place c.starts.new.pairs.items);
  few = rw c.requires.pairs (omega arith);
  size = rw (c.requires.pairs, c.requires.before) refl;
  steps = refl;
}

pub loop-i-preserved : goal.loop-i-preserved
loop-i-preserved c =
    let was = c.loop-i.invariant in
    let ext = c.in_ok-number_of.ensures.extended in
    let y = c.index.result.now in
    let starts = c.starts.new.pairs.items in
    let self = c.loop-i.self in
    let at : slice_get starts c.loop-i.i ≡ Some y = slice_get_read starts c.len-i-end.result c.loop-i.i y (omega (arith, c.len-i-end.ensures)) c.loop-i-test.true c.index.ensures in
    record {
      begun = λ g h sides.
          let are = c.in_ok-starts.ensures g h sides in
          let next = start_pair g h in
          let stands = (are_walks g h).starts in
          let now = was.begun g h sides in
          let over = nexts_over next self.pairs.keys now.0 y.place now.1 (nexts_from next stands starts are now.0 c.loop-i.i y now.2 at) (nexts_between next stands starts are now.0 c.loop-i.i y now.2 at) in (
            y.place + 1,
            begun_step (walks_of g h) self.pairs.keys c.number_of.new.self.pairs.keys self.before.items c.number_of.new.self.before.items y.place c.in_ok-number_of.field-0 y over (are.sound c.loop-i.i y at) refl ext,
            nexts_past next stands starts are c.loop-i.i y at,
          );
      few = ext.few;
      size = ext.size;
      steps = c.in_ok-number_of.ensures.steps ∙ was.steps;
    }

pub returns-clause-begun : goal.returns-clause-begun
returns-clause-begun c = λ g h sides.
    let starts = c.starts.new.pairs.items in
    let are = c.in_ok-starts.ensures g h sides in
    let next = start_pair g h in
    let now = c.loop-i.invariant.begun g h sides in
    let all : length starts ≤ c.loop-i.i = omega (arith, c.loop-i-test.false, c.len-i-end.ensures) in
    nexts_end next c.loop-i.self.pairs.keys now.0 now.1 (λ l x is. nexts_all next (are_walks g h).starts starts are now.0 c.loop-i.i l x now.2 all is)
