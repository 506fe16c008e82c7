use Rattle.std.proofs.Common.{◌≡◌, ◌∙◌, ℕ, List, Some, ap, sym, length, slice_get}
use Rattle.node_classes.specs.Meets.{with_pair, with_pairs}
use Rattle.node_classes.specs.Stages.{targets}
use Rattle.node_classes.proofs.Finding.{found_all, found_begun, found_next, met_lengths, none_past}
use Rattle.node_classes.proofs.met.pairs_met.Goals as goal

pub loop-place-init : goal.loop-place-init
loop-place-init c =
    found_begun c.args.ways.now c.args.a c.args.b c.insert.new.self.keys (c.in_ok-insert.ensures.keys ∙ ap (λ (ps : List (ℕ × ℕ)). with_pair ps (c.args.a, c.args.b)) c.new-found.ensures.empty)

pub returns-in_default : goal.returns-in_default
returns-in_default c =
    found_all c.args.ways.now c.requires.order c.args.a c.args.b c.requires.alike c.loop-place.found.keys c.loop-place.place c.loop-place.invariant
    (none_past c.loop-place.found.keys c.loop-place.place (sym c.in_default.ensures.key))

pub add_pairs-requires : goal.add_pairs-requires
add_pairs-requires c =
    let x = c.in-Some.pair.now.0 in
    let y = c.in-Some.pair.now.1 in
    let at : slice_get c.loop-place.found.keys c.loop-place.place ≡ Some (x, y) = sym c.in-Some.ensures.key in
    ap length c.ways_of.ensures
    ∙ met_lengths c.args.ways.now c.requires.order c.args.a c.args.b c.requires.alike x y
    (c.loop-place.invariant.sound x y (c.loop-place.place, at)) ∙ sym (ap length c.ways_of-in-loop-place.ensures)

pub loop-place-preserved : goal.loop-place-preserved
loop-place-preserved c =
    let x = c.in-Some.pair.now.0 in
    let y = c.in-Some.pair.now.1 in
    let keys = c.loop-place.found.keys in
    let at : slice_get keys c.loop-place.place ≡ Some (x, y) = sym c.in-Some.ensures.key in
    found_next c.args.ways.now c.requires.order c.args.a c.args.b c.requires.alike keys c.add_pairs.new.found.keys c.loop-place.place x y c.loop-place.invariant at
    (c.in_ok-add_pairs.ensures ∙ λ i. with_pairs keys (targets (c.ways_of.ensures i) (c.ways_of-in-loop-place.ensures i)))
