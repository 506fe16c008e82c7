use Rattle.std.proofs.Common.{◌+◌, arith, ap₂, sym, subst, ◌∙◌, inl, inr}
use Rattle.pair_graph.specs.Nexts.{AreNextsBelow}
use Rattle.pair_graph.specs.Pairs.{joined}
use Rattle.pair_graph.specs.Ways.{both_taken, place_of, taken}
use Rattle.pair_graph.proofs.Nexts.{nexts_end, nexts_none, nexts_over}
use Rattle.pair_graph.proofs.Turns.{cut_none, head_none, heads, taken_below, taken_not}
use Rattle.pair_graph.proofs.WalkPairs.{joined_parts}
use Rattle.pair_graph.proofs.merging.merge.Goals as goal

pub merge-init : goal.merge-init
merge-init c =
    let first = c.args.first.now in
    let second = c.args.second.now in
    (0, subst (λ xs. AreNextsBelow (both_taken first second) xs 0) (sym c.clear.ensures.items) (nexts_none (both_taken first second)), cut_none place_of first, cut_none place_of second)

pub to_at-requires-clause-cut : goal.to_at-requires-clause-cut
to_at-requires-clause-cut c =
    let was = c.merge.invariant in
    let p = c.in-Some.place in
    let told = c.lesser.ensures in
    let ready = heads c.args.first.now c.args.second.now was.0 c.merge.i c.merge.j p c.place_at.result c.place_at-in-merge.result c.requires.first c.requires.second was.2 was.3
    c.place_at.ensures c.place_at-in-merge.ensures (told.either p c.in-Some.is) (λ q is. told.one p q c.in-Some.is is) (λ q is. told.other p q c.in-Some.is is) in
    ready.1

pub to_at-requires-in-Some-clause-cut : goal.to_at-requires-in-Some-clause-cut
to_at-requires-in-Some-clause-cut c =
    let was = c.merge.invariant in
    let p = c.in-Some.place in
    let told = c.lesser.ensures in
    let ready = heads c.args.first.now c.args.second.now was.0 c.merge.i c.merge.j p c.place_at.result c.place_at-in-merge.result c.requires.first c.requires.second was.2 was.3
    c.place_at.ensures c.place_at-in-merge.ensures (told.either p c.in-Some.is) (λ q is. told.one p q c.in-Some.is is) (λ q is. told.other p q c.in-Some.is is) in
    ready.2

pub past-i-requires-clause-cut : goal.past-i-requires-clause-cut
past-i-requires-clause-cut c =
    let was = c.merge.invariant in
    let p = c.in-Some.place in
    let told = c.lesser.ensures in
    let ready = heads c.args.first.now c.args.second.now was.0 c.merge.i c.merge.j p c.place_at.result c.place_at-in-merge.result c.requires.first c.requires.second was.2 was.3
    c.place_at.ensures c.place_at-in-merge.ensures (told.either p c.in-Some.is) (λ q is. told.one p q c.in-Some.is is) (λ q is. told.other p q c.in-Some.is is) in
    ready.1

pub past-j-requires-clause-cut : goal.past-j-requires-clause-cut
past-j-requires-clause-cut c =
    let was = c.merge.invariant in
    let p = c.in-Some.place in
    let told = c.lesser.ensures in
    let ready = heads c.args.first.now c.args.second.now was.0 c.merge.i c.merge.j p c.place_at.result c.place_at-in-merge.result c.requires.first c.requires.second was.2 was.3
    c.place_at.ensures c.place_at-in-merge.ensures (told.either p c.in-Some.is) (λ q is. told.one p q c.in-Some.is is) (λ q is. told.other p q c.in-Some.is is) in
    ready.2

pub merge-smaller : goal.merge-smaller
merge-smaller c =
    let p = c.in-Some.place in
    let i = c.past-i.ensures in
    let j = c.past-j.ensures in
    elim (c.lesser.ensures.either p c.in-Some.is) [
      | inl is ↦ (let more = i.more (sym c.place_at.ensures ∙ is) in omega (arith, more, i.cut.within, j.kept, j.cut.within))
      | inr is ↦ (let more = j.more (sym c.place_at-in-merge.ensures ∙ is) in omega (arith, more, j.cut.within, i.kept, i.cut.within))
    ]

pub merge-preserved : goal.merge-preserved
merge-preserved c =
    let first = c.args.first.now in
    let second = c.args.second.now in
    let was = c.merge.invariant in
    let b = was.0 in
    let p = c.in-Some.place in
    let next = both_taken first second in
    let told = c.lesser.ensures in
    let ready = heads first second b c.merge.i c.merge.j p c.place_at.result c.place_at-in-merge.result c.requires.first c.requires.second was.2 was.3
    c.place_at.ensures c.place_at-in-merge.ensures (told.either p c.in-Some.is) (λ q is. told.one p q c.in-Some.is is) (λ q is. told.other p q c.in-Some.is is) in
    let over : AreNextsBelow next c.merge.pairs.items p = nexts_over next c.merge.pairs.items b p was.1 ready.0
    (λ l le lt. ap₂ (joined l) (taken_not first b p c.merge.i l was.2 ready.1 le lt) (taken_not second b p c.merge.j l was.3 ready.2 le lt)) in
    (p + 1, c.in_ok-add.ensures next over (ap₂ (joined p) (sym c.to_at.ensures) (sym c.to_at-in-Some.ensures)), c.past-i.ensures.cut, c.past-j.ensures.cut)

pub returns : goal.returns
returns c =
    let first = c.args.first.now in
    let second = c.args.second.now in
    let was = c.merge.invariant in
    let none = c.lesser.ensures.none c.in_default.is in
    nexts_end (both_taken first second) c.merge.pairs.items was.0 was.1 (λ l x is. elim (joined_parts l (taken first l) (taken second l) x is).1 [
      | inl some ↦ taken_below first was.0 c.merge.i l some.0 was.2 (head_none first c.merge.i (sym c.place_at.ensures ∙ none.0)) some.1
      | inr some ↦ taken_below second was.0 c.merge.j l some.0 was.3 (head_none second c.merge.j (sym c.place_at-in-merge.ensures ∙ none.1)) some.1
    ])
