use Rattle.std.proofs.Common.{arith, get_or, subst}
use Rattle.preference_check.specs.Rows.{IsLevel}
use Rattle.preference_check.proofs.JustOffers.{level_more, row_is_offered}
use Rattle.preference_check.proofs.low_row.LowRow.has_just.Goals as goal

pub loop-i-preserved : goal.loop-i-preserved
loop-i-preserved c =
    let s = c.args.self.now in
    let i = c.loop-i.i in
    level_more s.least.items s.places.items c.args.offers.now i c.index-offers-i.result (omega (arith, c.loop-i-test.true, c.if-offers-len.false, c.len.ensures, s.places.ok.0)) c.loop-i-test.true
    (subst (IsLevel s.least.items (get_or s.places.items i 0)) c.index-offers-i.is (c.is_level.ensures c.if-not-is_level.false)) c.loop-i.invariant

pub returns : goal.returns
returns c = λ t.
    let s = c.args.self.now in
    row_is_offered s.least.items s.places.items c.args.offers.now (omega (arith, c.if-offers-len.false, c.len.ensures, s.places.ok.0))
    (λ j d o lt. c.loop-i.invariant j d o (omega (arith, lt, c.loop-i-test.false))) s.listed
