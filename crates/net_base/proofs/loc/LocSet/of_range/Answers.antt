use Rattle.std.proofs.Common.{◌&&◌, arith, refl, length-set}
use Rattle.std.specs.Prelude.{nat_le, nat_lt}
use Rattle.net_base.proofs.SetOf.{words_next, words_done, no_words}
use Rattle.net_base.proofs.loc.LocSet.of_range.Goals as goal

pub loop-place-init : goal.loop-place-init
loop-place-init c = record { size = refl; words = no_words _ 0 }

pub loop-place-preserved : goal.loop-place-preserved
loop-place-preserved c = record {
  size = omega (arith, length-set c.loop-place.words, c.loop-place.invariant.size);
  words =
      words_next (λ l. nat_le c.args.from l && nat_lt l c.args.to) c.loop-place.words c.loop-place.place c.word_of_range.result
      c.loop-place.invariant.size c.loop-place-test.true c.loop-place.invariant.words c.word_of_range.ensures;
}

pub returns : goal.returns
returns c = words_done (λ l. nat_le c.args.from l && nat_lt l c.args.to) c.loop-place.words c.loop-place.place c.loop-place.invariant.size (omega arith) (omega arith) c.loop-place.invariant.words
