use Rattle.std.proofs.Common.{List, ℕ, refl, ap, arith, length-set}
use Rattle.std.specs.Prelude.{bit_and}
use Rattle.net_base.specs.SetOperations.{common_words}
use Rattle.net_base.proofs.WordSteps.{words_step, words_end}
use Rattle.net_base.proofs.words.both.Goals as goal

pub loop-i-preserved : goal.loop-i-preserved
loop-i-preserved c = record {
  len = omega (arith, length-set c.loop-i.words, c.loop-i.invariant.len);
  rest =
      words_step common_words (λ v w. bit_and v w) (λ v w vs ws. refl) c.args.a.now.words c.args.b.now.words c.loop-i.words _ c.loop-i.i (omega arith)
      (omega arith) (omega arith) c.loop-i.invariant.rest;
}

pub returns : goal.returns
returns c =
    ap (λ (ws : List ℕ). record { words = ws })
    (words_end common_words (λ v w. bit_and v w) (λ v w vs ws. refl) c.args.a.now.words c.args.b.now.words c.loop-i.words _ c.loop-i.i (omega arith)
    (omega arith) (omega arith) refl c.loop-i.invariant.rest)
