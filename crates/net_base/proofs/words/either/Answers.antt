use Rattle.std.proofs.Common.{arith}
use Rattle.net_base.proofs.SetLaws.{same_words}
use Rattle.net_base.proofs.words.either.Goals as goal

pub returns : goal.returns
returns c = same_words c.args.a.words c.args.b.words c.loop-i.words c.loop-i.invariant.size (λ k lt. c.loop-i.invariant.joined k (omega arith))
