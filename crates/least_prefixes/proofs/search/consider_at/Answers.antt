use Rattle.std.proofs.Common.{◌≡◌, ap, ◌∙◌, arith}
use Rattle.least_prefixes.specs.Least.{joined_at}
use Rattle.least_prefixes.proofs.search.consider_at.Goals as goal

pub returns-clause-least : goal.returns-clause-least
returns-clause-least c = λ old new knows seen.
    let all : c.loop-len.len ≡ 33 = omega (arith, c.loop-len-test.false, c.loop-len.auto.len-end) in
    (c.loop-len.invariant old new knows seen).1 ∙ ap (joined_at old new c.args.least.now.items c.args.bits) all
