use Rattle.std.proofs.Common.{ap, sym, ◌∙◌, min}
use Rattle.list_law.proofs.Numbers.{min-mul}
use Rattle.policy_base.proofs.RankingViews.{alternative_count-And}
use Rattle.policy_base.proofs.rank.+alternatives.Goals as goal

pub returns-in-And : goal.returns-in-And
returns-in-And t c =
    let first = rw c.deref-in-And.ensures at c.alternatives-in-And.ensures in
    let second = rw c.deref-in-And-2.ensures at c.alternatives-in-And-2.ensures in
    c.saturating_mul.ensures ∙ rw (first, second) (min-mul _ _ 18446744073709551615)
    ∙ ap (λ n. min n 18446744073709551615) (sym (alternative_count-And c.args.ranked.now c.in-And.a c.in-And.b c.in-And.is))
