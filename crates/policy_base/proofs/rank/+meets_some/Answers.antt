use Rattle.std.proofs.Common.{sym, ◌∙◌}
use Rattle.list_law.proofs.Truth.{and_by_first, and_by_second}
use Rattle.policy_base.proofs.RankingViews.{some_test-And}
use Rattle.policy_base.proofs.rank.+meets_some.Goals as goal

pub returns-then-meets_some-3 : goal.returns-then-meets_some-3
returns-then-meets_some-3 t c =
    let first = rw c.deref-in-And.ensures at c.meets_some-in-And.ensures in
    let second = rw c.deref-then-meets_some-3.ensures at c.meets_some-then-meets_some-3.ensures in
    and_by_second _ _ _ _ (some_test-And c.args.net.now c.args.ranked.now c.in-And.a c.in-And.b c.args.path.now c.in-And.is)
    (sym first ∙ c.if-meets_some-3.true) second

pub returns-else-meets_some-3 : goal.returns-else-meets_some-3
returns-else-meets_some-3 t c =
    let first = rw c.deref-in-And.ensures at c.meets_some-in-And.ensures in
    and_by_first _ _ _ _ (some_test-And c.args.net.now c.args.ranked.now c.in-And.a c.in-And.b c.args.path.now c.in-And.is)
    (sym first ∙ c.if-meets_some-3.false) c.if-meets_some-3.false
