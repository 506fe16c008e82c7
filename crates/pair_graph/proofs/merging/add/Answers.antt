use Rattle.std.proofs.Common.{◌≡◌, ◌+◌, ◌∙◌, sym, ap, subst, Some}
use Rattle.pair_graph.specs.Nexts.{AreNextsBelow}
use Rattle.pair_graph.specs.Pairs.{joined}
use Rattle.pair_graph.proofs.Nexts.{nexts_push, nexts_skip}
use Rattle.pair_graph.proofs.WalkPairs.{joined_parts}
use Rattle.pair_graph.proofs.merging.add.Goals as goal

pub returns-in_ok-push : goal.returns-in_ok-push
returns-in_ok-push c = λ next are is.
    let given = c.joined.ensures ∙ ap (λ l. joined l c.args.first c.args.second) c.new.ensures in
    let there : joined c.args.place c.args.first c.args.second ≡ Some c.in-Some.pair = sym given ∙ c.in-Some.is in
    subst (λ xs. AreNextsBelow next xs (c.args.place + 1)) (sym c.in_ok-push.ensures.items)
    (nexts_push next c.args.pairs.now.items c.args.place c.in-Some.pair are (is ∙ there) (joined_parts c.args.place c.args.first c.args.second c.in-Some.pair there).0)

pub returns-in_default : goal.returns-in_default
returns-in_default c = λ next are is.
    let given = c.joined.ensures ∙ ap (λ l. joined l c.args.first c.args.second) c.new.ensures in
    nexts_skip next c.args.pairs.now.items c.args.place are (is ∙ sym given ∙ c.in_default.is)
