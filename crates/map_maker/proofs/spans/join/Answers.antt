use Rattle.std.proofs.Common.{◌≡◌, ◌<◌, ◌∷◌, ◌++◌, [], subst, max, arith, rules, List}
use Rattle.map_maker.specs.Keys.{AreJoined}
use Rattle.map_maker.specs.declared.spans.Span.{Span}
use Rattle.map_maker.proofs.SpanSets.{new, new_joined}
use Rattle.map_maker.proofs.spans.join.Goals as goal

pub returns-clause-joined : goal.returns-clause-joined
returns-clause-joined c =
    let less : max c.args.span.from c.args.reached < c.args.span.to = omega (arith, c.if-from-span.false, c.max-from.ensures) in
    let items : c.args.apart.now.items ++ new c.args.apart.now.items c.args.reached c.args.span c.requires ∷ [] ≡ c.push.new.self.items = search rules in
    subst (λ (xs : List Span). AreJoined xs c.args.span.to c.args.span.from) items (new_joined c.args.apart.now.items c.args.reached c.args.span c.requires less)
