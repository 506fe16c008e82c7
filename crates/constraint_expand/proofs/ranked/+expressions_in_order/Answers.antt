use Rattle.std.proofs.Common.{◌≡◌, ap, length, map, subst, sym, true, ◌∙◌}
use Rattle.std.proofs.lemmas.Result.{IfOk-weaker}
use Rattle.policy_base.proofs.RankingViews.{ranking_of-Calls, ranking_of-Prefer, ranking_of-Or, ranking_of-And, ranking_of-Not}
use Rattle.policy_base.specs.declared.call.Call.TheVariants.{Of}
use Rattle.path_exprs.specs.Forward.{expressions, forward}
use Rattle.path_exprs.specs.Parts.{are_known, at, Puts}
use Rattle.path_exprs.specs.Shared.{values}
use Rattle.constraint_expand.proofs.Sides.{first-known, none-put, of, pairs-put, sides, some-put}
use Rattle.constraint_expand.proofs.Turns.{pairs}
use Rattle.constraint_expand.proofs.ranked.+expressions_in_order.Goals as goal

pub returns-in-Calls : goal.returns-in-Calls
returns-in-Calls t c =
    let net = c.args.net.now in
    let is = ap (of net) c.in-Calls.is ∙ ap (expressions net) (ranking_of-Calls c.in-Calls.call c.in-Calls.sets) in
    IfOk-weaker c.forward_each.result _ _
    (λ r q. subst (Puts (values c.args.parts.now) (values c.forward_each.new.parts) r.items) (sym is)
    (subst (λ sets. Puts (values c.args.parts.now) (values c.forward_each.new.parts) r.items (map (forward net) (map (Of c.in-Calls.call) sets))) c.as_slice.ensures q))
    c.forward_each.ensures

pub returns-in_ok-append-in-Prefer : goal.returns-in_ok-append-in-Prefer
returns-in_ok-append-in-Prefer t c =
    let net = c.args.net.now in
    let old = values c.args.parts.now in
    let new = values c.expressions_in_order-in-Prefer.new.parts in
    subst (Puts old new c.append.new.self.items) (sym (ap (of net) c.in-Prefer.is ∙ ap (expressions net) (ranking_of-Prefer c.in-Prefer.a c.in-Prefer.b)))
    (sides net old (values c.expressions_in_order.new.parts) new c.in_ok-first-in-Prefer.first.items c.in_ok-second-in-Prefer.second.items c.append.new.self.items
    c.deref.result.now c.deref-in-Prefer.result.now c.in-Prefer.a.value c.in-Prefer.b.value c.in_ok-first-in-Prefer.ensures c.in_ok-second-in-Prefer.ensures c.deref.ensures c.deref-in-Prefer.ensures
    c.in_ok-append-in-Prefer.ensures.items)

pub alone-requires-in-Or : goal.alone-requires-in-Or
alone-requires-in-Or t c = record {
  earlier = (sides c.args.net.now (values c.args.parts.now) (values c.expressions_in_order-in-Or.new.parts) (values c.expressions_in_order-in-Or-2.new.parts)
      c.in_ok-first-in-Or.first.items c.in_ok-second-in-Or.second.items c.append-in-Or.new.self.items
      c.deref-in-Or.result.now c.deref-in-Or-2.result.now c.in-Or.a.value c.in-Or.b.value c.in_ok-first-in-Or.ensures c.in_ok-second-in-Or.ensures c.deref-in-Or.ensures c.deref-in-Or-2.ensures
      c.in_ok-append-in-Or.ensures.items).1;
}

pub returns-in_ok-append-in-Or : goal.returns-in_ok-append-in-Or
returns-in_ok-append-in-Or t c =
    let net = c.args.net.now in
    let old = values c.args.parts.now in
    let mid = values c.expressions_in_order-in-Or-2.new.parts in
    let new = values c.alone-in-Or.new.parts in
    let put = sides net old (values c.expressions_in_order-in-Or.new.parts) mid c.in_ok-first-in-Or.first.items c.in_ok-second-in-Or.second.items c.append-in-Or.new.self.items
    c.deref-in-Or.result.now c.deref-in-Or-2.result.now c.in-Or.a.value c.in-Or.b.value c.in_ok-first-in-Or.ensures c.in_ok-second-in-Or.ensures c.deref-in-Or.ensures c.deref-in-Or-2.ensures
    c.in_ok-append-in-Or.ensures.items in
    let is = ap (of net) c.in-Or.is ∙ ap (expressions net) (ranking_of-Or c.in-Or.a c.in-Or.b) in
    IfOk-weaker c.alone-in-Or.result _ _ (λ r q. subst (Puts old new r.items) (sym is) (some-put old mid new c.append-in-Or.new.self.items r.items _ put q)) c.alone-in-Or.ensures

pub pairs_of-requires-clause-first : goal.pairs_of-requires-clause-first
pairs_of-requires-clause-first t c =
    let new = values c.expressions_in_order-in-And-2.new.parts in
    subst (λ ns. are_known (length new) ns ≡ true) (sym c.deref-in-And-3.ensures.value)
    (first-known (values c.args.parts.now) (values c.expressions_in_order-in-And.new.parts) new c.in_ok-first-in-And.first.items c.in_ok-second-in-And.second.items _ _
    c.in_ok-first-in-And.ensures c.in_ok-second-in-And.ensures)

pub returns-in_ok-second-in-And : goal.returns-in_ok-second-in-And
returns-in_ok-second-in-And t c =
    let net = c.args.net.now in
    let old = values c.args.parts.now in
    let up = values c.expressions_in_order-in-And-2.new.parts in
    let new = values c.pairs_of.new.parts in
    let ns = c.in_ok-first-in-And.first.items in
    let ms = c.in_ok-second-in-And.second.items in
    let is = ap (of net) c.in-And.is ∙ ap (expressions net) (ranking_of-And c.in-And.a c.in-And.b) in
    let same =
    ap (λ l. pairs (map (at up) l) (map (at up) c.deref-in-And-3.result.now)) c.deref-in-And-4.ensures.value
    ∙ ap (λ l. pairs (map (at up) ms) (map (at up) l)) c.deref-in-And-3.ensures.value in
    IfOk-weaker c.pairs_of.result _ _
    (λ r q. subst (Puts old new r.items) (sym is)
    (pairs-put net old (values c.expressions_in_order-in-And.new.parts) up new ns ms r.items c.deref-in-And.result.now c.deref-in-And-2.result.now c.in-And.a.value c.in-And.b.value
    c.in_ok-first-in-And.ensures c.in_ok-second-in-And.ensures c.deref-in-And.ensures c.deref-in-And-2.ensures (subst (Puts up new r.items) same q)))
    c.pairs_of.ensures

pub returns-in_ok-some-in-Not : goal.returns-in_ok-some-in-Not
returns-in_ok-some-in-Not t c =
    let net = c.args.net.now in
    let old = values c.args.parts.now in
    let mid = values c.expressions_in_order-in-Not.new.parts in
    let up = values c.add.new.self in
    let new = values c.alone-in-Not.new.parts in
    let all = c.in_ok-all-in-Not.all.items in
    let is = ap (of net) c.in-Not.is ∙ ap (expressions net) (ranking_of-Not c.in-Not.a) in
    let put = subst (λ r. Puts old mid all (of net r)) c.deref-in-Not.ensures c.in_ok-all-in-Not.ensures in
    IfOk-weaker c.alone-in-Not.result _ _
    (λ r q. subst (Puts old new r.items) (sym is) (none-put old mid up new all r.items c.in_ok-some-in-Not.some _ put c.in_ok-some-in-Not.ensures.added c.in_ok-some-in-Not.ensures.number q))
    c.alone-in-Not.ensures
