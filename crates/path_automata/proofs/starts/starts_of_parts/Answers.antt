use Rattle.std.proofs.Common.{◌≡◌, arith, length, map, subst, sym, take, true, ap, ◌∙◌}
use Rattle.std.proofs.lemmas.List.{take_all}
use Rattle.path_exprs.specs.Parts.{are_known, at, expressions_of_parts, is_earlier}
use Rattle.path_exprs.specs.Runs.{start_of}
use Rattle.path_exprs.proofs.Numbers.{are_earlier-at}
use Rattle.path_terms.specs.Values.{values}
use Rattle.path_automata.proofs.Lists.{known-turn}
use Rattle.path_automata.proofs.Reversals.{part-turn}
use Rattle.path_automata.proofs.starts.starts_of_parts.Goals as goal

pub start_of_part-requires-clause-earlier : goal.start_of_part-requires-clause-earlier
start_of_part-requires-clause-earlier c =
    let p = c.index-parts-i.result in
    subst (λ k. is_earlier k p ≡ true) (sym (ap length c.deref.ensures.value ∙ c.loop-i.invariant.len))
    (subst (λ p. is_earlier c.loop-i.i p ≡ true) (sym c.index-parts-i.is) (are_earlier-at c.args.parts.now c.loop-i.i p c.loop-i-test.true c.requires.earlier))

pub loop-i-init : goal.loop-i-init
loop-i-init c =
    let vs = values c.args.terms.now in
    record {
      made = ap (map (at vs)) c.new-all.ensures.items;
      known = ap (are_known (length vs)) c.new-all.ensures.items;
      len = ap length c.new-all.ensures.items;
    }

pub loop-i-preserved : goal.loop-i-preserved
loop-i-preserved c =
    let cur = values c.loop-i.terms in
    let new = values c.start_of_part.new.terms in
    let ns = c.loop-i.all.items in
    let x = c.start_of_part.ensures.extends in
    let known = c.loop-i.invariant.known in
    let next = c.in_ok-next.ensures.made (expressions_of_parts (take c.loop-i.i c.args.parts.now)) (ap (map (at cur)) c.deref.ensures.value ∙ c.loop-i.invariant.made) in
    record {
      made = ap (map (at new)) c.in_ok-push.ensures.items
          ∙ part-turn c.args.full.now cur new ns c.args.parts.now c.loop-i.i c.in_ok-next.next c.index-parts-i.result x known c.loop-i-test.true c.index-parts-i.is c.loop-i.invariant.made next;
      known = known-turn cur new ns _ _ c.in_ok-push.ensures.items x known c.in_ok-next.ensures.known;
      len = omega (arith, c.in_ok-push.ensures.len, c.loop-i.invariant.len);
    }

pub returns-clause-made : goal.returns-clause-made
returns-clause-made c =
    c.loop-i.invariant.made ∙ ap (λ parts. start_of c.args.full.now (expressions_of_parts parts)) (take_all c.loop-i.i c.args.parts.now c.loop-i-test.false)
