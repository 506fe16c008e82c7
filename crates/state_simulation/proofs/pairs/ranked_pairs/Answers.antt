use Rattle.std.proofs.Common.{◌≡◌, ◌&&◌, ◌||◌, not, eqb, length, arith, ap, ◌∙◌}
use Rattle.std.proofs.lemmas.Bool.{lt-ltb}
use Rattle.graph_base.specs.Graphs.{PlainGraph}
use Rattle.relation_law.specs.Rounds.{same_place}
use Rattle.relation_law.specs.Views.{view_of}
use Rattle.state_simulation.specs.Targets.{is_outranked}
use Rattle.list_law.proofs.Numbers.{next_below}
use Rattle.state_simulation.proofs.pairs.ranked_pairs.Goals as goal

pub add_above-requires-clause-before : goal.add_above-requires-clause-before
add_above-requires-clause-before c = λ r b lr lb.
    let v = view_of c.args.maps.now.graph.now c.args.claimed.now in
    let size : length c.nodes.result.now ≡ length c.args.maps.now.graph.now.nodes = ap length c.nodes.ensures.nodes ∙ ap (λ (g : PlainGraph). length g.nodes) c.graph.ensures in
    c.loop-n.invariant.bits b r lb (omega (arith, lr, size, c.loop-n-test.true))
    ∙ ap (λ z. z && (same_place v b r && not (is_outranked v b r))) (lt-ltb r c.loop-n.n lr)

pub loop-n-preserved : goal.loop-n-preserved
loop-n-preserved c =
    let inv = c.loop-n.invariant in
    let v = view_of c.args.maps.now.graph.now c.args.claimed.now in
    let size = c.add_above.ensures.size in
    record {
      rows = record { count = size.count ∙ inv.rows.count; bits = size.bits ∙ inv.rows.bits; few = inv.rows.few };
      wide = record { room = omega (arith, inv.wide.room, size.width); tight = omega (arith, inv.wide.tight, size.width) };
      bits = λ m n lm ln.
          c.add_above.ensures.bits n m ln lm ∙ ap (λ z. z || (eqb n c.loop-n.n && (same_place v m c.loop-n.n && not (is_outranked v m c.loop-n.n)))) (inv.bits m n lm ln)
          ∙ next_below n c.loop-n.n (λ x. same_place v m x && not (is_outranked v m x));
    }

pub returns-clause-bits : goal.returns-clause-bits
returns-clause-bits c = λ m n lm ln.
    let v = view_of c.args.maps.now.graph.now c.args.claimed.now in
    let size : length c.nodes.result.now ≡ length c.args.maps.now.graph.now.nodes = ap length c.nodes.ensures.nodes ∙ ap (λ (g : PlainGraph). length g.nodes) c.graph.ensures in
    c.loop-n.invariant.bits m n lm ln
    ∙ ap (λ z. z && (same_place v m n && not (is_outranked v m n))) (lt-ltb n c.loop-n.n (omega (arith, ln, size, c.loop-n-test.false)))
