use Rattle.std.proofs.Common.{◌≡◌, ◌++◌, List, ap, sym, ◌∙◌, subst, arith, length, map}
use Rattle.std.specs.List.{IsDistinct}
use Rattle.node_classes.specs.declared.way.Way.{Way}
use Rattle.node_classes.specs.Ways.{same_pair, stand}
use Rattle.list_law.specs.Members.{IsIn}
use Rattle.walk_check.specs.WaysOf.{step_way}
use Rattle.walk_check.proofs.Laid.{gathered, laid, laid_differ, laid_from, laid_has}
use Rattle.walk_check.proofs.OneWay.{ends_within}
use Rattle.walk_check.proofs.ways.both_ways.Goals as goal

pub put_in_order-requires : goal.put_in_order-requires
put_in_order-requires c =
    let t = c.args.live.now in
    let g = c.args.graph.now in
    let size = ap length c.nodes.ensures.nodes in
    let other = ap length c.nodes-2.ensures.nodes in
    let first = c.in_ok-add_steps.ensures ∙ ap (λ (ws : List Way). ws ++ map (step_way t 0) t.steps) c.in_ok-ways.ensures.items in
    let all : c.add_starts-2.new.ways.items ≡ laid t g =
    gathered t g c.add_steps.new.ways.items c.add_steps-2.new.ways.items c.add_starts.new.ways.items c.add_starts-2.new.ways.items _ _ _ first c.in_ok-add_steps-2.ensures c.in_ok-add_starts.ensures
    c.in_ok-add_starts-2.ensures size (omega (arith, size, other)) (omega (arith, size, other)) in
    subst (λ ws. IsDistinct same_pair (map stand ws)) (sym all) (laid_differ t g c.nodes.ensures.rules c.nodes-2.ensures.rules c.requires.live c.requires.graph)

pub returns-clause-same : goal.returns-clause-same
returns-clause-same c = λ w.
    let t = c.args.live.now in
    let g = c.args.graph.now in
    let size = ap length c.nodes.ensures.nodes in
    let other = ap length c.nodes-2.ensures.nodes in
    let first = c.in_ok-add_steps.ensures ∙ ap (λ (ws : List Way). ws ++ map (step_way t 0) t.steps) c.in_ok-ways.ensures.items in
    let all : c.add_starts-2.new.ways.items ≡ laid t g =
    gathered t g c.add_steps.new.ways.items c.add_steps-2.new.ways.items c.add_starts.new.ways.items c.add_starts-2.new.ways.items _ _ _ first c.in_ok-add_steps-2.ensures c.in_ok-add_starts.ensures
    c.in_ok-add_starts-2.ensures size (omega (arith, size, other)) (omega (arith, size, other)) in
    let same = c.put_in_order.ensures.same w in (
      λ h. laid_from t g w (subst (λ ws. IsIn ws w) all (same.0 h)),
      λ h. same.1 (subst (λ ws. IsIn ws w) (sym all) (laid_has t g w h)),
    )

pub returns-clause-ends : goal.returns-clause-ends
returns-clause-ends c =
    let t = c.args.live.now in
    let g = c.args.graph.now in
    ends_within t g c.nodes.ensures.rules c.nodes-2.ensures.rules c.put_in_order.new.ways.items (λ w. (returns-clause-same c w).0)
