use Rattle.std.proofs.Common.{◌≡◌, ◌∙◌, ◌+◌, arith, length, ap}
use Rattle.std.proofs.lemmas.List.{length-append}
use Rattle.node_classes.proofs.Rooting.{one_more, all_roots}
use Rattle.node_classes.proofs.forest.roots.Goals as goal

pub returns-clause-each : goal.returns-clause-each
returns-clause-each c =
    let inv = c.loop-node.invariant in
    let at_end : c.loop-node.node ≡ c.args.count = omega (arith, c.loop-node-test.false, c.loop-node.auto.node-end) in
    all_roots c.args.up.now.items c.loop-node.all.items c.args.count c.requires.len (inv.count ∙ at_end) (λ x d lt. inv.each x d (omega (arith, lt, at_end)))

pub loop-node-preserved : goal.loop-node-preserved
loop-node-preserved c =
    let inv = c.loop-node.invariant in
    let push = c.in_ok-push.ensures.items in
    record {
      forest = c.root_of.ensures.forest;
      same = λ x. c.root_of.ensures.same x ∙ inv.same x;
      len = c.root_of.ensures.len ∙ inv.len;
      count = ap length push ∙ length-append c.loop-node.all.items _ ∙ ap (λ n. n + 1) inv.count;
      each = one_more c.args.up.now.items c.loop-node.all.items c.push.new.self.items c.loop-node.node c.root_of.result inv.count inv.each push (c.root_of.ensures.root ∙ inv.same c.loop-node.node);
    }
