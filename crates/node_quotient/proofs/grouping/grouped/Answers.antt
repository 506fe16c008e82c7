use Rattle.std.proofs.Common.{◌<◌, length, ◌++◌, ◌∷◌, [], ap, ◌∙◌, arith, ℕ, List}
use Rattle.std.proofs.lemmas.List.{get_or_default, length-set}
use Rattle.node_quotient.specs.Alike.{class_in}
use Rattle.node_quotient.proofs.Groups.{groups_more}
use Rattle.node_quotient.proofs.grouping.grouped.Goals as goal

pub loop-node-preserved : goal.loop-node-preserved
loop-node-preserved c =
    let keys = c.args.keys.now in
    let node = c.loop-node.node in
    let groups = c.loop-node.groups.items in
    let size = c.loop-node.invariant.size in
    let below = c.requires.keys node 0 c.loop-node-test.true in
    let inside : class_in keys node < length groups = omega (arith, below, size) in
    record {
      end = omega (arith, c.loop-node-test.true);
      size = length-set groups (class_in keys node) c.push.new.self ∙ size;
      groups = groups_more keys node groups c.push.new.self c.loop-node.invariant.groups inside
          (c.in_ok-push.ensures.ok ∙ ap (λ (xs : List ℕ). xs ++ node ∷ []) (c.index_mut.ensures.value ∙ get_or_default groups (class_in keys node) _ [] inside));
    }
