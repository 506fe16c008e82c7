use Rattle.std.proofs.Common.{◌≡◌, false, length, ap, sym, subst, ◌∙◌, arith}
use Rattle.std.proofs.lemmas.List.{length-set}
use Rattle.reach_prune.specs.Searches.{is_among, is_marked}
use Rattle.node_quotient.specs.Alike.{list_of}
use Rattle.node_quotient.specs.Partitions.{IsPartition}
use Rattle.node_quotient.specs.Splits.{is_hit}
use Rattle.node_quotient.proofs.Hits.{hits_below, marked_alone, unmarked}
use Rattle.node_quotient.proofs.Splitting.{members_below, members_read, split_none, split_same, split_more}
use Rattle.node_quotient.proofs.partition.Partition.split_by.Goals as goal

pub all_listed-requires : goal.all_listed-requires
all_listed-requires c =
    members_below c.args.self.now (length c.args.before.now) c.args.class _ _ c.requires.partition c.requires.class c.as_slice.ensures c.index.ensures

pub set_each-requires : goal.set_each-requires
set_each-requires c = λ k d lt.
    let below = hits_below c.args.before.now c.as_slice.result.now c.in_ok-hits.hits.items c.deref.result.now c.requires.before c.in_ok-hits.ensures c.deref.ensures.value k d lt in
    omega (arith, below, c.requires.marks)

pub loop-node-init : goal.loop-node-init
loop-node-init c =
    let is = c.requires.partition in
    record {
      partition = record {
        size = is.size;
        rows = is.rows;
        waits = length-set _ _ _ ∙ is.waits;
        met = is.met;
        waiting = is.waiting;
        named = is.named;
        groups = is.groups;
      };
      classes = split_none (is_marked c.set_each.new.items.items) c.args.self.now.classes.items;
    }

pub split_class_of-requires-clause-node : goal.split_class_of-requires-clause-node
split_class_of-requires-clause-node c =
    let below = hits_below c.args.before.now c.as_slice.result.now c.in_ok-hits.hits.items c.deref-node-items.result.now c.requires.before
    c.in_ok-hits.ensures c.deref-node-items.ensures.value c.loop-node.node-index 0 c.loop-node-test.true in
    let marks : length c.deref-in-loop-node.result.now ≡ length c.args.before.now = ap length c.deref-in-loop-node.ensures.value ∙ c.set_each.ensures.size ∙ c.requires.marks in
    omega (arith, below, marks)

pub split_class_of-requires-clause-partition : goal.split_class_of-requires-clause-partition
split_class_of-requires-clause-partition c =
    let marks : length c.deref-in-loop-node.result.now ≡ length c.args.before.now = ap length c.deref-in-loop-node.ensures.value ∙ c.set_each.ensures.size ∙ c.requires.marks in
    subst (λ n. IsPartition n c.loop-node.self) (sym marks) c.loop-node.invariant.partition

pub loop-node-preserved : goal.loop-node-preserved
loop-node-preserved c =
    let value = c.deref-in-loop-node.ensures.value in
    let inv = c.loop-node.invariant in
    let same : length c.loop-node.self.classes.items ≡ length c.args.self.now.classes.items = inv.partition.size ∙ sym c.requires.partition.size in
    record {
      partition = subst (λ n. IsPartition n c.split_class_of.new.self) (ap length value ∙ c.set_each.ensures.size ∙ c.requires.marks) c.in_ok-split_class_of.ensures.partition;
      classes =
          split_more (is_marked c.set_each.new.items.items) c.args.self.now.classes.items c.loop-node.self.classes.items
          c.split_class_of.new.self.classes.items same inv.classes (rw value at c.in_ok-split_class_of.ensures.classes);
    }

pub set_each-requires-2 : goal.set_each-requires-2
set_each-requires-2 c = λ k d lt.
    let below = hits_below c.args.before.now c.as_slice.result.now c.in_ok-hits.hits.items c.deref-2.result.now c.requires.before c.in_ok-hits.ensures c.deref-2.ensures.value k d lt in
    let size = c.set_each.ensures.size in
    omega (arith, below, size, c.requires.marks)

pub returns : goal.returns
returns c =
    let p = c.args.self.now in
    let all = members_read p (length c.args.before.now) c.args.class _ _ c.requires.partition c.requires.class c.as_slice.ensures c.index.ensures in
    let one = c.deref.ensures.value in
    let two = c.deref-2.ensures.value in
    record {
      marks = c.set_each-2.ensures.size ∙ c.set_each.ensures.size ∙ c.requires.marks;
      clear = λ n. c.set_each-2.ensures.items false n ∙ unmarked (is_among c.deref-2.result.now n) _ _ ((rw (one ∙ sym two) at (c.set_each.ensures.items false)) n) (c.requires.clear n);
      partition = c.loop-node.invariant.partition;
      classes = split_same (is_marked c.set_each.new.items.items) (is_hit c.args.before.now (list_of p.members.items c.args.class)) p.classes.items c.loop-node.self.classes.items
          (λ n. c.set_each.ensures.items false n ∙ marked_alone (is_among c.deref.result.now n) _ (c.requires.clear n) ∙ ap (λ xs. is_among xs n) one
          ∙ c.in_ok-hits.ensures n ∙ ap (λ xs. is_hit c.args.before.now xs n) all) c.loop-node.invariant.classes;
    }
