use Rattle.std.proofs.Common.{length, ◌∙◌, arith}
use Rattle.std.proofs.lemmas.List.{length-set}
use Rattle.reach_prune.specs.Searches.{is_marked}
use Rattle.node_quotient.proofs.Splitting.{class_below, split_none}
use Rattle.node_quotient.proofs.partition.Partition.split_class_of.Goals as goal

pub index-class-requires : goal.index-class-requires
index-class-requires c =
    let size = c.requires.partition.size in
    let len = c.args.self.now.classes.ok.0 in
    omega (arith, c.requires.node, size, len)

pub index-requires : goal.index-requires
index-requires c =
    let class = class_below c.args.self.now (length c.args.marks.now) _ c.index-class.result.now c.requires.partition c.requires.node c.index-class.ensures in
    let met = c.requires.partition.met in
    let len = c.args.self.now.met.ok.0 in
    omega (arith, class, met, len)

pub index_mut-requires : goal.index_mut-requires
index_mut-requires c =
    let class = class_below c.args.self.now (length c.args.marks.now) _ c.index-class.result.now c.requires.partition c.requires.node c.index-class.ensures in
    let met = c.requires.partition.met in
    let len = c.args.self.now.met.ok.0 in
    omega (arith, class, met, len)

pub split-requires-clause-class : goal.split-requires-clause-class
split-requires-clause-class c = class_below c.args.self.now (length c.args.marks.now) _ c.index-class.result.now c.requires.partition c.requires.node c.index-class.ensures

pub split-requires-clause-partition : goal.split-requires-clause-partition
split-requires-clause-partition c =
    let is = c.requires.partition in
    record {
      size = is.size;
      rows = is.rows;
      waits = is.waits;
      met = length-set _ _ _ ∙ is.met;
      waiting = is.waiting;
      named = is.named;
      groups = is.groups;
    }

pub returns-then-index-turn-clause-classes : goal.returns-then-index-turn-clause-classes
returns-then-index-turn-clause-classes c = split_none (is_marked c.args.marks.now) c.args.self.now.classes.items
