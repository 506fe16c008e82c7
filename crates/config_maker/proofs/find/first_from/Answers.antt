use Rattle.std.proofs.Common.{rules}
use Rattle.std.specs.Prelude.{nat_lt}
use Rattle.std.proofs.lemmas.List.Sorted.{IsPartitionPoint-from_clause}
use Rattle.config_maker.specs.declared.hop.Hop.{Hop}
use Rattle.config_maker.proofs.Reached.{first_reached, lower_parts}
use Rattle.config_maker.proofs.find.first_from.Goals as goal

pub returns : goal.returns
returns c =
    first_reached c.args.hops.now c.partition_point.result c.args.from c.partition_point.ensures.bound
    (IsPartitionPoint-from_clause (λ (x : Hop). nat_lt x.from c.args.from) c.args.hops.now c.partition_point.result
    c.partition_point.ensures.partitioned (lower_parts c.args.from c.args.hops.now c.requires) (λ a r f h. search rules))
