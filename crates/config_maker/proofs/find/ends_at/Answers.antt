use Rattle.std.proofs.Common.{◌≡◌, rules, true, false}
use Rattle.std.specs.List.Sorted.{IsPartitionPoint}
use Rattle.std.proofs.lemmas.List.Sorted.{IsPartitionPoint-from_clause}
use Rattle.config_maker.proofs.Runs.{below_place, upto_place, below_parts, upto_place_parts, places_ordered, places_run}
use Rattle.config_maker.proofs.find.ends_at.Goals as goal

pub returns : goal.returns
returns c =
    let start : IsPartitionPoint (λ x. below_place c.args.at x ≡ true) (λ x. below_place c.args.at x ≡ false) c.args.announced.now c.partition_point-start.result =
    IsPartitionPoint-from_clause (below_place c.args.at) c.args.announced.now c.partition_point-start.result
    c.partition_point-start.ensures.partitioned (below_parts c.args.at c.args.announced.now c.requires) (λ a r f h. search rules) in
    let end : IsPartitionPoint (λ x. upto_place c.args.at x ≡ true) (λ x. upto_place c.args.at x ≡ false) c.args.announced.now c.partition_point-end.result =
    IsPartitionPoint-from_clause (upto_place c.args.at) c.args.announced.now c.partition_point-end.result c.partition_point-end.ensures.partitioned
    (upto_place_parts c.args.at c.args.announced.now c.requires) (λ a r f h. search rules) in
    record {
      order = places_ordered c.args.at c.args.announced.now c.partition_point-start.result c.partition_point-end.result c.partition_point-start.ensures.bound start end;
      bound = c.partition_point-end.ensures.bound;
      run = places_run c.args.at c.args.announced.now c.partition_point-start.result c.partition_point-end.result c.partition_point-start.ensures.bound start end;
    }
