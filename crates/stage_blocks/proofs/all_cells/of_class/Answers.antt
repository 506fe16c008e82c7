use Rattle.std.proofs.Common.{◌∙◌, rules}
use Rattle.stage_blocks.proofs.Runs.{end_point, run_is, run_starts, start_point}
use Rattle.stage_blocks.proofs.all_cells.of_class.Goals as goal

pub between-requires-clause-order : goal.between-requires-clause-order
between-requires-clause-order g c =
    let tag_of = g.L.TagLine.tag_of in
    let class_of = g.L.TagLine.class_of in
    let start = start_point tag_of class_of c.args.lines.now c.args.class c.partition_point-start.result c.requires c.partition_point-start.ensures.partitioned (λ a r f h. search rules) in
    let end = end_point tag_of class_of c.args.lines.now c.args.class c.partition_point-end.result c.requires c.partition_point-end.ensures.partitioned (λ a r f h. search rules) in
    run_starts tag_of class_of c.args.class c.partition_point-start.result c.partition_point-end.result c.args.lines.now c.partition_point-start.ensures.bound start end

pub returns : goal.returns
returns g c =
    let tag_of = g.L.TagLine.tag_of in
    let class_of = g.L.TagLine.class_of in
    let start = start_point tag_of class_of c.args.lines.now c.args.class c.partition_point-start.result c.requires c.partition_point-start.ensures.partitioned (λ a r f h. search rules) in
    let end = end_point tag_of class_of c.args.lines.now c.args.class c.partition_point-end.result c.requires c.partition_point-end.ensures.partitioned (λ a r f h. search rules) in
    c.between.ensures ∙ run_is tag_of class_of c.args.class c.partition_point-start.result c.partition_point-end.result c.args.lines.now c.partition_point-start.ensures.bound start end
