use Rattle.std.proofs.Common.{◌∙◌, rules}
use Rattle.map_maker.proofs.EarlierLaws.{empty_run, point, run_starts, run_is}
use Rattle.map_maker.proofs.earlier.run.Goals as goal

pub returns-then-span : goal.returns-then-span
returns-then-span c = empty_run c.args.block.now c.args.span c.if-span.true

pub between-requires-clause-order : goal.between-requires-clause-order
between-requires-clause-order c =
    let start = point c.args.block.now c.args.span.from c.partition_point-start.result c.requires c.partition_point-start.ensures.partitioned (λ a r f h. search rules) in
    let end = point c.args.block.now c.args.span.to c.partition_point-end.result c.requires c.partition_point-end.ensures.partitioned (λ a r f h. search rules) in
    run_starts c.args.block.now c.args.span c.requires c.if-span.false c.partition_point-start.result c.partition_point-end.result c.partition_point-start.ensures.bound start end

pub returns : goal.returns
returns c =
    let start = point c.args.block.now c.args.span.from c.partition_point-start.result c.requires c.partition_point-start.ensures.partitioned (λ a r f h. search rules) in
    let end = point c.args.block.now c.args.span.to c.partition_point-end.result c.requires c.partition_point-end.ensures.partitioned (λ a r f h. search rules) in
    c.between.ensures ∙ run_is c.args.block.now c.args.span c.requires c.if-span.false c.partition_point-start.result c.partition_point-end.result c.partition_point-start.ensures.bound start end
