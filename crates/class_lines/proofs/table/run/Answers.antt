use Rattle.std.proofs.Common.{◌∙◌, rules}
use Rattle.class_lines.proofs.Sorting.{ends, is_run, ordered, starts}
use Rattle.class_lines.proofs.table.run.Goals as goal

pub between-requires-clause-order : goal.between-requires-clause-order
between-requires-clause-order c =
    let ls = c.args.lines.now in
    let i = c.partition_point-start.result in
    let j = c.partition_point-end.result in
    let start = starts ls c.args.class i j c.requires c.partition_point-start.ensures.partitioned (λ a r f h. search rules) in
    let end = ends ls c.args.class i j c.requires c.partition_point-end.ensures.partitioned (λ a r f h. search rules) in
    ordered ls c.args.class i j c.requires c.partition_point-start.ensures.bound start end

pub returns : goal.returns
returns c =
    let ls = c.args.lines.now in
    let i = c.partition_point-start.result in
    let j = c.partition_point-end.result in
    let start = starts ls c.args.class i j c.requires c.partition_point-start.ensures.partitioned (λ a r f h. search rules) in
    let end = ends ls c.args.class i j c.requires c.partition_point-end.ensures.partitioned (λ a r f h. search rules) in
    c.between.ensures ∙ is_run ls c.args.class i j c.requires c.partition_point-start.ensures.bound start end
