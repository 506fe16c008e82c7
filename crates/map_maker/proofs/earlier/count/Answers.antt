use Rattle.std.proofs.Common.{◌≡◌, List, [], drop, ap, arith}
use Rattle.std.specs.Prelude.{count_by}
use Rattle.std.proofs.lemmas.List.{drop_all}
use Rattle.map_maker.specs.Keys.{in_some}
use Rattle.map_maker.specs.Earlier.{entries_in}
use Rattle.map_maker.specs.declared.earlier.Entry.{Entry}
use Rattle.map_maker.proofs.earlier.count.Goals as goal

pub returns : goal.returns
returns c =
    let none : drop c.loop-block.block-index c.args.blocks.now ≡ [] = drop_all c.loop-block.block-index c.args.blocks.now (omega (arith, c.loop-block-test.false)) in
    let nothing : count_by (λ (e : Entry). in_some c.args.spans.now e.key) (entries_in (drop c.loop-block.block-index c.args.blocks.now)) ≡ 0 =
    ap (λ (bs : List (List Entry)). count_by (λ (e : Entry). in_some c.args.spans.now e.key) (entries_in bs)) none in
    omega (arith, c.loop-block.invariant.rest, nothing, c.loop-block.invariant.few)
