use Rattle.std.proofs.Common.{◌<◌, length, arith}
use Rattle.list_law.proofs.Exits.{passed_on}
use Rattle.config_lines.proofs.CutParts.{cut_shorter}
use Rattle.config_lines.specs.LineLines.{lines_of}
use Rattle.config_lines.proofs.CutLines.{lines_of-few}
use Rattle.config_lines.proofs.LineByLine.{one_taken, all_taken}
use Rattle.map_reader.specs.MapsRead.{with_line}
use Rattle.map_reader.proofs.MapCuts.{faulty, finished_behind}
use Rattle.map_reader.proofs.MapReadTexts.{behind_lawful}
use Rattle.map_reader.proofs.MapSteps.{with_line-lists}
use Rattle.map_reader.proofs.read.read_behind_heading.Goals as goal

pub take_line-requires : goal.take_line-requires
take_line-requires c = omega (arith, c.loop-line.invariant.so_far.feeds, c.loop-line.invariant.lists)

pub returns-in_err-reading : goal.returns-in_err-reading
returns-in_err-reading c =
    let l = c.loop-line in
    rw (passed_on c.from_residual.result c.from_residual.ensures.1)
    (λ memory. faulty c.in-Some.line.now c.in-Some.more.now c.in_err-reading.field-0.0 l.invariant.so_far c.in-Some.ensures (c.in_err-reading.ensures memory))

pub overflow_add-number : goal.overflow_add-number
overflow_add-number c =
    let shorter = cut_shorter 10 c.loop-line.rest.now c.in-Some.line.now c.in-Some.more.now c.in-Some.ensures in
    omega (arith, c.loop-line.invariant.so_far.feeds, shorter)

pub loop-line-smaller : goal.loop-line-smaller
loop-line-smaller c = omega (arith, cut_shorter 10 c.loop-line.rest.now c.in-Some.line.now c.in-Some.more.now c.in-Some.ensures)

pub loop-line-preserved : goal.loop-line-preserved
loop-line-preserved c =
    let l = c.loop-line in
    let s = c.in_ok-reading.reading in
    let more = with_line-lists l.number l.reading s c.in-Some.line.now c.in_ok-reading.ensures in
    record {
      lists = omega (arith, l.invariant.lists, more.1);
      so_far = one_taken with_line l.invariant.so_far s c.in-Some.line.now c.in-Some.more.now c.in-Some.ensures c.in_ok-reading.ensures;
    }

pub finish-requires : goal.finish-requires
finish-requires c = λ none.
    let l = c.loop-line in
    let all = all_taken with_line l.invariant.so_far c.in_default.ensures in
    let few : length (lines_of c.args.bytes.now) < 4294967295 = omega (arith, lines_of-few c.args.bytes.now, c.requires) in
    (behind_lawful (lines_of c.args.bytes.now) l.reading few all.0 none).rules

pub returns : goal.returns
returns c =
    let l = c.loop-line in
    rw (finished_behind l.invariant.so_far c.in_default.ensures) c.finish.ensures
