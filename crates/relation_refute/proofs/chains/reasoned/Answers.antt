use Rattle.std.proofs.Common.{ℕ, List, length, arith, refl, ap}
use Rattle.std.proofs.lemmas.Option.{slice_get_read}
use Rattle.bit_rows.specs.Tables.{has_at}
use Rattle.graph_base.specs.declared.refutation.Removed.{Removed}
use Rattle.graph_base.specs.Graphs.{PlainGraph}
use Rattle.net_base.specs.declared.loc.LocSet.{LocSet}
use Rattle.relation_law.specs.Views.{view_of}
use Rattle.relation_refute.specs.declared.chains.Line.{Line}
use Rattle.relation_refute.specs.declared.falls.Fallen.{Fallen}
use Rattle.relation_refute.proofs.Chaining.{fails_told, goes_told}
use Rattle.relation_refute.proofs.Lining.{reasoned_all, reasoned_more}
use Rattle.relation_refute.proofs.chains.reasoned.Goals as goal

pub loop-line-init : goal.loop-line-init
loop-line-init c = record { within = omega arith; len = ap length c.new-removed.ensures; each = λ i l lt at. absurd (omega (arith, lt)) }

pub fault_of-fault-requires-clause-m : goal.fault_of-fault-requires-clause-m
fault_of-fault-requires-clause-m c =
    let lines : List Line = c.args.lines.now in
    let at = slice_get_read lines (length lines) c.loop-line.line-index c.line-item.result refl c.loop-line-test.true c.line-item.is in
    (c.requires.lines c.line-item.result (c.loop-line.line-index, at)).pair.left

pub fault_of-fault-requires-clause-n : goal.fault_of-fault-requires-clause-n
fault_of-fault-requires-clause-n c =
    let lines : List Line = c.args.lines.now in
    let at = slice_get_read lines (length lines) c.loop-line.line-index c.line-item.result refl c.loop-line-test.true c.line-item.is in
    (c.requires.lines c.line-item.result (c.loop-line.line-index, at)).pair.right

pub fault_of-fault-requires-clause-fails : goal.fault_of-fault-requires-clause-fails
fault_of-fault-requires-clause-fails c =
    let lines : List Line = c.args.lines.now in
    let line : Line = c.line-item.result in
    let at = slice_get_read lines (length lines) c.loop-line.line-index line refl c.loop-line-test.true c.line-item.is in
    let is = c.requires.lines line (c.loop-line.line-index, at) in
    fails_told c.args.maps.now.graph.now c.args.claimed.now c.requires.graph c.requires.single c.args.fallen.now c.requires.fallen line.round line.better line.worse is.pair is.went is.round

pub loop-line-preserved : goal.loop-line-preserved
loop-line-preserved c =
    let g : PlainGraph = c.args.maps.now.graph.now in
    let claimed : LocSet = c.args.claimed.now in
    let f : Fallen = c.args.fallen.now in
    let lines : List Line = c.args.lines.now in
    let line : Line = c.line-item.result in
    let i : ℕ = c.loop-line.line-index in
    let at = slice_get_read lines (length lines) i line refl c.loop-line-test.true c.line-item.is in
    let is = c.requires.lines line (i, at) in
    let why = c.fault_of-fault.result.why in
    let told : Removed = record { better = line.better; worse = line.worse; round = line.round; why = why } in
    let goes = goes_told g claimed c.requires.graph c.requires.single f c.requires.fallen line.round line.better line.worse why is.pair is.went is.round c.fault_of-fault.ensures.reason in
    reasoned_more (view_of g claimed) (has_at f.onwards) lines i c.loop-line.removed c.push.new.self line told c.loop-line.invariant at c.in_ok-push.ensures.ok refl refl refl goes

pub returns : goal.returns
returns c =
    reasoned_all (view_of c.args.maps.now.graph.now c.args.claimed.now) (has_at c.args.fallen.now.onwards) c.args.lines.now c.loop-line.line-index
    c.loop-line.removed c.loop-line.invariant (omega (arith, c.loop-line-test.false))
