use Rattle.std.proofs.Common.{◌==◌, ◌&&◌, ◌||◌, List, sym, ap, ap₂, ◌∙◌, subst, arith}
use Rattle.std.proofs.lemmas.List.{take_all}
use Rattle.std.proofs.lemmas.List.Folds.{list_any_more}
use Rattle.evidence_base.specs.Made.{PlainCaseEvidence}
use Rattle.promises_report.specs.Apart.{meet_in}
use Rattle.promises_report.specs.NodeRanks.{has_rank_in}
use Rattle.promises_report.specs.Tables.{AreMet, meet_among}
use Rattle.promises_report.proofs.meeting.met_ranks.Goals as goal

pub loop-case-preserved : goal.loop-case-preserved
loop-case-preserved c =
    let net = c.args.net.now in
    let ds = c.args.cases.now in
    let k = c.loop-case.case-index in
    let inv = c.loop-case.invariant in
    let size = c.in_ok-meet_own.ensures.size in
    let old = c.loop-case.met in
    let new = c.meet_own.new.met in
    record {
      count = size.count ∙ inv.count;
      bits = size.bits ∙ inv.bits;
      each = λ i j some_i low_i some_j low_j.
          let test = λ (d : PlainCaseEvidence). d.case.statement == c.args.number && meet_in net (has_rank_in d.graph) i j in
          c.in_ok-meet_own.ensures.bits i j some_i low_i some_j low_j
          ∙ ap₂ (λ t u. t || u) (inv.each i j some_i low_i some_j low_j) (ap test c.case-item.is)
          ∙ sym (list_any_more test ds k c.case-item.result c.loop-case-test.true);
    }

pub returns : goal.returns
returns c =
    let net = c.args.net.now in
    let ds = c.args.cases.now in
    subst (λ (es : List PlainCaseEvidence). AreMet (meet_among net es c.args.number) c.args.ranks c.loop-case.met)
    (take_all c.loop-case.case-index ds (omega (arith, c.loop-case-test.false))) c.loop-case.invariant
