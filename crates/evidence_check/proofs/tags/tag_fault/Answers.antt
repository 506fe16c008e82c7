use Rattle.std.proofs.Common.{◌≡◌, ◌+◌, Some, sym, subst, arith}
use Rattle.evidence_base.specs.Made.{case_at}
use Rattle.evidence_verdicts.specs.Rules.{KeepsTag}
use Rattle.evidence_verdicts.specs.Verdicts.{IsFirstAt}
use Rattle.evidence_check.proofs.Alike.{item_at}
use Rattle.evidence_check.proofs.SeenTags.{all_kept, case_of_place}
use Rattle.evidence_check.proofs.tags.tag_fault.Goals as goal

pub returns-in-Some : goal.returns-in-Some
returns-in-Some c =
    let cs = c.args.evidence.now in
    let i = c.loop-place.place in
    let case = c.index-evidence-place.result in
    let is : case_at cs (i + 1) ≡ Some case = case_of_place cs i case (item_at cs i case c.loop-place-test.true c.index-evidence-place.is) in
    let first = rw c.in-Some.is at (c.in_ok-node.ensures cs (i + 1) is c.loop-place.invariant) in
    subst (λ k. IsFirstAt (λ j m _. KeepsTag c.args.net.now cs j m) k c.in-Some.node 0) (sym c.in_ok-case.ensures) first

pub loop-place-preserved : goal.loop-place-preserved
loop-place-preserved c =
    let cs = c.args.evidence.now in
    let i = c.loop-place.place in
    let case = c.index-evidence-place.result in
    let is : case_at cs (i + 1) ≡ Some case = case_of_place cs i case (item_at cs i case c.loop-place-test.true c.index-evidence-place.is) in
    rw c.in_default.is at (c.in_ok-node.ensures cs (i + 1) is c.loop-place.invariant)

pub returns : goal.returns
returns c =
    let cs = c.args.evidence.now in
    all_kept c.args.net.now cs (c.loop-place.place + 1) c.loop-place.seen.keys (omega (arith, c.loop-place-test.false)) c.loop-place.invariant
