use Rattle.std.proofs.Common.{◌≡◌, ◌+◌, ℕ, [], None, Some, rules, false, ap, sym, subst, ◌∙◌, length, length-set, replicate, take}
use Rattle.std.specs.List.{position}
use Rattle.std.proofs.lemmas.List.{take_all}
use Rattle.net_base.specs.Network.{joins}
use Rattle.outcome_claims.specs.Marks.{AreMarks}
use Rattle.outcome_claims.proofs.Marking.{mark_past, mark_there, no_marks}
use Rattle.outcome_claims.proofs.marks.marks_of.Goals as goal
use Rattle.outcome_claims.proofs.marks.marks_of.Goals.{in-Some, in_default}

pub loop-pair-init : goal.loop-pair-init
loop-pair-init c =
    let made = c.in_ok-marks.ensures.items_if_clones_equal (λ y h. search rules) ∙ ap (λ n. replicate n false) (ap length c.links.ensures.links) in
    subst (AreMarks c.args.net.now []) (sym made) (no_marks c.args.net.now)

pub loop-pair-preserved : goal.loop-pair-preserved
loop-pair-preserved c =
    let net = c.args.net.now in
    let pairs = c.args.pairs.now in
    let i = c.loop-pair.pair-index in
    let marks = c.loop-pair.marks.items in
    let pair = c.pair-item.result in
    elim c.match-link_place.branch [
      | in-Some w ↦
          subst (λ v. AreMarks net (take (i + 1) pairs) v.items) (sym w.marks-is)
          (mark_there net pairs i pair c.loop-pair-test.true marks c.loop-pair.invariant w.in-Some.place (length-set _ _ _)
          (subst (λ (p : ℕ × ℕ). position (joins p.0 p.1) net.links ≡ Some w.in-Some.place) c.pair-item.is (sym c.link_place.ensures ∙ w.in-Some.is)))
      | in_default w ↦
          subst (λ v. AreMarks net (take (i + 1) pairs) v.items) (sym w.marks-is)
          (mark_past net pairs i pair c.loop-pair-test.true marks c.loop-pair.invariant
          (subst (λ (p : ℕ × ℕ). position (joins p.0 p.1) net.links ≡ None) c.pair-item.is (sym c.link_place.ensures ∙ w.in_default.is)))
    ]

pub returns : goal.returns
returns c =
    subst (λ ps. AreMarks c.args.net.now ps c.loop-pair.marks.items) (take_all c.loop-pair.pair-index c.args.pairs.now c.loop-pair-test.false) c.loop-pair.invariant
