use Rattle.std.proofs.Common.{ℕ, ◌+◌, ◌-◌, ◌&&◌, drop, get_or, arith, ap, sym, ◌∙◌, false, length-drop}
use Rattle.std.proofs.lemmas.List.{get_or_default}
use Rattle.std.proofs.Math.Bool.{and-false}
use Rattle.net_base.specs.Sets.{holds}
use Rattle.policy_base.specs.Meaning.{some_step}
use Rattle.policy_base.proofs.PlaceLemmas.{some_step-next, some_step_short}
use Rattle.list_law.proofs.Items.{pairs_next}
use Rattle.policy_base.proofs.meaning.has_step.Goals as goal
use Rattle.policy_base.proofs.meaning.has_step.Goals.{else-holds-via-then-holds+else-holds-2, else-holds-via-else-holds}

pub loop-i-preserved : goal.loop-i-preserved
loop-i-preserved c =
    let p = λ (k l : ℕ). holds c.args.from.now k && holds c.args.to.now l in
    let next = pairs_next (some_step p) p false (some_step-next p) c.args.path.now c.loop-i.i in
    elim c.else-holds.branch [
      | else-holds-via-then-holds+else-holds-2 w ↦
          next c.index-path-i.result w.index-path-i-then-holds.result (omega arith) (omega arith) c.index-path-i.is w.index-path-i-then-holds.is
          (ap (λ b. holds c.args.from.now c.index-path-i.result && b) (sym w.holds-then-holds.ensures ∙ w.if-holds-2.false) ∙ and-false _) c.loop-i.invariant
      | else-holds-via-else-holds w ↦
          next c.index-path-i.result (get_or c.args.path.now c.loop-i.i 0) (omega arith) (omega arith) c.index-path-i.is
          (get_or_default c.args.path.now c.loop-i.i 0 _ (omega arith))
          (ap (λ b. b && holds c.args.to.now (get_or c.args.path.now c.loop-i.i 0)) (sym c.holds.ensures ∙ w.if-holds.false)) c.loop-i.invariant
    ]

pub returns : goal.returns
returns c = sym (c.loop-i.invariant ∙ some_step_short _ (drop (c.loop-i.i - 1) c.args.path.now) (grind (arith, length-drop)))
