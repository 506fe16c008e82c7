use Rattle.std.proofs.Common.{rules, ◌≡◌, ◌<◌, ◌∙◌, ◌++◌, ◌∷◌, [], refl, sym, ap}
use Rattle.net_base.specs.Sets.{holds}
use Rattle.evidence_text.specs.Text.{members}
use Rattle.evidence_text.proofs.SetMembers.{not_member, one_member}
use Rattle.evidence_text.proofs.print.locations.Goals as goal
use Rattle.evidence_text.proofs.print.locations.Goals.{then-holds+in_ok-push, else-holds}

pub returns-clause-rules : goal.returns-clause-rules
returns-clause-rules c = record { size = search rules; fit = c.are_words.ensures }

pub loop-l-init : goal.loop-l-init
unfolding members
loop-l-init c = rw c.new-all.ensures.items refl

pub loop-l-preserved : goal.loop-l-preserved
loop-l-preserved c =
    let low : c.loop-l.l < 768 = c.loop-l-test.true in
    let at : c.new.result ≡ c.loop-l.l = c.new.ensures in
    elim c.if-holds.branch [
      | then-holds+in_ok-push w ↦
          let e : c.if-holds.all.items ≡ c.loop-l.all.items ++ c.loop-l.l ∷ [] = ap (λ v. v.items) w.all-is ∙ w.in_ok-push.ensures.items ∙ ap (λ n. c.loop-l.all.items ++ n ∷ []) w.from.ensures in
          rw e (one_member c.args.set.now c.loop-l.l c.loop-l.all.items (members c.args.set.now) low (ap (holds c.args.set.now) (sym at) ∙ sym c.holds.ensures ∙ w.if-holds.true) c.loop-l.invariant)
      | else-holds w ↦
          let e : c.if-holds.all.items ≡ c.loop-l.all.items = ap (λ v. v.items) w.all-is in
          rw e (not_member c.args.set.now c.loop-l.l c.loop-l.all.items (members c.args.set.now) low (ap (holds c.args.set.now) (sym at) ∙ sym c.holds.ensures ∙ w.if-holds.false) c.loop-l.invariant)
    ]
