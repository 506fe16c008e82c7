use Rattle.std.proofs.Common.{◌≡◌, ◌+◌, false, arith, refl, sym, ap, ◌∙◌, length, vec_len}
use Rattle.std.proofs.lemmas.List.{length_push}
use Rattle.bit_rows.specs.Tables.{has_at}
use Rattle.reach_prune.specs.declared.sweep.Sweep.{Sweep}
use Rattle.reach_prune.proofs.Sweeping.{Comes-taken, Comes-waits}
use Rattle.reach_prune.proofs.sweep.Sweep.come_to.Goals as goal

pub returns-then-is_finished : goal.returns-then-is_finished
returns-then-is_finished c =
    let new : Sweep = record { rows = c.or_row.new.self; waiting = c.args.self.now.waiting } in
    let lost : has_at c.args.self.now.rows c.args.node c.args.next ≡ false = sym c.get.ensures ∙ c.if-get.false in
    Comes-taken c.args.node c.args.next c.args.is_finished c.args.self.now new lost c.or_row.ensures.size c.requires.node c.if-is_finished.true c.or_row.ensures.bits refl refl

pub returns-in_ok-push : goal.returns-in_ok-push
returns-in_ok-push c =
    let old = c.args.self.now.waiting in
    let new : Sweep = record { rows = c.set.new.self; waiting = c.push.new.self } in
    let lost : has_at c.args.self.now.rows c.args.node c.args.next ≡ false = sym c.get.ensures ∙ c.if-get.false in
    let pushed = c.in_ok-push.ensures.items in
    let more : vec_len c.push.new.self ≡ vec_len old + 1 = omega (arith, ap length pushed, length_push old.items c.args.next, old.ok.0, c.push.new.self.ok.0) in
    Comes-waits c.args.node c.args.next c.args.is_finished c.args.self.now new lost c.set.ensures.size c.requires.node c.if-is_finished.false
    (omega (arith, c.requires.next, c.requires.square)) c.set.ensures.bits pushed more
