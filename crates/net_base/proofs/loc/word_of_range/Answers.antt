use Rattle.std.proofs.Common.{ℕ, ◌&&◌, ◌∙◌, sym, arith}
use Rattle.std.specs.Prelude.{nat_le, nat_lt}
use Rattle.net_base.proofs.SetOf.{word_met, word_missed, word_room, no_word}
use Rattle.net_base.proofs.loc.word_of_range.Goals as goal
use Rattle.net_base.proofs.loc.word_of_range.Goals.{then-is_between, else-is_between}

pub loop-place-init : goal.loop-place-init
loop-place-init c = no_word _ c.args.first

pub overflow_add-word : goal.overflow_add-word
overflow_add-word c =
    let room =
    word_room (λ l. nat_le c.args.from l && nat_lt l c.args.to) c.args.first c.loop-place.place c.loop-place.word (omega arith) c.loop-place.invariant
    (sym c.is_between.ensures ∙ c.if-is_between.true) in
    omega (arith, room)

pub loop-place-preserved : goal.loop-place-preserved
loop-place-preserved c =
    let test = λ (l : ℕ). nat_le c.args.from l && nat_lt l c.args.to in
    elim c.if-is_between.branch [
      | then-is_between w ↦
          w.word-is ∙ word_met test c.args.first c.loop-place.place c.loop-place.word (omega arith) c.loop-place.invariant (sym c.is_between.ensures ∙ w.if-is_between.true)
      | else-is_between w ↦
          w.word-is ∙ word_missed test c.args.first c.loop-place.place c.loop-place.word c.loop-place.invariant (sym c.is_between.ensures ∙ w.if-is_between.false)
    ]
