use Rattle.std.proofs.Common.{arith, length, sym, ap, ◌∙◌}
use Rattle.std.proofs.Math.Seq.{take-length}
use Rattle.std.proofs.lemmas.List.{length-drop}
use Rattle.input_output.proofs.Growth.{Grew-take}
use Rattle.input_output.proofs.sink.write_whole.Goals as goal

pub loop-done-preserved : goal.loop-done-preserved
loop-done-preserved g c = (
  omega (arith, c.in-Ok.ensures.within, length-drop c.loop-done.done c.args.bytes.now),
  Grew-take _ _ _ c.loop-done.done c.in-Ok.n c.args.bytes.now c.loop-done.invariant.1 (rw (sym (length-drop c.loop-done.done c.args.bytes.now), take-length) at c.in-Ok.ensures.taken),
  c.in-Ok.ensures.calm ∙ c.loop-done.invariant.2,
  (λ none. absurd (omega (arith, c.loop-done-test.true, ap length none))),
)
