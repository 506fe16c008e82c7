use Rattle.std.proofs.Common.{◌≤◌, ◌-◌, length, take, ◌≡◌, []}
use Rattle.input_output.specs.Outside.{Grew}
use Rattle.input_output.proofs.sink.write_whole.Given as goal

abbrev pub invariant-loop-done : goal.invariant-loop-done
invariant-loop-done g l =
    (l.done ≤ length l.bytes)
    × Grew (g.S.Sink.taken l.initial.sink) (g.S.Sink.taken l.sink) (take l.done l.bytes)
    × (g.S.Sink.faults l.sink ≡ g.S.Sink.faults l.initial.sink)
    × (l.bytes ≡ [] → l.sink ≡ l.initial.sink)

abbrev pub decreases-loop-done : goal.decreases-loop-done
decreases-loop-done g l = length l.bytes - l.done
