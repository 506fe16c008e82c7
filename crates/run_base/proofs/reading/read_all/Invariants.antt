use Rattle.std.proofs.Common.{◌≡◌, ℕ, List, map, take, string_bytes}
use Rattle.run_base.specs.Reading.{AllHeld, AreOnlyRead, names_at}
use Rattle.run_base.proofs.reading.read_all.Given as goal

abbrev pub invariant-loop-place : goal.invariant-loop-place
invariant-loop-place g l = record {
  held : AllHeld (g.I.Inputs.holds l.initial.inputs) (names_at (map string_bytes l.words) (take l.place-index l.places)) l.texts;
  calm : g.I.Inputs.all_faults l.inputs ≡ g.I.Inputs.all_faults l.initial.inputs;
  each : (n : List ℕ) → g.I.Inputs.faults l.inputs n ≡ g.I.Inputs.faults l.initial.inputs n;
  kept : AreOnlyRead (g.I.Inputs.holds l.initial.inputs) (g.I.Inputs.holds l.inputs) (g.I.Inputs.faults l.initial.inputs) (g.I.Inputs.faults l.inputs)
      (g.I.Inputs.sure l.initial.inputs) (g.I.Inputs.sure l.inputs);
}
