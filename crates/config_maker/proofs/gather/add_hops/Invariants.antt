use Rattle.std.proofs.Common.{◌≡◌, ◌++◌, All, map, take}
use Rattle.config_maker.specs.Hops.{HasPref, hop_of}
use Rattle.config_maker.proofs.gather.add_hops.Given as goal

abbrev pub invariant-loop-step : goal.invariant-loop-step
invariant-loop-step l = record {
  hops : l.hops.items ≡ l.initial.hops.items ++ map (hop_of l.class l.graph l.case.numbers l.case.tags) (take l.step-index l.step-items);
  fits : All HasPref l.initial.hops.items → All HasPref l.hops.items;
}
