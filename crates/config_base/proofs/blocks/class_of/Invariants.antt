use Rattle.std.proofs.Common.{◌≡◌, ◌<◌, ◌^◌, ◌+◌, drop, length}
use Rattle.config_base.specs.Lines.{class_from}
use Rattle.config_base.proofs.blocks.class_of.Given as goal

abbrev pub invariant-loop-i : goal.invariant-loop-i
invariant-loop-i l = record {
  few : length l.classes < 2 ^ 32;
  rest : class_from l.classes l.prefix 1 ≡ class_from (drop l.i l.classes) l.prefix (l.i + 1);
}
