use Rattle.std.proofs.Common.{◌≡◌, ◌+◌, drop}
use Rattle.config_base.specs.Lines.{class_from}
use Rattle.stage_maker.specs.Joined.{classes_of}
use Rattle.stage_maker.proofs.own.class_in.Given as goal

abbrev pub invariant-loop-k : goal.invariant-loop-k
invariant-loop-k l = class_from (classes_of l.cells) l.prefix 1 ≡ class_from (classes_of (drop l.k l.cells)) l.prefix (l.k + 1)
