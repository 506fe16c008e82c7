use Rattle.std.proofs.Common.{◌≡◌, ◌++◌, take}
use Rattle.std.specs.List.{flat_map}
use Rattle.promises_text.specs.Texts.{apart_line}
use Rattle.promises_text.proofs.last.push_all_apart.Given as goal

abbrev pub invariant-loop-pair : goal.invariant-loop-pair
invariant-loop-pair l = l.text.items ≡ l.initial.text.items ++ flat_map apart_line (take l.pair-index l.pairs)
