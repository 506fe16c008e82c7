use Rattle.std.proofs.Common.{◌≡◌, ◌+◌, ◌++◌, take, drop}
use Rattle.std.specs.List.{AllByRecursion}
use Rattle.config_lines.specs.declared.edition.Edition.TheVariants.{Second}
use Rattle.config_text.specs.ConfigText.{class_lines}
use Rattle.config_text.specs.Spelled.{ArePatterns}
use Rattle.config_text.proofs.push_classes.Given as goal

abbrev pub invariant-loop-patterns : goal.invariant-loop-patterns
invariant-loop-patterns l =
    (l.number ≡ l.patterns-index + 1)
    × (l.text.items ++ class_lines Second l.number (drop l.patterns-index l.classes) ≡ l.initial.text.items ++ class_lines Second 1 l.classes)
    × AllByRecursion ArePatterns (take l.patterns-index l.classes)
