use Rattle.std.proofs.Common.{◌≡◌, ◌++◌, take}
use Rattle.std.specs.List.{flat_map}
use Rattle.config_lines.specs.declared.edition.Edition.TheVariants.{Second}
use Rattle.config_text.specs.ConfigText.{export_line}
use Rattle.config_text.proofs.push_exports.Given as goal

abbrev pub invariant-loop-export : goal.invariant-loop-export
invariant-loop-export l = l.text.items ≡ l.initial.text.items ++ flat_map (export_line Second) (take l.export-index l.exports)
