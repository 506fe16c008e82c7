-- The lines of a configuration by class.
use Rattle.std.specs.Prelude.{◌≡◌, ℕ, List}
use Rattle.config_base.specs.Configs.{PlainConfig}
use Rattle.class_lines.specs.declared.class_line.ClassLine.{ClassLine}
use Rattle.class_lines.specs.declared.class_table.ClassTable.{ClassTable}
use Rattle.class_lines.specs.ClassLines.{all_lines, of_class}

-- the lines of each class, in the order of the text
abbrev pub by_class : PlainConfig → ℕ → List ClassLine
by_class config n = of_class n (all_lines config)

-- what a table has of each class
abbrev pub class_in : ClassTable → ℕ → List ClassLine
class_in table n = of_class n table.lines.items

abbrev pub IsTableOf : PlainConfig → ClassTable → Type 0
IsTableOf config table = (n : ℕ) → class_in table n ≡ by_class config n
