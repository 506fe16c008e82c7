-- The lines of findings.
use Rattle.std.specs.Prelude.{ℕ, List, ◌++◌, codes, length}
use Rattle.std.specs.Fmt.{decimal}
use Rattle.std.specs.List.{flat_map}
use Rattle.policy_lint.specs.declared.finding.Finding.{Finding}
use Rattle.policy_lint.specs.declared.finding.Finding.TheVariants.{UnusedGroup, Covered, Idle, Unreached}

-- what a finding says
abbrev pub finding_text : Finding → List ℕ
finding_text (UnusedGroup name) = codes "unused group " ++ name
finding_text (Covered n) = codes "covered statement " ++ decimal n
finding_text (Idle n) = codes "idle statement " ++ decimal n
finding_text (Unreached n k) = codes "unreached statement " ++ decimal n ++ (codes " alternative " ++ decimal k)

abbrev pub finding_line : Finding → List ℕ
finding_line f = finding_text f ++ codes "\n"

-- a line for each, and one that tells how many there are
abbrev pub lint_text : List Finding → List ℕ
lint_text findings = flat_map finding_line findings ++ codes "findings " ++ decimal (length findings) ++ codes "\n"
