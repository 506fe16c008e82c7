-- What is said of a verdict on evidence.
use Rattle.std.specs.Prelude.{ℕ, List, ◌++◌, codes}
use Rattle.std.specs.Fmt.{decimal}
use Rattle.evidence_verdicts.specs.declared.rule.CheckRule.{CheckRule}
use Rattle.evidence_verdicts.specs.declared.verdict.Shown.{Shown}
use Rattle.evidence_verdicts.specs.declared.verdict.Verdict.{Verdict}
use Rattle.evidence_verdicts.specs.declared.verdict.Verdict.TheVariants.{Holds, Fails}
use Rattle.evidence_verdicts.specs.Rules.{rule_number, rule_word}
use Rattle.run_base.specs.Said.{Said, text, failing}

-- a number after its word
abbrev pub value_text : List ℕ → ℕ → List ℕ
value_text word number = codes " " ++ word ++ codes " " ++ decimal number

-- The line that tells the first rule that fails, and where it does.
unfoldable pub fails_line : CheckRule → Shown → List ℕ
fails_line rule shown =
    codes "fails " ++ decimal (rule_number rule) ++ codes " " ++ rule_word rule
    ++ value_text (codes "case") shown.case ++ value_text (codes "first") shown.first ++ value_text (codes "second") shown.second ++ value_text (codes "line") shown.line
    ++ codes "\n"

abbrev pub holds_line : List ℕ
holds_line = codes "holds\n"

-- that the evidence holds, or where it fails
abbrev pub verdict_said : Verdict → Said
verdict_said Holds = text holds_line
verdict_said (Fails rule shown) = failing (fails_line rule shown)
