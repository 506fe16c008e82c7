-- The text of a comparison.
use Rattle.std.specs.Prelude.{ℕ, List, [], ◌∷◌, ◌++◌, codes, filter, length, if◌then◌else◌}
use Rattle.std.specs.Fmt.{decimal}
use Rattle.std.specs.List.{count_by, list_any}
use Rattle.net_base.specs.Network.{PlainNet}
use Rattle.net_base.specs.Prefixes.{PlainPrefix}
use Rattle.policy_base.specs.Policies.{PlainPolicy}
use Rattle.compare_base.specs.declared.cases.CasePair.{CasePair}
use Rattle.comparison.specs.declared.values.ComparedPair.{ComparedPair}
use Rattle.comparison.specs.Changed.{is_changed}
use Rattle.compare_report.specs.declared.carriers.Carrying.TheVariants.{Lost, Gained}
use Rattle.compare_report.specs.Groups.{is_with, origin_lines, originated_prefixes, prefix_lines}
use Rattle.compare_report.specs.Kinds.{all_kind_lines, carrier_lines}
use Rattle.compare_lines.specs.Rows.{number_text}

unfoldable pub head_line : CasePair → List ℕ
head_line c = codes "change statement " ++ number_text c.old.statement ++ codes " now " ++ number_text c.new.statement ++ codes "\n"

-- the statements, the prefixes, the origins, in what they differ, and who carries
abbrev pub group_lines : PlainNet → List PlainPrefix → List ComparedPair → ComparedPair → List ℕ
group_lines net order group x =
    head_line x.pair.cases
    ++ prefix_lines order group x.pair.prefixes
    ++ origin_lines net group x.pair.cases
    ++ all_kind_lines net order group [] group
    ++ carrier_lines net order group Lost
    ++ carrier_lines net order group Gained

-- a group, of which this is the first pair, is told where one of its pairs has changed
unfoldable pub change_lines : PlainNet → List PlainPrefix → List ComparedPair → ComparedPair → List ℕ
change_lines net order group x = if list_any (is_changed net) group then group_lines net order group x else []

-- the group of a pair with those behind it, unless it is in the group of an earlier one
unfoldable pub lines_at : PlainNet → List PlainPrefix → List ComparedPair → ComparedPair → List ComparedPair → List ℕ
lines_at net order before x after = if list_any (is_with x) before then [] else change_lines net order (x ∷ filter (is_with x) after) x

-- the groups in order of their first pairs
abbrev pub lines_from : PlainNet → List PlainPrefix → List ComparedPair → List ComparedPair → List ℕ
lines_from net order before [] = []
lines_from net order before (x ∷ xs) = lines_at net order before x xs ++ lines_from net order (before ++ x ∷ []) xs

-- how many pairs there are, and how many of them have changed
unfoldable pub last_line : ℕ → ℕ → List ℕ
last_line pairs changed = codes "cases " ++ decimal pairs ++ codes " changed " ++ decimal changed ++ codes "\n"

-- Each group of which a pair has changed, and then how many pairs there are and how many have.
abbrev pub compare_text : PlainNet → PlainPolicy → PlainPolicy → List ComparedPair → List ℕ
compare_text net old new xs = lines_from net (originated_prefixes old new) [] xs ++ last_line (length xs) (count_by (is_changed net) xs)
