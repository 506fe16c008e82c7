-- What is said of a verdict on tables.
use Rattle.std.specs.Prelude.{ℕ, List, ◌++◌, codes, Option, Some, None}
use Rattle.std.specs.Fmt.{decimal}
use Rattle.net_base.specs.Network.{PlainNet}
use Rattle.outcome_report.specs.Lines.{next_name}
use Rattle.table_audit.specs.declared.verdict.AuditVerdict.{AuditVerdict}
use Rattle.table_audit.specs.declared.verdict.AuditVerdict.TheVariants.{Stable, Dead, Own, NotGiven, Better, Missing}

abbrev pub stable_line : List ℕ
stable_line = codes "stable\n"

-- a router that isn't stable, and why
abbrev pub unstable_text : PlainNet → ℕ → List ℕ → List ℕ
unstable_text net r why = codes "unstable router" ++ next_name net r ++ why ++ codes "\n"

-- a neighbour gives a higher preference
abbrev pub better_text : PlainNet → ℕ → ℕ → List ℕ
better_text net z pref = codes " better" ++ next_name net z ++ codes " pref " ++ decimal pref

-- a neighbour gives a route, and there is none
abbrev pub missing_text : PlainNet → ℕ → List ℕ
missing_text net z = codes " missing" ++ next_name net z

-- The line of the router that a verdict names, and why it isn't stable.
abbrev pub unstable_line : PlainNet → AuditVerdict → Option (List ℕ)
unstable_line net Stable = None
unstable_line net (Dead r) = Some (unstable_text net r (codes " dead"))
unstable_line net (Own r) = Some (unstable_text net r (codes " own"))
unstable_line net (NotGiven r) = Some (unstable_text net r (codes " not-given"))
unstable_line net (Better r z pref) = Some (unstable_text net r (better_text net z pref))
unstable_line net (Missing r z) = Some (unstable_text net r (missing_text net z))
