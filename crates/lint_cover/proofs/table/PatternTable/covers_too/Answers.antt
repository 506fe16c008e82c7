use Rattle.std.proofs.Common.{◌++◌, sym, subst, ◌∙◌}
use Rattle.std.proofs.lemmas.Bool.{true≢false}
use Rattle.lint_cover.specs.Tables.{Holds}
use Rattle.lint_cover.proofs.Covering.{covered_too, not_covered}
use Rattle.lint_cover.proofs.table.PatternTable.covers_too.Goals as goal

pub returns-then-are_covered : goal.returns-then-are_covered
returns-then-are_covered c = λ qs ps all same held before.
    let told = c.covers.ensures (qs ++ ps) (subst (Holds c.args.self.now) same held) in
    let law = covered_too qs ps c.args.pattern (before.0 c.if-are_covered.true) in
    (λ h. law.0 (told.0 h), λ h. told.1 (law.1 h))

pub returns-else-are_covered : goal.returns-else-are_covered
returns-else-are_covered c = λ qs ps all same held before.
    (λ h. absurd (true≢false (sym h ∙ c.if-are_covered.false)), λ h. before.1 (not_covered qs ps c.args.pattern h))
