use Rattle.std.proofs.Common.{◌≡◌, ◌+◌, List, [], ◌∷◌, ◌++◌, take, refl, sym, ap, subst, ◌∙◌, append_assoc}
use Rattle.std.specs.Prelude.{◌↔◌, IsTrue}
use Rattle.std.proofs.lemmas.List.{take_more}
use Rattle.net_base.specs.Prefixes.{PlainPattern}
use Rattle.lint_cover.specs.Covered.{AreCovered}
use Rattle.lint_cover.specs.Tables.{Holds}
use Rattle.lint_cover.proofs.table.PatternTable.take_in.Goals as goal

pub loop-pattern-preserved : goal.loop-pattern-preserved
loop-pattern-preserved c = λ qs start.
    let ps = c.args.patterns.now in
    let i = c.loop-pattern.pattern-index in
    let item = c.pattern-item.result in
    let before = c.loop-pattern.invariant qs start in
    let more : take (i + 1) ps ≡ take i ps ++ item ∷ [] = take_more ps i item c.loop-pattern-test.true ∙ ap (λ x. take i ps ++ x ∷ []) (sym c.pattern-item.is) in
    let told = c.covers_too-are_covered.ensures qs (take i ps) (qs ++ take i ps) refl before.0 before.1 in
    let noted = c.in_ok-note.ensures (qs ++ take i ps) before.0 in (
      subst (Holds c.note.new.self) (append_assoc qs (take i ps) (item ∷ []) ∙ ap (λ (xs : List PlainPattern). qs ++ xs) (sym more)) noted,
      subst (λ (xs : List PlainPattern). IsTrue c.covers_too-are_covered.result ↔ AreCovered qs xs) (sym more) told,
    )
