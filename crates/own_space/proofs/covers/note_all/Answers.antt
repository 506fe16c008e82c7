use Rattle.std.proofs.Common.{◌≡◌, ◌+◌, List, [], ◌∷◌, ◌++◌, take, sym, ap, subst, ◌∙◌, append_assoc}
use Rattle.std.proofs.lemmas.List.{take_more}
use Rattle.net_base.specs.Prefixes.{PlainPattern}
use Rattle.lint_cover.specs.Tables.{Holds}
use Rattle.own_space.proofs.covers.note_all.Goals as goal

pub loop-pattern-preserved : goal.loop-pattern-preserved
loop-pattern-preserved c = λ qs start.
    let ps = c.args.patterns.now in
    let i = c.loop-pattern.pattern-index in
    let item = c.pattern-item.result in
    let more : take (i + 1) ps ≡ take i ps ++ item ∷ [] = take_more ps i item c.loop-pattern-test.true ∙ ap (λ x. take i ps ++ x ∷ []) (sym c.pattern-item.is) in
    subst (Holds c.note.new.self) (append_assoc qs (take i ps) (item ∷ []) ∙ ap (λ (xs : List PlainPattern). qs ++ xs) (sym more))
    (c.in_ok-note.ensures (qs ++ take i ps) (c.loop-pattern.invariant qs start))
