use Rattle.std.proofs.Common.{◌≡◌, ◌+◌, List, [], ◌∷◌, ◌++◌, append_assoc, append-nil, drop, take, sym, ap, subst, ◌∙◌}
use Rattle.std.proofs.lemmas.List.{drop_all, drop_more, take_all, take_more}
use Rattle.net_base.specs.Prefixes.{PlainPattern}
use Rattle.lint_cover.specs.Tables.{Holds}
use Rattle.own_space.specs.Open.{statement_parts}
use Rattle.own_space.proofs.Growing.{pattern_more}
use Rattle.own_space.proofs.parts.push_statement.Goals as goal

pub loop-pattern-init : goal.loop-pattern-init
loop-pattern-init c = λ qs start. (
  subst (Holds c.args.table.now) (sym (append-nil qs)) start,
  ap (λ ps. c.args.parts.now.items ++ statement_parts c.args.outer.now ps c.args.number c.args.patterns.now) (sym (append-nil qs)),
)

pub loop-pattern-preserved : goal.loop-pattern-preserved
loop-pattern-preserved c = λ qs start.
    let ps = c.args.patterns.now in
    let i = c.loop-pattern.pattern-index in
    let item = c.pattern-item.result in
    let rest = drop (i + 1) ps in
    let before = c.loop-pattern.invariant qs start in
    let more : take (i + 1) ps ≡ take i ps ++ item ∷ [] = take_more ps i item c.loop-pattern-test.true ∙ ap (λ x. take i ps ++ x ∷ []) (sym c.pattern-item.is) in
    let is : (qs ++ take i ps) ++ item ∷ [] ≡ qs ++ take (i + 1) ps = append_assoc qs (take i ps) (item ∷ []) ∙ ap (λ (xs : List PlainPattern). qs ++ xs) (sym more) in
    let next : drop i ps ≡ item ∷ rest = drop_more ps i item c.loop-pattern-test.true ∙ ap (λ x. x ∷ rest) (sym c.pattern-item.is) in
    let parts = c.in_ok-push_pattern.ensures (qs ++ take i ps) before.0 in
    let all = before.1 ∙ ap (λ (ts : List PlainPattern). c.loop-pattern.parts.items ++ statement_parts c.args.outer.now (qs ++ take i ps) c.args.number ts) next in (
      subst (Holds c.note.new.self) is (c.in_ok-note.ensures (qs ++ take i ps) before.0),
      pattern_more c.args.outer.now (qs ++ take i ps) (qs ++ take (i + 1) ps) rest c.args.number item
          (c.args.parts.now.items ++ statement_parts c.args.outer.now qs c.args.number ps) c.loop-pattern.parts.items c.push_pattern.new.parts.items all parts is,
    )

pub returns-clause-held : goal.returns-clause-held
returns-clause-held c = λ qs start.
    subst (λ (ps : List PlainPattern). Holds c.loop-pattern.table (qs ++ ps)) (take_all c.loop-pattern.pattern-index c.args.patterns.now c.loop-pattern-test.false)
    (c.loop-pattern.invariant qs start).0

pub returns-clause-parts : goal.returns-clause-parts
returns-clause-parts c = λ qs start.
    let i = c.loop-pattern.pattern-index in
    let ps = c.args.patterns.now in
    let parts = c.loop-pattern.parts.items in
    sym ((c.loop-pattern.invariant qs start).1
    ∙ ap (λ (ts : List PlainPattern). parts ++ statement_parts c.args.outer.now (qs ++ take i ps) c.args.number ts) (drop_all i ps c.loop-pattern-test.false)
    ∙ append-nil parts)
