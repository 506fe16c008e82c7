use Rattle.std.proofs.Common.{◌≡◌, ◌+◌, List, ◌∷◌, ◌++◌, append-nil, drop, map, refl, sym, ap, subst, ◌∙◌}
use Rattle.std.proofs.lemmas.List.{drop_all, drop_more}
use Rattle.net_base.specs.Prefixes.{PlainPattern}
use Rattle.policy_base.specs.declared.policy.Statement.{Statement}
use Rattle.policy_base.specs.Policies.{PlainStatement, plain_statement}
use Rattle.lint_cover.specs.Tables.{Holds}
use Rattle.own_space.specs.Open.{parts_from, statement_parts}
use Rattle.own_space.proofs.Growing.{statement_more}
use Rattle.own_space.proofs.parts.push_statements.Goals as goal

pub loop-place-init : goal.loop-place-init
loop-place-init c = λ qs start. (qs, start, refl)

pub loop-place-preserved : goal.loop-place-preserved
loop-place-preserved c = λ qs start.
    let outer = c.args.outer.now in
    let cases = c.args.cases.now in
    let ss = c.args.statements.now in
    let i = c.loop-place.place in
    let item = c.index-statements-place.result in
    let rest = map plain_statement (drop (i + 1) ss) in
    let before = c.loop-place.invariant qs start in
    let next : map plain_statement (drop i ss) ≡ plain_statement item ∷ rest =
    ap (map plain_statement) (drop_more ss i item c.loop-place-test.true ∙ ap (λ (x : Statement). x ∷ drop (i + 1) ss) (sym c.index-statements-place.is)) in
    let patterns : c.as_slice.result.now ≡ item.patterns = c.as_slice.ensures ∙ ap (λ (s : Statement). s.patterns) (sym c.index-statements-place.is) in
    let now = c.loop-place.parts.items in
    let all = before.2 ∙ ap (λ (xs : List PlainStatement). now ++ parts_from outer cases before.0 (i + 1) xs) next in
    let step = c.in_ok-push_statement.ensures.parts before.0 before.1
    ∙ ap (λ (ts : List PlainPattern). now ++ statement_parts outer before.0 c.number_at-number.result ts) patterns in (
      before.0 ++ item.patterns,
      subst (λ (ts : List PlainPattern). Holds c.push_statement.new.table (before.0 ++ ts)) patterns (c.in_ok-push_statement.ensures.held before.0 before.1),
      statement_more outer cases before.0 (i + 1) (plain_statement item) rest c.number_at-number.result
          (c.args.parts.now.items ++ parts_from outer cases qs 1 (map plain_statement ss)) now c.push_statement.new.parts.items all c.number_at-number.ensures step,
    )

pub returns : goal.returns
returns c = λ qs start.
    let parts = c.loop-place.parts.items in
    let before = c.loop-place.invariant qs start in
    sym (before.2
    ∙ ap (λ (ss : List Statement). parts ++ parts_from c.args.outer.now c.args.cases.now before.0 (c.loop-place.place + 1) (map plain_statement ss))
    (drop_all c.loop-place.place c.args.statements.now c.loop-place-test.false)
    ∙ append-nil parts)
