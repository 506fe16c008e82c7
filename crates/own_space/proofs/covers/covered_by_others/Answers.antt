use Rattle.std.proofs.Common.{◌≡◌, ◌+◌, Bool, List, [], ◌∷◌, ◌++◌, append-nil, drop, map, rules, sym, ap, subst, ◌∙◌}
use Rattle.std.proofs.lemmas.List.{drop_all, drop_more}
use Rattle.std.specs.List.{list_all}
use Rattle.net_base.specs.Prefixes.{PlainPattern, only}
use Rattle.policy_base.specs.declared.policy.Origin.{Origin}
use Rattle.policy_base.specs.declared.policy.Statement.{Statement}
use Rattle.policy_base.specs.Policies.{PlainStatement, plain_statement, policy_of}
use Rattle.lint_cover.specs.Covered.{covered}
use Rattle.lint_cover.specs.Tables.{Holds}
use Rattle.own_space.specs.Covers.{covered_from}
use Rattle.own_space.specs.Spaces.{originated}
use Rattle.own_space.proofs.Growing.{mark_more}
use Rattle.own_space.proofs.covers.covered_by_others.Goals as goal

pub loop-statement-init : goal.loop-statement-init
loop-statement-init c =
    let before = originated (policy_of c.args.policy.now) in
    let rest = covered_from before (map plain_statement c.statements-statement-items.result.now) in
    let none : c.new-marks.result.items ≡ [] = search rules in (
      before,
      subst (λ (os : List Origin). Holds c.in_ok-table.table (map (λ (o : Origin). only o.prefix) os)) c.origins.ensures.origins c.in_ok-table.ensures,
      ap (λ (ss : List Statement). covered_from before (map plain_statement ss)) (sym c.statements-statement-items.ensures.statements)
          ∙ ap (λ (marks : List Bool). marks ++ rest) (sym none),
    )

pub loop-statement-preserved : goal.loop-statement-preserved
loop-statement-preserved c =
    let ss = c.statements-statement-items.result.now in
    let i = c.loop-statement.statement-index in
    let item = c.statement-item.result in
    let rest = map plain_statement (drop (i + 1) ss) in
    let before = c.loop-statement.invariant in
    let next : map plain_statement (drop i ss) ≡ plain_statement item ∷ rest =
    ap (map plain_statement) (drop_more ss i item c.loop-statement-test.true ∙ ap (λ (x : Statement). x ∷ drop (i + 1) ss) (sym c.statement-item.is)) in
    let patterns : c.as_slice-patterns.result.now ≡ item.patterns = c.as_slice-patterns.ensures in
    let now = c.loop-statement.marks.items in
    let all = before.2 ∙ ap (λ (xs : List PlainStatement). now ++ covered_from before.0 xs) next in
    let mark = c.are_covered.ensures before.0 before.1 ∙ ap (list_all (covered before.0)) patterns in (
      before.0 ++ item.patterns,
      subst (λ (ts : List PlainPattern). Holds c.note_all.new.table (before.0 ++ ts)) patterns (c.in_ok-note_all.ensures before.0 before.1),
      mark_more before.0 (plain_statement item) rest _ now c.push.new.self.items c.are_covered.result all mark c.in_ok-push.ensures.items,
    )

pub returns : goal.returns
returns c =
    let marks = c.loop-statement.marks.items in
    let before = c.loop-statement.invariant in
    sym (before.2
    ∙ ap (λ (ss : List Statement). marks ++ covered_from before.0 (map plain_statement ss))
    (drop_all c.loop-statement.statement-index c.statements-statement-items.result.now c.loop-statement-test.false)
    ∙ append-nil marks)
