use Rattle.std.proofs.Common.{◌≡◌, ◌+◌, ◌++◌, List, length, map, Some, sym, ap, subst, ◌∙◌, arith}
use Rattle.std.specs.Prelude.{◌↔◌, IsTrue, slice_get}
use Rattle.std.specs.Option.{option_map}
use Rattle.std.proofs.lemmas.List.{length-map}
use Rattle.std.proofs.lemmas.Option.{slice_get-get_or, slice_get-map}
use Rattle.net_base.specs.Prefixes.{PlainPattern}
use Rattle.policy_base.specs.Policies.{plain_statement}
use Rattle.lint_cover.specs.Covered.{AreCovered}
use Rattle.lint_cover.specs.Statements.{patterns_before}
use Rattle.lint_cover.specs.Tables.{Holds}
use Rattle.lint_cover.proofs.Covering.{before_more, marked_more}
use Rattle.lint_cover.proofs.statements.covered_statements.Goals as goal

pub loop-statement-preserved : goal.loop-statement-preserved
loop-statement-preserved c =
    let ss = map plain_statement c.args.statements.now in
    let i = c.loop-statement.statement-index in
    let item = c.statement-item.result in
    let before = c.loop-statement.invariant in
    let at : slice_get ss i ≡ Some (plain_statement item) =
    slice_get-map plain_statement c.args.statements.now i
    ∙ ap (option_map plain_statement) (slice_get-get_or c.args.statements.now i item c.loop-statement-test.true ∙ ap Some (sym c.statement-item.is)) in
    let patterns : c.as_slice.result.now ≡ item.patterns = c.as_slice.ensures in
    let held = c.in_ok-is_covered.ensures.held (patterns_before ss i) before.held in
    let told = subst (λ (ps : List PlainPattern). IsTrue c.in_ok-is_covered.is_covered ↔ AreCovered (patterns_before ss i) ps) patterns
    (c.in_ok-is_covered.ensures.covered (patterns_before ss i) before.held) in
    record {
      held = subst (Holds c.take_in.new.self) (ap (λ (ps : List PlainPattern). patterns_before ss i ++ ps) patterns ∙ sym (before_more ss i (plain_statement item) at)) held;
      marks = marked_more ss i (plain_statement item) c.loop-statement.marks.items c.push.new.self.items c.in_ok-is_covered.is_covered at told c.in_ok-push.ensures.items before.marks;
    }

pub returns : goal.returns
returns c =
    let end : c.loop-statement.statement-index ≡ length (map plain_statement c.args.statements.now) =
    omega (arith, c.loop-statement-test.false, c.loop-statement.auto.statement-index-end, length-map c.args.statements.now plain_statement) in
    let marks = c.loop-statement.invariant.marks in
    record { size = marks.size ∙ end; each = λ k within. marks.each k (omega (arith, within, end)) }
