use Rattle.std.proofs.Common.{◌≡◌, ◌+◌, ◌≤◌, ap, sym, ◌∙◌, arith}
use Rattle.std.specs.Prelude.{max}
use Rattle.lint_cover.specs.Covered.{depth_at, exact_at}
use Rattle.lint_cover.specs.Tables.{cut_at}
use Rattle.lint_cover.proofs.Cuts.{cut_none, depth_at-cut}
use Rattle.lint_cover.proofs.Tables.{depth_at-root}
use Rattle.lint_cover.proofs.table.PatternTable.end_around.Goals as goal

pub loop-k-init : goal.loop-k-init
loop-k-init c = λ qs held.
    let none = cut_none c.args.prefix c.len-k-end.ensures.rules.wide in
    c.end_at-most.ensures ∙ held.ends c.cut.result ∙ ap (exact_at qs) (c.cut.ensures ∙ none) ∙ sym (ap (depth_at qs) none ∙ depth_at-root qs held.lawful)

pub loop-k-preserved : goal.loop-k-preserved
loop-k-preserved c = λ qs held.
    let below : c.loop-k.k + 1 ≤ 32 = omega (arith, c.loop-k-test.true, c.len-k-end.ensures.len, c.len-k-end.ensures.rules.within) in
    let m : c.max-most.result ≡ max c.loop-k.most c.end_at.result = omega (arith, c.max-most.ensures) in
    let x : c.end_at.result ≡ exact_at qs (cut_at c.args.prefix (c.loop-k.k + 1)) =
    c.end_at.ensures ∙ held.ends c.cut-in-loop-k.result ∙ ap (exact_at qs) c.cut-in-loop-k.ensures in
    m ∙ ap (λ n. max n c.end_at.result) (c.loop-k.invariant qs held) ∙ ap (λ n. max (depth_at qs (cut_at c.args.prefix c.loop-k.k)) n) x
    ∙ depth_at-cut qs c.args.prefix c.loop-k.k held.lawful c.len-k-end.ensures.rules.wide below
