use Rattle.std.proofs.Common.{rules, ◌≡◌, ◌≤◌, ◌+◌, ◌-◌, ap, ◌∙◌, arith}
use Rattle.std.specs.Prelude.{max}
use Rattle.lint_cover.specs.Covered.{covered_below}
use Rattle.lint_cover.proofs.Descent.{around_high, around_low, first_off, second_decides}
use Rattle.lint_cover.proofs.table.PatternTable.+covers_below.Goals as goal

pub returns-else-covers_below : goal.returns-else-covers_below
returns-else-covers_below t c = λ qs held is.
    let p = c.args.prefix in
    let below : p.len + 1 ≤ 32 = omega (arith, c.requires, c.if-around-len.false, c.if-len-more.false, c.len.ensures.len, c.len-2.ensures.len) in
    let most : c.max.result ≡ max c.args.around c.end_at.result = search rules in
    let told = around_low qs p c.low-lower.result c.args.around c.max.result c.end_at.result held.lawful c.len.ensures.rules below is c.low-lower.ensures
    (c.end_at.ensures ∙ held.ends c.low-lower.result) most in
    let low = c.covers_below.ensures qs held told ∙ ap (λ half. covered_below qs half (c.args.more - 1)) c.low-lower.ensures in
    first_off qs p c.args.more c.covers_below.result (omega (arith, is, c.if-around-len.false, c.len.ensures.len))
    (omega (arith, is, c.if-len-more.false, c.len-2.ensures.len)) low c.if-covers_below.false

pub returns-then-covers_below : goal.returns-then-covers_below
returns-then-covers_below t c = λ qs held is.
    let p = c.args.prefix in
    let below : p.len + 1 ≤ 32 = omega (arith, c.requires, c.if-around-len.false, c.if-len-more.false, c.len.ensures.len, c.len-2.ensures.len) in
    let most : c.max.result ≡ max c.args.around c.end_at.result = search rules in
    let most_high : c.max-then-covers_below.result ≡ max c.args.around c.end_at-then-covers_below.result = search rules in
    let told = around_low qs p c.low-lower.result c.args.around c.max.result c.end_at.result held.lawful c.len.ensures.rules below is c.low-lower.ensures
    (c.end_at.ensures ∙ held.ends c.low-lower.result) most in
    let told_high = around_high qs p c.high-upper.result c.args.around c.max-then-covers_below.result c.end_at-then-covers_below.result held.lawful c.len.ensures.rules below is
    c.high-upper.ensures (c.end_at-then-covers_below.ensures ∙ held.ends c.high-upper.result) most_high in
    let low = c.covers_below.ensures qs held told ∙ ap (λ half. covered_below qs half (c.args.more - 1)) c.low-lower.ensures in
    let high = c.covers_below-then-covers_below.ensures qs held told_high ∙ ap (λ half. covered_below qs half (c.args.more - 1)) c.high-upper.ensures in
    second_decides qs p c.args.more c.covers_below.result c.covers_below-then-covers_below.result (omega (arith, is, c.if-around-len.false, c.len.ensures.len))
    (omega (arith, is, c.if-len-more.false, c.len-2.ensures.len)) low c.if-covers_below.true high
