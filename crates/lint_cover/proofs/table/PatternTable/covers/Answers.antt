use Rattle.std.proofs.Common.{rules, ◌≡◌, ◌-◌, ap, sym, subst, ◌∙◌, arith}
use Rattle.net_base.specs.Prefixes.{PlainPrefix, IsPrefix, IsPattern}
use Rattle.lint_cover.specs.Covered.{covered, covered_below}
use Rattle.lint_cover.proofs.Decision.{covered-IsCovered}
use Rattle.lint_cover.proofs.table.PatternTable.covers.Goals as goal

pub returns : goal.returns
returns c =
    let pattern = c.args.pattern in
    let base = c.base-base.ensures.base in
    let len = c.len.ensures.len ∙ ap (λ (p : PlainPrefix). p.len) base in
    let more : c.upto.result - c.len.result ≡ pattern.upto - pattern.base.len = ap (λ n. n - c.len.result) c.upto.ensures.upto ∙ ap (λ n. pattern.upto - n) len in
    let lawful : IsPattern pattern = record {
      prefix = subst IsPrefix base c.len.ensures.rules;
      least = search rules;
      most = search rules;
    } in
    λ qs held.
    let e : c.covers_below.result ≡ covered qs pattern =
    c.covers_below.ensures qs held (c.end_around.ensures qs held)
    ∙ ap (λ n. covered_below qs c.base-base.result n) more
    ∙ ap (λ p. covered_below qs p (pattern.upto - pattern.base.len)) base in
    let law = covered-IsCovered qs pattern lawful in
    (λ h. law.0 (sym e ∙ h), λ all. e ∙ law.1 all)
