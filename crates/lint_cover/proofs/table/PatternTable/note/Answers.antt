use Rattle.std.proofs.Common.{◌≡◌, unwrap_or, cond, suc, Some, ap, ◌∙◌, arith}
use Rattle.std.specs.Prelude.{max}
use Rattle.indexmap.specs.IndexMap.{get}
use Rattle.net_base.specs.Prefixes.{IsPattern, same_prefix}
use Rattle.list_law.proofs.Each.{AllByRecursion-push}
use Rattle.lint_cover.proofs.Noted.{noted}
use Rattle.lint_cover.proofs.table.PatternTable.note.Goals as goal

pub returns : goal.returns
returns c = λ qs held.
    let base = c.base-base.ensures.base in
    let old = get same_prefix c.args.self.now.ends in
    let m : c.max-most.result ≡ max c.end_at.result (suc c.args.pattern.upto) = omega (arith, c.max-most.ensures, c.upto.ensures.upto) in
    let e : c.end_at.result ≡ unwrap_or (old c.args.pattern.base) 0 = c.end_at.ensures ∙ ap (λ p. unwrap_or (old p) 0) base in
    record {
      lawful = AllByRecursion-push IsPattern qs c.args.pattern held.lawful c.known_pattern.ensures;
      ends = noted old (get same_prefix c.insert.new.self) qs c.args.pattern c.max-most.result
          (λ p. c.in_ok-insert.ensures.updates.0 p ∙ ap (λ b. cond (same_prefix b p) (Some c.max-most.result) (old p)) base)
          (m ∙ ap (λ n. max n (suc c.args.pattern.upto)) e) held.ends;
    }
