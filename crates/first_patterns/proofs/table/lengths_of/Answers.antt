use Rattle.std.proofs.Common.{◌≡◌, ◌<◌, ◌∙◌, Bool, List, Some, ap, arith, inl, inr, length, length-set, set, subst, sym, true}
use Rattle.std.specs.Prelude.{slice_get}
use Rattle.std.proofs.lemmas.Bool.{cases_lt}
use Rattle.std.proofs.lemmas.Option.{get_or_from_slice_get, slice_get_within}
use Rattle.first_patterns.specs.declared.firsts.Stated.{Stated}
use Rattle.first_patterns.proofs.Heads.{marked_there, still_marked}
use Rattle.first_patterns.proofs.table.lengths_of.Goals as goal

pub loop-i-preserved : goal.loop-i-preserved
loop-i-preserved c =
    let ls = c.loop-i.lengths.items in
    let n = c.len.result in
    let i = c.loop-i.i in
    let x = c.index-patterns-i.result in
    let within : n < length ls = omega (arith, c.len.ensures.len, c.len.ensures.rules.within, c.loop-i.invariant.count) in
    record {
      count = length-set ls n true ∙ c.loop-i.invariant.count;
      marked = λ j t less at. elim (cases_lt j i) [
        | inl before ↦ still_marked ls n t.pattern.base.len (c.loop-i.invariant.marked j t before at)
        | inr past ↦
            let last : j ≡ i = omega (arith, less, past) in
            let here : slice_get c.args.patterns.now i ≡ Some t = ap (slice_get c.args.patterns.now) (sym last) ∙ at in
            let same : x ≡ t = c.index-patterns-i.is ∙ get_or_from_slice_get c.args.patterns.now i t x here in
            let len : n ≡ t.pattern.base.len = c.len.ensures.len ∙ ap (λ b. b.len) c.base.ensures.base ∙ ap (λ (s : Stated). s.pattern.base.len) (sym c.index-patterns-i.is ∙ same) in
            subst (λ k. slice_get (set ls n true) k ≡ Some true) len (marked_there ls n within)
      ];
    }

pub returns : goal.returns
returns c = λ i t at. c.loop-i.invariant.marked i t (omega (arith, slice_get_within c.args.patterns.now i t at, c.loop-i-test.false)) at
