use Rattle.std.proofs.Common.{◌||◌, ◌+◌, ℕ, List, drop, map, ap, sym, ◌∙◌}
use Rattle.std.proofs.lemmas.List.{at_drop_all, at_drop_more}
use Rattle.std.specs.List.{list_any}
use Rattle.path_terms.specs.Joined.{is_whole}
use Rattle.path_terms.specs.Terms.{at}
use Rattle.path_terms.specs.Values.{values}
use Rattle.path_terms.proofs.join.is_whole_among.Goals as goal

pub returns-then-is_whole : goal.returns-then-is_whole
returns-then-is_whole c =
    let test = λ (ns : List ℕ). list_any (is_whole c.args.join) (map (at (values c.args.terms.now)) ns) in
    let numbers = c.args.numbers.now in
    let i = c.loop-number.number-index in
    sym (c.loop-number.invariant ∙ at_drop_more test numbers i 0 c.loop-number-test.true ∙ ap (λ b. b || test (drop (i + 1) numbers)) (sym c.is_whole.ensures ∙ c.if-is_whole.true))

pub loop-number-preserved : goal.loop-number-preserved
loop-number-preserved c =
    let test = λ (ns : List ℕ). list_any (is_whole c.args.join) (map (at (values c.args.terms.now)) ns) in
    let numbers = c.args.numbers.now in
    let i = c.loop-number.number-index in
    c.loop-number.invariant ∙ at_drop_more test numbers i 0 c.loop-number-test.true ∙ ap (λ b. b || test (drop (i + 1) numbers)) (sym c.is_whole.ensures ∙ c.if-is_whole.false)

pub returns : goal.returns
returns c =
    let test = λ (ns : List ℕ). list_any (is_whole c.args.join) (map (at (values c.args.terms.now)) ns) in
    sym (c.loop-number.invariant ∙ at_drop_all test c.args.numbers.now c.loop-number.number-index c.loop-number-test.false)
