use Rattle.std.proofs.Common.{◌+◌, ℕ, List, [], Some, drop, map, ap, sym, ◌∙◌}
use Rattle.std.proofs.lemmas.List.{at_drop_all, at_drop_more}
use Rattle.std.specs.Prelude.{if◌then◌else◌}
use Rattle.policy_base.specs.Meaning.{place_of}
use Rattle.path_exprs.specs.Membership.{member}
use Rattle.path_terms.specs.Terms.{at}
use Rattle.path_terms.specs.Values.{values}
use Rattle.path_automata.proofs.facts.first_with_empty.Goals as goal

pub returns-then-holds_empty : goal.returns-then-holds_empty
returns-then-holds_empty c =
    let place = λ (ns : List ℕ) (k : ℕ). place_of (map member (map (at (values c.args.terms.now)) ns)) [] k in
    let numbers = c.args.numbers.now in
    let i = c.loop-i.i in
    sym (c.loop-i.invariant ∙ at_drop_more (λ ns. place ns (i + 1)) numbers i 0 c.loop-i-test.true
    ∙ ap (λ b. if b then Some (i + 1) else place (drop (i + 1) numbers) (i + 1 + 1)) (sym c.holds_empty.ensures ∙ c.if-holds_empty.true))

pub loop-i-preserved : goal.loop-i-preserved
loop-i-preserved c =
    let place = λ (ns : List ℕ) (k : ℕ). place_of (map member (map (at (values c.args.terms.now)) ns)) [] k in
    let numbers = c.args.numbers.now in
    let i = c.loop-i.i in
    c.loop-i.invariant ∙ at_drop_more (λ ns. place ns (i + 1)) numbers i 0 c.loop-i-test.true
    ∙ ap (λ b. if b then Some (i + 1) else place (drop (i + 1) numbers) (i + 1 + 1)) (sym c.holds_empty.ensures ∙ c.if-holds_empty.false)

pub returns : goal.returns
returns c =
    let i = c.loop-i.i in
    sym (c.loop-i.invariant ∙ at_drop_all (λ (ns : List ℕ). place_of (map member (map (at (values c.args.terms.now)) ns)) [] (i + 1)) c.args.numbers.now i c.loop-i-test.false)
