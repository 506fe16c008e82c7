use Rattle.std.proofs.Common.{◌||◌, ◌&&◌, ◌+◌, ℕ, List, [], drop, ap, sym, ◌∙◌, map}
use Rattle.std.proofs.lemmas.List.{at_drop_all, at_drop_more}
use Rattle.std.specs.List.{list_all, list_any}
use Rattle.path_exprs.specs.Membership.{member}
use Rattle.path_terms.specs.Terms.{at, node}
use Rattle.path_terms.specs.Values.{values}
use Rattle.path_terms.proofs.Members.{holds-either, holds-both}
use Rattle.path_terms.proofs.emptiness.+holds_empty.Goals as goal

pub holds_empty-returns-in-Either : goal.holds_empty-returns-in-Either
holds_empty-returns-in-Either t c =
    let vs = values c.args.terms.now in
    c.some_holds_empty.ensures ∙ ap (λ l. list_any (λ e. member e []) (map (at vs) l)) c.deref.ensures.value
    ∙ holds-either vs c.in-Either.members.items (at vs c.args.number) (c.term.ensures.node ∙ ap (node vs) c.in-Either.is)

pub holds_empty-returns-in-Both : goal.holds_empty-returns-in-Both
holds_empty-returns-in-Both t c =
    let vs = values c.args.terms.now in
    c.each_holds_empty.ensures ∙ ap (λ l. list_all (λ e. member e []) (map (at vs) l)) c.deref-in-Both.ensures.value
    ∙ holds-both vs c.in-Both.members.items (at vs c.args.number) (c.term.ensures.node ∙ ap (node vs) c.in-Both.is)

pub some_holds_empty-returns-then-holds_empty : goal.some_holds_empty-returns-then-holds_empty
some_holds_empty-returns-then-holds_empty t c =
    let test = λ (ns : List ℕ). list_any (λ e. member e []) (map (at (values c.args.terms.now)) ns) in
    let numbers = c.args.numbers.now in
    let i = c.loop-i.i in
    sym (c.loop-i.invariant ∙ at_drop_more test numbers i 0 c.loop-i-test.true ∙ ap (λ b. b || test (drop (i + 1) numbers)) (sym c.holds_empty.ensures ∙ c.if-holds_empty.true))

pub some_holds_empty-loop-i-preserved : goal.some_holds_empty-loop-i-preserved
some_holds_empty-loop-i-preserved t c =
    let test = λ (ns : List ℕ). list_any (λ e. member e []) (map (at (values c.args.terms.now)) ns) in
    let numbers = c.args.numbers.now in
    let i = c.loop-i.i in
    c.loop-i.invariant ∙ at_drop_more test numbers i 0 c.loop-i-test.true ∙ ap (λ b. b || test (drop (i + 1) numbers)) (sym c.holds_empty.ensures ∙ c.if-holds_empty.false)

pub some_holds_empty-returns : goal.some_holds_empty-returns
some_holds_empty-returns t c =
    let test = λ (ns : List ℕ). list_any (λ e. member e []) (map (at (values c.args.terms.now)) ns) in
    sym (c.loop-i.invariant ∙ at_drop_all test c.args.numbers.now c.loop-i.i c.loop-i-test.false)

pub each_holds_empty-returns-then-not-holds_empty : goal.each_holds_empty-returns-then-not-holds_empty
each_holds_empty-returns-then-not-holds_empty t c =
    let test = λ (ns : List ℕ). list_all (λ e. member e []) (map (at (values c.args.terms.now)) ns) in
    let numbers = c.args.numbers.now in
    let i = c.loop-i.i in
    sym (c.loop-i.invariant ∙ at_drop_more test numbers i 0 c.loop-i-test.true ∙ ap (λ b. b && test (drop (i + 1) numbers)) (sym c.holds_empty.ensures ∙ c.if-not-holds_empty.true))

pub each_holds_empty-loop-i-preserved : goal.each_holds_empty-loop-i-preserved
each_holds_empty-loop-i-preserved t c =
    let test = λ (ns : List ℕ). list_all (λ e. member e []) (map (at (values c.args.terms.now)) ns) in
    let numbers = c.args.numbers.now in
    let i = c.loop-i.i in
    c.loop-i.invariant ∙ at_drop_more test numbers i 0 c.loop-i-test.true ∙ ap (λ b. b && test (drop (i + 1) numbers)) (sym c.holds_empty.ensures ∙ c.if-not-holds_empty.false)

pub each_holds_empty-returns : goal.each_holds_empty-returns
each_holds_empty-returns t c =
    let test = λ (ns : List ℕ). list_all (λ e. member e []) (map (at (values c.args.terms.now)) ns) in
    sym (c.loop-i.invariant ∙ at_drop_all test c.args.numbers.now c.loop-i.i c.loop-i-test.false)
