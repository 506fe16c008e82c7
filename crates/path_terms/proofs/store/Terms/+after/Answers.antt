use Rattle.std.proofs.Common.{◌<◌, ap, arith, length, lt-ltb, sym, ◌∙◌}
use Rattle.std.specs.Prelude.{nat_lt}
use Rattle.std.proofs.lemmas.Bool.{and_from}
use Rattle.std.proofs.lemmas.Result.{IfOk-weaker}
use Rattle.path_exprs.specs.Expression.{seq}
use Rattle.path_exprs.specs.Normal.{after as after_of}
use Rattle.path_exprs.proofs.Numbers.{at-extends, extends-trans, longer}
use Rattle.path_terms.specs.Terms.{at}
use Rattle.path_terms.specs.Values.{values}
use Rattle.path_terms.proofs.store.Terms.+after.Goals as goal

pub after-requires : goal.after-requires
after-requires t c =
    let before = c.in-Some.ensures.before in
    (omega (arith, before.1), (omega (arith, before.1, c.requires.first), c.requires.second))

pub intern-requires : goal.intern-requires
intern-requires t c =
    let old = values c.args.self.now in
    let new = values c.after.new.self in
    let first : c.in-Some.first < length old = omega (arith, c.in-Some.ensures.before.0, c.requires.first) in
    let here = longer old new c.in-Some.first c.after.ensures.extends first in
    let rest = c.in_ok-rest-in-Some.rest in
    let count = length new in
    record { sound = and_from (nat_lt c.in-Some.first count) (nat_lt rest count) (lt-ltb c.in-Some.first count here) (lt-ltb rest count c.in_ok-rest-in-Some.ensures.known) }

pub intern-requires-in-None : goal.intern-requires-in-None
intern-requires-in-None t c =
    let count = length (values c.args.self.now) in
    record { sound = and_from (nat_lt c.args.a count) (nat_lt c.args.c count) (lt-ltb c.args.a count c.requires.first) (lt-ltb c.args.c count c.requires.second) }

pub returns-in_err-rest-in-Some-clause-extends : goal.returns-in_err-rest-in-Some-clause-extends
returns-in_err-rest-in-Some-clause-extends t c = c.after.ensures.extends

pub returns-in_ok-rest-in-Some-clause-made : goal.returns-in_ok-rest-in-Some-clause-made
returns-in_ok-rest-in-Some-clause-made t c =
    let old = values c.args.self.now in
    let new = values c.after.new.self in
    let first : c.in-Some.first < length old = omega (arith, c.in-Some.ensures.before.0, c.requires.first) in
    IfOk-weaker c.intern.result _ _
    (λ n q. q
    ∙ ap (λ e. seq e (at new c.in_ok-rest-in-Some.rest)) (at-extends old new c.in-Some.first c.after.ensures.extends first)
    ∙ ap (seq (at old c.in-Some.first)) c.in_ok-rest-in-Some.ensures.made
    ∙ sym (ap (λ e. after_of e (at old c.args.c)) c.in-Some.ensures.some))
    c.intern.ensures.made

pub returns-in_ok-rest-in-Some-clause-known : goal.returns-in_ok-rest-in-Some-clause-known
returns-in_ok-rest-in-Some-clause-known t c = c.intern.ensures.known

pub returns-in_ok-rest-in-Some-clause-extends : goal.returns-in_ok-rest-in-Some-clause-extends
returns-in_ok-rest-in-Some-clause-extends t c = extends-trans (values c.args.self.now) (values c.after.new.self) (values c.intern.new.self) c.after.ensures.extends c.intern.ensures.extends

pub returns-in-None-clause-made : goal.returns-in-None-clause-made
returns-in-None-clause-made t c =
    IfOk-weaker c.intern-in-None.result _ _ (λ n q. q ∙ sym (c.in-None.ensures.none (at (values c.args.self.now) c.args.c))) c.intern-in-None.ensures.made

pub returns-in-None-clause-known : goal.returns-in-None-clause-known
returns-in-None-clause-known t c = c.intern-in-None.ensures.known

pub returns-in-None-clause-extends : goal.returns-in-None-clause-extends
returns-in-None-clause-extends t c = c.intern-in-None.ensures.extends
