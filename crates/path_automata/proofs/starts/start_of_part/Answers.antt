use Rattle.std.proofs.Common.{◌≡◌, ◌∷◌, [], length, lt-ltb, map, get_or, subst, sym, true, ap, ◌∙◌}
use Rattle.std.specs.Prelude.{nat_lt}
use Rattle.std.proofs.lemmas.Bool.{and_from}
use Rattle.std.proofs.lemmas.List.{append-nil}
use Rattle.std.proofs.lemmas.Result.{IfOk-weaker}
use Rattle.path_exprs.specs.Normal.{normal, reversed}
use Rattle.path_exprs.specs.Parts.{are_known, expression_of}
use Rattle.path_exprs.proofs.Numbers.{known-at, known-one}
use Rattle.path_terms.specs.Values.{values}
use Rattle.path_automata.proofs.Reversals.{both-within, known-places, members-known, not-within, part-Both, part-Either, part-Not}
use Rattle.path_automata.proofs.starts.start_of_part.Goals as goal

pub either_of-requires : goal.either_of-requires
either_of-requires c =
    let vs = values c.args.terms.now in
    let ns = c.args.before.now in
    let ms = c.in-Either.members in record {
      known = subst (λ l. are_known (length vs) l ≡ true)
          (sym (c.deref-in-Either.ensures.value ∙ c.in_ok-members-in-Either.ensures ∙ ap (map (λ m. get_or ns m 0)) c.deref.ensures.value))
          (known-places (length vs) ns ms.items c.requires.known (members-known (length ns) ms c.args.part.now c.requires.earlier c.in-Either.is));
    }

pub returns-in-Both-clause-made : goal.returns-in-Both-clause-made
returns-in-Both-clause-made c =
    IfOk-weaker c.both_of.result _ _
    (λ n made es q. part-Both c.args.full.now (values c.args.terms.now) c.args.before.now es c.in-Both.a c.in-Both.b c.args.part.now _ c.requires.earlier c.in-Both.is made q)
    c.both_of.ensures.made

pub returns-in_ok-members-in-Either-clause-made : goal.returns-in_ok-members-in-Either-clause-made
returns-in_ok-members-in-Either-clause-made c =
    let ns = c.args.before.now in
    let places = c.deref-in-Either.ensures.value ∙ c.in_ok-members-in-Either.ensures ∙ ap (map (λ m. get_or ns m 0)) c.deref.ensures.value in
    IfOk-weaker c.either_of.result _ _
    (λ n made es q. part-Either c.args.full.now (values c.args.terms.now) ns c.deref-in-Either.result.now es c.in-Either.members c.args.part.now _ c.requires.earlier c.in-Either.is made places q)
    c.either_of.ensures.made

pub returns-in-Not-clause-made : goal.returns-in-Not-clause-made
returns-in-Not-clause-made c =
    IfOk-weaker c.complement_of.result _ _
    (λ n made es q. part-Not c.args.full.now (values c.args.terms.now) c.args.before.now es c.in-Not.a c.args.part.now _ c.requires.earlier c.in-Not.is made q)
    c.complement_of.ensures.made

pub bounds-before-a : goal.bounds-before-a
bounds-before-a c = (both-within (length c.args.before.now) c.in-Both.a c.in-Both.b c.args.part.now c.requires.earlier c.in-Both.is).0

pub bounds-before-b : goal.bounds-before-b
bounds-before-b c = (both-within (length c.args.before.now) c.in-Both.a c.in-Both.b c.args.part.now c.requires.earlier c.in-Both.is).1

pub both_of-requires : goal.both_of-requires
both_of-requires c =
    let k = length (values c.args.terms.now) in
    let ns = c.args.before.now in
    let within = both-within (length ns) c.in-Both.a c.in-Both.b c.args.part.now c.requires.earlier c.in-Both.is in
    let first = known-at k ns c.in-Both.a 0 within.0 c.requires.known in
    let second = known-at k ns c.in-Both.b 0 within.1 c.requires.known in
    record { known = and_from (nat_lt (get_or ns c.in-Both.a 0) k) (are_known k (get_or ns c.in-Both.b 0 ∷ [])) (lt-ltb _ k first) (known-one k _ second) }

pub bounds-before-a-in-Not : goal.bounds-before-a-in-Not
bounds-before-a-in-Not c = not-within (length c.args.before.now) c.in-Not.a c.args.part.now c.requires.earlier c.in-Not.is

pub complement_of-requires : goal.complement_of-requires
complement_of-requires c =
    let ns = c.args.before.now in
    let within = not-within (length ns) c.in-Not.a c.args.part.now c.requires.earlier c.in-Not.is in
    record { known = known-at (length (values c.args.terms.now)) ns c.in-Not.a 0 within c.requires.known }

pub returns-in-Own-clause-made : goal.returns-in-Own-clause-made
returns-in-Own-clause-made c =
    IfOk-weaker c.reversal_of.result _ _
    (λ n made es q. made ∙ sym (ap (λ p. normal c.args.full.now (reversed (expression_of es p))) c.in-Own.is))
    c.reversal_of.ensures.made

pub returns-in_err-members-in-Either-clause-extends : goal.returns-in_err-members-in-Either-clause-extends
returns-in_err-members-in-Either-clause-extends c = ([], sym (append-nil (values c.args.terms.now)))

pub returns-in-Both-clause-known : goal.returns-in-Both-clause-known
returns-in-Both-clause-known c = c.both_of.ensures.known

pub returns-in-Both-clause-extends : goal.returns-in-Both-clause-extends
returns-in-Both-clause-extends c = c.both_of.ensures.extends

pub returns-in_ok-members-in-Either-clause-known : goal.returns-in_ok-members-in-Either-clause-known
returns-in_ok-members-in-Either-clause-known c = c.either_of.ensures.known

pub returns-in_ok-members-in-Either-clause-extends : goal.returns-in_ok-members-in-Either-clause-extends
returns-in_ok-members-in-Either-clause-extends c = c.either_of.ensures.extends

pub returns-in-Not-clause-known : goal.returns-in-Not-clause-known
returns-in-Not-clause-known c = c.complement_of.ensures.known

pub returns-in-Not-clause-extends : goal.returns-in-Not-clause-extends
returns-in-Not-clause-extends c = c.complement_of.ensures.extends
