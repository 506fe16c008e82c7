use Rattle.std.proofs.Common.{◌≡◌, arith, ap, refl, sym, ◌∙◌, true, false, [], subst, get_or, length, map, ◌<◌}
use Rattle.path_terms.specs.Terms.{node, are_known, is_sound, at}
use Rattle.path_terms.specs.Values.{values, value}
use Rattle.std.proofs.lemmas.Result.{IfOk-weaker}
use Rattle.std.proofs.lemmas.List.{append-nil, take_all}
use Rattle.path_exprs.specs.Expression.{empty, never, seq}
use Rattle.path_exprs.specs.Membership.{member}
use Rattle.path_exprs.specs.Normal.{either_of, both_of}
use Rattle.path_exprs.specs.Derivative.{derivative}
use Rattle.path_exprs.proofs.Numbers.{at-extends, extends-trans, known-at, longer}
use Rattle.path_automata.proofs.Entries.{derived_extends, classed-same, never-made, set-made, not-made, star-made, seq-front, seq-both, not-below, star-below, seq-below, seq-known}
use Rattle.path_automata.proofs.Entries.{classed-not, classed-star, classed-first, classed-second}
use Rattle.path_automata.proofs.Lists.{either-made, both-made, classed-either, classed-both, classed-at, copied-below, copied-made, each-turn, known-turn}
use Rattle.path_automata.specs.Classes.{AreSorted}
use Rattle.path_automata.proofs.derive.+derivative.Goals as goal

pub made-derivative-requires : goal.made-derivative-requires
made-derivative-requires t c =
    let old = values c.args.terms.now in
    let lt = not-below c.args.e c.term.result.now c.in-Not.a c.in-Not.is c.term.ensures.sound in
    let classed = classed-not c.args.classes.now (at old c.args.e) (at old c.in-Not.a) (c.term.ensures.node ∙ ap (node old) c.in-Not.is) c.requires.classed in
    (omega (arith, lt), (c.requires.derived, (omega (arith, lt, c.requires.known), classed)))

pub made-derivative-requires-in-Star : goal.made-derivative-requires-in-Star
made-derivative-requires-in-Star t c =
    let old = values c.args.terms.now in
    let lt = star-below c.args.e c.term.result.now c.in-Star.a c.in-Star.is c.term.ensures.sound in
    let classed = classed-star c.args.classes.now (at old c.args.e) (at old c.in-Star.a) (c.term.ensures.node ∙ ap (node old) c.in-Star.is) c.requires.classed in
    (omega (arith, lt), (c.requires.derived, (omega (arith, lt, c.requires.known), classed)))

pub made-derivative-requires-in-Seq : goal.made-derivative-requires-in-Seq
made-derivative-requires-in-Seq t c =
    let old = values c.args.terms.now in
    let lt = (seq-below c.args.e c.term.result.now c.in-Seq.a c.in-Seq.b c.in-Seq.is c.term.ensures.sound).0 in
    let classed = classed-first c.args.classes.now (at old c.args.e) (at old c.in-Seq.a) (at old c.in-Seq.b) (c.term.ensures.node ∙ ap (node old) c.in-Seq.is) c.requires.classed in
    (omega (arith, lt), (c.requires.derived, (omega (arith, lt, c.requires.known), classed)))

pub made-returns-in_err-kept-in-Seq-clause-derived : goal.made-returns-in_err-kept-in-Seq-clause-derived
made-returns-in_err-kept-in-Seq-clause-derived t c =
    derived_extends c.args.classes.now (values c.derivative-in-Seq.new.terms) (values c.front.new.terms) c.derivative-in-Seq.new.derived c.front.ensures.extends c.derivative-in-Seq.ensures.derived

pub made-derivative-requires-then-holds_empty : goal.made-derivative-requires-then-holds_empty
made-derivative-requires-then-holds_empty t c =
    let old = values c.args.terms.now in
    let one = values c.derivative-in-Seq.new.terms in
    let two = values c.front.new.terms in
    let lt = (seq-below c.args.e c.term.result.now c.in-Seq.a c.in-Seq.b c.in-Seq.is c.term.ensures.sound).1 in
    let known = (seq-known c.args.e (length old) c.term.result.now c.in-Seq.a c.in-Seq.b c.in-Seq.is c.term.ensures.sound c.requires.known).1 in
    let x = extends-trans old one two c.derivative-in-Seq.ensures.extends c.front.ensures.extends in (
      omega (arith, lt),
      (
        derived_extends c.args.classes.now one two c.derivative-in-Seq.new.derived c.front.ensures.extends c.derivative-in-Seq.ensures.derived,
        (
          longer old two c.in-Seq.b x known,
          classed-same c.args.classes.now (value c.args.terms.now c.in-Seq.b) (value c.front.new.terms c.in-Seq.b) (at-extends old two c.in-Seq.b x known)
              (classed-second c.args.classes.now (value c.args.terms.now c.args.e) (value c.args.terms.now c.in-Seq.a)
              (value c.args.terms.now c.in-Seq.b) (c.term.ensures.node ∙ ap (node old) c.in-Seq.is) c.requires.classed),
        ),
      ),
    )

pub made-returns-in_ok-inner-in-Not : goal.made-returns-in_ok-inner-in-Not
made-returns-in_ok-inner-in-Not t c =
    let old = values c.args.terms.now in
    let one = values c.derivative.new.terms in record {
      derived = derived_extends c.args.classes.now one (values c.complement_of.new.terms) c.derivative.new.derived c.complement_of.ensures.extends c.derivative.ensures.derived;
      made =
          IfOk-weaker c.complement_of.result _ _
          (λ n q. not-made c.args.at (at old c.args.e) (at old c.in-Not.a) _ _ (c.term.ensures.node ∙ ap (node old) c.in-Not.is) c.in_ok-inner-in-Not.ensures.made q)
          c.complement_of.ensures.made;
      known = c.complement_of.ensures.known;
      extends = extends-trans old one (values c.complement_of.new.terms) c.derivative.ensures.extends c.complement_of.ensures.extends;
    }

pub made-returns-in_ok-first-in-Star : goal.made-returns-in_ok-first-in-Star
made-returns-in_ok-first-in-Star t c =
    let old = values c.args.terms.now in
    let one = values c.derivative-in-Star.new.terms in record {
      derived = derived_extends c.args.classes.now one (values c.seq_of.new.self) c.derivative-in-Star.new.derived c.seq_of.ensures.extends c.derivative-in-Star.ensures.derived;
      made =
          IfOk-weaker c.seq_of.result _ _
          (λ n q. star-made c.args.at (at old c.args.e) (at old c.in-Star.a) _ _ _ (c.term.ensures.node ∙ ap (node old) c.in-Star.is)
          c.in_ok-first-in-Star.ensures.made (at-extends old one c.args.e c.derivative-in-Star.ensures.extends c.requires.known) q)
          c.seq_of.ensures.made;
      known = c.seq_of.ensures.known;
      extends = extends-trans old one (values c.seq_of.new.self) c.derivative-in-Star.ensures.extends c.seq_of.ensures.extends;
    }

pub made-returns-else-holds : goal.made-returns-else-holds
made-returns-else-holds t c =
    let old = values c.args.terms.now in record {
      derived = derived_extends c.args.classes.now old (values c.intern-else-holds.new.self) c.args.derived.now c.intern-else-holds.ensures.extends c.requires.derived;
      made =
          IfOk-weaker c.intern-else-holds.result _ _
          (λ n q. set-made c.args.at (at old c.args.e) _ c.in-Set.set false (c.term.ensures.node ∙ ap (node old) c.in-Set.is) (sym c.holds.ensures ∙ c.if-holds.false) q)
          c.intern-else-holds.ensures.made;
      known = c.intern-else-holds.ensures.known;
      extends = c.intern-else-holds.ensures.extends;
    }

pub made-returns-in_ok-back-in-Seq : goal.made-returns-in_ok-back-in-Seq
made-returns-in_ok-back-in-Seq t c =
    let old = values c.args.terms.now in
    let one = values c.derivative-in-Seq.new.terms in
    let two = values c.front.new.terms in
    let three = values c.derivative-then-holds_empty.new.terms in
    let below = seq-known c.args.e (length old) c.term.result.now c.in-Seq.a c.in-Seq.b c.in-Seq.is c.term.ensures.sound c.requires.known in
    let x1 = c.derivative-in-Seq.ensures.extends in
    let x2 = extends-trans old one two x1 c.front.ensures.extends in
    let holds = ap (λ e. member e []) (sym (at-extends old two c.in-Seq.a x2 below.0)) ∙ sym c.holds_empty.ensures ∙ c.if-holds_empty.true in
    let x3 = extends-trans old two three x2 c.derivative-then-holds_empty.ensures.extends in record {
      derived =
          derived_extends c.args.classes.now three (values c.joined.new.terms)
          c.derivative-then-holds_empty.new.derived c.joined.ensures.extends c.derivative-then-holds_empty.ensures.derived;
      made =
          IfOk-weaker c.joined.result _ _
          (λ n q. seq-both c.args.at (at old c.args.e) (at old c.in-Seq.a) (at old c.in-Seq.b) _ _ _ _ _
          (c.term.ensures.node ∙ ap (node old) c.in-Seq.is)
          c.in_ok-first-in-Seq.ensures.made
          (at-extends old one c.in-Seq.b x1 below.1)
          (at-extends two three c.in_ok-kept-in-Seq.kept c.derivative-then-holds_empty.ensures.extends c.in_ok-kept-in-Seq.ensures.known ∙ c.in_ok-kept-in-Seq.ensures.made)
          (c.in_ok-back-in-Seq.ensures.made ∙ ap (derivative c.args.at) (at-extends old two c.in-Seq.b x2 below.1))
          holds q)
          c.joined.ensures.made;
      known = c.joined.ensures.known;
      extends = extends-trans old three (values c.joined.new.terms) x3 c.joined.ensures.extends;
    }

pub made-returns-else-holds_empty : goal.made-returns-else-holds_empty
made-returns-else-holds_empty t c =
    let old = values c.args.terms.now in
    let one = values c.derivative-in-Seq.new.terms in
    let two = values c.front.new.terms in
    let below = seq-known c.args.e (length old) c.term.result.now c.in-Seq.a c.in-Seq.b c.in-Seq.is c.term.ensures.sound c.requires.known in
    let x1 = c.derivative-in-Seq.ensures.extends in
    let x2 = extends-trans old one two x1 c.front.ensures.extends in
    let holds = ap (λ e. member e []) (sym (at-extends old two c.in-Seq.a x2 below.0)) ∙ sym c.holds_empty.ensures ∙ c.if-holds_empty.false in record {
      derived = derived_extends c.args.classes.now one two c.derivative-in-Seq.new.derived c.front.ensures.extends c.derivative-in-Seq.ensures.derived;
      made =
          seq-front c.args.at (at old c.args.e) (at old c.in-Seq.a) (at old c.in-Seq.b) _ _ _
          (c.term.ensures.node ∙ ap (node old) c.in-Seq.is) c.in_ok-first-in-Seq.ensures.made (at-extends old one c.in-Seq.b x1 below.1) c.in_ok-kept-in-Seq.ensures.made holds;
      known = c.in_ok-kept-in-Seq.ensures.known;
      extends = x2;
    }

pub derivatives-derivative-requires : goal.derivatives-derivative-requires
derivatives-derivative-requires t c =
    let old = values c.args.terms.now in
    let lt = known-at c.args.bound c.args.numbers.now c.loop-i.i 0 c.loop-i-test.true c.requires.below in
    let lo : get_or c.args.numbers.now c.loop-i.i 0 < length old = omega (arith, lt, c.requires.bound) in (
      omega (arith, lt),
      (
        c.loop-i.invariant.derived,
        (
          longer old (values c.loop-i.terms) _ c.loop-i.invariant.extends lo,
          classed-same c.args.classes.now _ _ (at-extends old (values c.loop-i.terms) _ c.loop-i.invariant.extends lo)
              (classed-at c.args.classes.now old c.args.numbers.now c.loop-i.i 0 c.loop-i-test.true c.requires.classed),
        ),
      ),
    )

pub derivatives-loop-i-preserved : goal.derivatives-loop-i-preserved
derivatives-loop-i-preserved t c =
    let old = values c.args.terms.now in
    let cur = values c.loop-i.terms in
    let new = values c.derivative.new.terms in
    let ns = c.loop-i.all.items in
    let known = c.loop-i.invariant.known in
    let x = c.derivative.ensures.extends in
    let lt = known-at c.args.bound c.args.numbers.now c.loop-i.i 0 c.loop-i-test.true c.requires.below in
    let lo : get_or c.args.numbers.now c.loop-i.i 0 < length old = omega (arith, lt, c.requires.bound) in
    record {
      derived = c.derivative.ensures.derived;
      extends = extends-trans old cur new c.loop-i.invariant.extends x;
      made = ap (map (at new)) c.in_ok-push.ensures.items
          ∙ each-turn old cur new ns c.args.numbers.now c.loop-i.i 0 _ c.args.at c.loop-i.invariant.extends x known lo c.loop-i-test.true c.loop-i.invariant.made c.in_ok-derivative.ensures.made;
      known = known-turn cur new ns _ _ c.in_ok-push.ensures.items x known c.in_ok-derivative.ensures.known;
      len = omega (arith, c.in_ok-push.ensures.len, c.loop-i.invariant.len);
    }

pub made-returns-in_ok-all-in-Either : goal.made-returns-in_ok-all-in-Either
made-returns-in_ok-all-in-Either t c =
    let old = values c.args.terms.now in
    let one = values c.derivatives.new.terms in
    let ms = c.in-Either.members.items in
    let same = c.deref-in-Either.ensures.value ∙ c.in_ok-members-in-Either.ensures ∙ c.deref.ensures.value in record {
      derived = derived_extends c.args.classes.now one (values c.either_of.new.terms) c.derivatives.new.derived c.either_of.ensures.extends c.derivatives.ensures.derived;
      made =
          IfOk-weaker c.either_of.result _ _
          (λ n r. either-made c.args.at (map (at old) ms) (at old c.args.e) _ (c.term.ensures.node ∙ ap (node old) c.in-Either.is)
          (r ∙ ap either_of (copied-made c.args.at old one ms _ _ _ c.deref-in-Either-2.ensures.value c.in_ok-all-in-Either.ensures.made same)))
          c.either_of.ensures.made;
      known = c.either_of.ensures.known;
      extends = extends-trans old one (values c.either_of.new.terms) c.derivatives.ensures.extends c.either_of.ensures.extends;
    }

pub made-returns-in_ok-all-in-Both : goal.made-returns-in_ok-all-in-Both
made-returns-in_ok-all-in-Both t c =
    let old = values c.args.terms.now in
    let one = values c.derivatives-in-Both.new.terms in
    let ms = c.in-Both.members.items in
    let same = c.deref-in-Both-2.ensures.value ∙ c.in_ok-members-in-Both.ensures ∙ c.deref-in-Both.ensures.value in record {
      derived =
          derived_extends c.args.classes.now one (values c.both_of.new.terms) c.derivatives-in-Both.new.derived
          c.both_of.ensures.extends c.derivatives-in-Both.ensures.derived;
      made =
          IfOk-weaker c.both_of.result _ _
          (λ n r. both-made c.args.at (map (at old) ms) (at old c.args.e) _ (c.term.ensures.node ∙ ap (node old) c.in-Both.is)
          (r ∙ ap both_of (copied-made c.args.at old one ms _ _ _ c.deref-in-Both-3.ensures.value c.in_ok-all-in-Both.ensures.made same)))
          c.both_of.ensures.made;
      known = c.both_of.ensures.known;
      extends = extends-trans old one (values c.both_of.new.terms) c.derivatives-in-Both.ensures.extends c.both_of.ensures.extends;
    }

pub made-derivatives-requires : goal.made-derivatives-requires
made-derivatives-requires t c =
    let old = values c.args.terms.now in
    let ms = c.in-Either.members.items in
    let same = c.deref-in-Either.ensures.value ∙ c.in_ok-members-in-Either.ensures ∙ c.deref.ensures.value in
    let below = copied-below c.args.e ms _ same (subst (λ t. is_sound c.args.e t ≡ true) c.in-Either.is c.term.ensures.sound) in
    let classed = classed-either c.args.classes.now (map (at old) ms) (at old c.args.e) (c.term.ensures.node ∙ ap (node old) c.in-Either.is) c.requires.classed in
    (omega arith, (c.requires.derived, (omega (arith, c.requires.known), (below, subst (λ l. AreSorted c.args.classes.now (map (at old) l)) (sym same) classed))))

pub made-derivatives-requires-in-Both : goal.made-derivatives-requires-in-Both
made-derivatives-requires-in-Both t c =
    let old = values c.args.terms.now in
    let ms = c.in-Both.members.items in
    let same = c.deref-in-Both-2.ensures.value ∙ c.in_ok-members-in-Both.ensures ∙ c.deref-in-Both.ensures.value in
    let below = copied-below c.args.e ms _ same (subst (λ t. is_sound c.args.e t ≡ true) c.in-Both.is c.term.ensures.sound) in
    let classed = classed-both c.args.classes.now (map (at old) ms) (at old c.args.e) (c.term.ensures.node ∙ ap (node old) c.in-Both.is) c.requires.classed in
    (omega arith, (c.requires.derived, (omega (arith, c.requires.known), (below, subst (λ l. AreSorted c.args.classes.now (map (at old) l)) (sym same) classed))))

pub made-front-requires : goal.made-front-requires
made-front-requires t c =
    let old = values c.args.terms.now in
    let one = values c.derivative-in-Seq.new.terms in
    let x1 = c.derivative-in-Seq.ensures.extends in
    let below = seq-known c.args.e (length old) c.term.result.now c.in-Seq.a c.in-Seq.b c.in-Seq.is c.term.ensures.sound c.requires.known in record {
      term =
          at-extends old one c.args.e x1 c.requires.known ∙ c.term.ensures.node ∙ ap (node old) c.in-Seq.is
          ∙ ap (λ v. seq v (at old c.in-Seq.b)) (sym (at-extends old one c.in-Seq.a x1 below.0)) ∙ ap (seq (at one c.in-Seq.a)) (sym (at-extends old one c.in-Seq.b x1 below.1));
      e = longer old one c.args.e x1 c.requires.known;
      a = longer old one c.in-Seq.a x1 below.0;
      b = longer old one c.in-Seq.b x1 below.1;
      first = c.in_ok-first-in-Seq.ensures.known;
    }

pub made-returns-in_err-kept-in-Seq-clause-extends : goal.made-returns-in_err-kept-in-Seq-clause-extends
made-returns-in_err-kept-in-Seq-clause-extends t c =
    let old = values c.args.terms.now in
    extends-trans old (values c.derivative-in-Seq.new.terms) (values c.front.new.terms) c.derivative-in-Seq.ensures.extends c.front.ensures.extends

pub made-holds_empty-requires : goal.made-holds_empty-requires
made-holds_empty-requires t c =
    let old = values c.args.terms.now in
    let one = values c.derivative-in-Seq.new.terms in
    let two = values c.front.new.terms in
    let below = seq-known c.args.e (length old) c.term.result.now c.in-Seq.a c.in-Seq.b c.in-Seq.is c.term.ensures.sound c.requires.known in
    record { known = longer old two c.in-Seq.a (extends-trans old one two c.derivative-in-Seq.ensures.extends c.front.ensures.extends) below.0 }

pub made-returns-in_err-back-in-Seq-clause-extends : goal.made-returns-in_err-back-in-Seq-clause-extends
made-returns-in_err-back-in-Seq-clause-extends t c =
    let old = values c.args.terms.now in
    let one = values c.derivative-in-Seq.new.terms in
    let two = values c.front.new.terms in
    let x1 = c.derivative-in-Seq.ensures.extends in
    let x2 = extends-trans old one two x1 c.front.ensures.extends in
    extends-trans old two (values c.derivative-then-holds_empty.new.terms) x2 c.derivative-then-holds_empty.ensures.extends

pub made-joined-requires : goal.made-joined-requires
made-joined-requires t c = record {
  first = longer (values c.front.new.terms) (values c.derivative-then-holds_empty.new.terms) c.in_ok-kept-in-Seq.kept c.derivative-then-holds_empty.ensures.extends c.in_ok-kept-in-Seq.ensures.known;
  second = c.in_ok-back-in-Seq.ensures.known;
}

pub made-seq_of-requires : goal.made-seq_of-requires
made-seq_of-requires t c = record {
  first = c.in_ok-first-in-Star.ensures.known;
  second = longer (values c.args.terms.now) (values c.derivative-in-Star.new.terms) c.args.e c.derivative-in-Star.ensures.extends c.requires.known;
}

pub made-returns-then-holds : goal.made-returns-then-holds
made-returns-then-holds t c =
    let old = values c.args.terms.now in record {
      derived = derived_extends c.args.classes.now old (values c.intern.new.self) c.args.derived.now c.intern.ensures.extends c.requires.derived;
      made =
          IfOk-weaker c.intern.result _ _
          (λ n q. set-made c.args.at (at old c.args.e) _ c.in-Set.set true (c.term.ensures.node ∙ ap (node old) c.in-Set.is) (sym c.holds.ensures ∙ c.if-holds.true) q)
          c.intern.ensures.made;
      known = c.intern.ensures.known;
      extends = c.intern.ensures.extends;
    }

pub made-returns-in-Never : goal.made-returns-in-Never
made-returns-in-Never t c =
    let old = values c.args.terms.now in record {
      derived = derived_extends c.args.classes.now old (values c.intern-in-Never.new.self) c.args.derived.now c.intern-in-Never.ensures.extends c.requires.derived;
      made =
          IfOk-weaker c.intern-in-Never.result _ _
          (λ n q. never-made c.args.at (at old c.args.e) never _ (c.term.ensures.node ∙ ap (node old) c.in-Never.is) refl q)
          c.intern-in-Never.ensures.made;
      known = c.intern-in-Never.ensures.known;
      extends = c.intern-in-Never.ensures.extends;
    }

pub made-returns-in-Empty : goal.made-returns-in-Empty
made-returns-in-Empty t c =
    let old = values c.args.terms.now in record {
      derived = derived_extends c.args.classes.now old (values c.intern-in-Empty.new.self) c.args.derived.now c.intern-in-Empty.ensures.extends c.requires.derived;
      made =
          IfOk-weaker c.intern-in-Empty.result _ _
          (λ n q. never-made c.args.at (at old c.args.e) empty _ (c.term.ensures.node ∙ ap (node old) c.in-Empty.is) refl q)
          c.intern-in-Empty.ensures.made;
      known = c.intern-in-Empty.ensures.known;
      extends = c.intern-in-Empty.ensures.extends;
    }

pub made-returns-in_err-members-in-Either-clause-extends : goal.made-returns-in_err-members-in-Either-clause-extends
made-returns-in_err-members-in-Either-clause-extends t c = ([], sym (append-nil (values c.args.terms.now)))

pub made-returns-in_err-members-in-Both-clause-extends : goal.made-returns-in_err-members-in-Both-clause-extends
made-returns-in_err-members-in-Both-clause-extends t c = ([], sym (append-nil (values c.args.terms.now)))

pub derivative-returns-in-Some-clause-extends : goal.derivative-returns-in-Some-clause-extends
derivative-returns-in-Some-clause-extends t c = ([], sym (append-nil (values c.args.terms.now)))

pub derivative-note-requires : goal.derivative-note-requires
derivative-note-requires t c =
    let old = values c.args.terms.now in
    let new = values c.made-in-None.new.terms in
    let x = c.made-in-None.ensures.extends in
    let same = at-extends old new c.args.e x c.requires.known in record {
      derived = c.made-in-None.ensures.derived;
      term = longer old new c.args.e x c.requires.known;
      known = c.in_ok-d-in-None.ensures.known;
      classed = classed-same c.args.classes.now (at old c.args.e) (at new c.args.e) same c.requires.classed;
      made = c.in_ok-d-in-None.ensures.made ∙ ap (derivative c.args.at) (sym same);
    }

pub derivatives-loop-i-init : goal.derivatives-loop-i-init
derivatives-loop-i-init t c =
    let old = values c.args.terms.now in
    record {
      derived = c.requires.derived;
      extends = ([], sym (append-nil old));
      made = ap (map (at old)) c.new-all.ensures.items;
      known = ap (are_known (length old)) c.new-all.ensures.items;
      len = c.new-all.ensures.len;
    }

pub derivatives-returns-clause-made : goal.derivatives-returns-clause-made
derivatives-returns-clause-made t c =
    c.loop-i.invariant.made
    ∙ ap (λ l. map (derivative c.args.at) (map (at (values c.args.terms.now)) l)) (take_all c.loop-i.i c.args.numbers.now c.loop-i-test.false)

pub derivatives-returns-clause-len : goal.derivatives-returns-clause-len
derivatives-returns-clause-len t c = omega (arith, c.loop-i.invariant.len, c.loop-i-test.false, c.loop-i.auto.i-end)
