use Rattle.std.proofs.Common.{[], map, length, sym, ap, ◌∙◌, arith}
use Rattle.std.proofs.lemmas.List.{append-nil, take_all}
use Rattle.std.proofs.lemmas.Result.{IfOk-weaker}
use Rattle.path_exprs.specs.Normal.{both_of, either_of, normal, reversed, seq_of}
use Rattle.path_exprs.specs.Runs.{start_of}
use Rattle.path_exprs.specs.View.{view, views}
use Rattle.path_exprs.proofs.Numbers.{at-extends, extends-trans}
use Rattle.path_terms.specs.Terms.{at, are_known}
use Rattle.path_terms.specs.Values.{values}
use Rattle.path_terms.proofs.Sequences.{seq-seq}
use Rattle.path_automata.proofs.Lists.{known-turn}
use Rattle.path_automata.proofs.Reversals.{members-made, start-turn}
use Rattle.path_automata.proofs.Views.{view-Seq, view-Either, view-Both}
use Rattle.path_automata.proofs.reversal.+reversal.Goals as goal

pub reversal_of-returns-in_ok-rest-in-Seq-clause-made : goal.reversal_of-returns-in_ok-rest-in-Seq-clause-made
reversal_of-returns-in_ok-rest-in-Seq-clause-made t c =
    let full = c.args.full.now in
    IfOk-weaker c.reversed_onto.result _ _
    (λ n q. q
    ∙ ap (λ e. seq_of (normal full (reversed (view e))) (at (values c.reversal_of.new.terms) c.in_ok-rest-in-Seq.rest)) c.deref-in-Seq.ensures
    ∙ ap (seq_of (normal full (reversed (view c.in-Seq.b.value)))) (c.in_ok-rest-in-Seq.ensures.made ∙ ap (λ e. normal full (reversed (view e))) c.deref.ensures)
    ∙ sym (ap (λ e. normal full (reversed e)) (ap view c.in-Seq.is ∙ view-Seq c.in-Seq.a c.in-Seq.b)))
    c.reversed_onto.ensures.made

pub reversal_of-returns-in_ok-members-in-Either-clause-made : goal.reversal_of-returns-in_ok-members-in-Either-clause-made
reversal_of-returns-in_ok-members-in-Either-clause-made t c =
    let full = c.args.full.now in
    let members = members-made full (values c.reversals.new.terms) _ _ _ _ c.deref-in-Either-2.ensures.value c.in_ok-members-in-Either.ensures.made c.deref-in-Either.ensures.value in
    IfOk-weaker c.either_of.result _ _
    (λ n q. q ∙ ap either_of members ∙ sym (ap (λ e. normal full (reversed e)) (ap view c.in-Either.is ∙ view-Either c.in-Either.es)))
    c.either_of.ensures.made

pub reversal_of-returns-in_ok-members-in-Both-clause-made : goal.reversal_of-returns-in_ok-members-in-Both-clause-made
reversal_of-returns-in_ok-members-in-Both-clause-made t c =
    let full = c.args.full.now in
    let members = members-made full (values c.reversals-in-Both.new.terms) _ _ _ _ c.deref-in-Both-2.ensures.value c.in_ok-members-in-Both.ensures.made c.deref-in-Both.ensures.value in
    IfOk-weaker c.both_of.result _ _
    (λ n q. q ∙ ap both_of members ∙ sym (ap (λ e. normal full (reversed e)) (ap view c.in-Both.is ∙ view-Both c.in-Both.es)))
    c.both_of.ensures.made

pub reversed_onto-returns-in-Seq-clause-made : goal.reversed_onto-returns-in-Seq-clause-made
reversed_onto-returns-in-Seq-clause-made t c =
    let full = c.args.full.now in
    let a = c.in-Seq.a.value in
    let b = c.in-Seq.b.value in
    let tail = at (values c.args.terms.now) c.args.tail in
    let is = ap view c.in-Seq.is ∙ view-Seq c.in-Seq.a c.in-Seq.b in
    IfOk-weaker c.reversed_onto-in-Seq.result _ _
    (λ n q. q
    ∙ ap (λ e. seq_of (normal full (reversed (view e))) (at (values c.reversed_onto.new.terms) c.in_ok-rest.rest)) c.deref-in-Seq.ensures
    ∙ ap (seq_of (normal full (reversed (view b)))) (c.in_ok-rest.ensures.made ∙ ap (λ e. seq_of (normal full (reversed (view e))) tail) c.deref.ensures)
    ∙ sym (seq-seq (normal full (reversed (view b))) (normal full (reversed (view a))) tail)
    ∙ sym (ap (λ e. seq_of (normal full (reversed e)) tail) is))
    c.reversed_onto-in-Seq.ensures.made

pub reversed_onto-returns-clause-made : goal.reversed_onto-returns-clause-made
reversed_onto-returns-clause-made t c =
    let one = values c.reversal_of.new.terms in
    let first = normal c.args.full.now (reversed (view c.args.e.now)) in
    IfOk-weaker c.seq_of.result _ _
    (λ n q. q ∙ ap (λ e. seq_of e (at one c.args.tail)) c.in_ok-first.ensures.made
    ∙ ap (seq_of first) (at-extends (values c.args.terms.now) one c.args.tail c.reversal_of.ensures.extends c.requires.tail))
    c.seq_of.ensures.made

pub reversals-loop-i-init : goal.reversals-loop-i-init
reversals-loop-i-init t c =
    let vs = values c.args.terms.now in
    record {
      made = ap (map (at vs)) c.new-all.ensures.items;
      known = ap (are_known (length vs)) c.new-all.ensures.items;
      len = c.new-all.ensures.len;
      extends = ([], sym (append-nil vs));
    }

pub reversals-loop-i-preserved : goal.reversals-loop-i-preserved
reversals-loop-i-preserved t c =
    let cur = values c.loop-i.terms in
    let new = values c.reversal_of.new.terms in
    let x = c.reversal_of.ensures.extends in
    let ns = c.loop-i.all.items in
    let known = c.loop-i.invariant.known in
    record {
      made = ap (map (at new)) c.in_ok-push.ensures.items
          ∙ start-turn c.args.full.now cur new ns c.args.es.now c.loop-i.i _ c.index-es-i.result x known c.loop-i-test.true c.index-es-i.is c.loop-i.invariant.made
          c.in_ok-reversal_of.ensures.made;
      known = known-turn cur new ns _ _ c.in_ok-push.ensures.items x known c.in_ok-reversal_of.ensures.known;
      len = omega (arith, c.in_ok-push.ensures.len, c.loop-i.invariant.len);
      extends = extends-trans (values c.args.terms.now) cur new c.loop-i.invariant.extends x;
    }

pub reversals-returns-clause-made : goal.reversals-returns-clause-made
reversals-returns-clause-made t c =
    c.loop-i.invariant.made ∙ ap (λ l. start_of c.args.full.now (views l)) (take_all c.loop-i.i c.args.es.now c.loop-i-test.false)
