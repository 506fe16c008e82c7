use Rattle.std.proofs.Common.{◌≡◌, ◌∙◌, length, Some, refl, sym, ap, subst, inl, inr, rules, arith}
use Rattle.std.proofs.lemmas.Option.{slice_get_read, slice_get_within}
use Rattle.std.specs.Prelude.{slice_get}
use Rattle.std.proofs.lemmas.Bool.{cases_lt}
use Rattle.graph_base.specs.Graphs.{IsGraph}
use Rattle.evidence_base.specs.Made.{PlainCaseEvidence}
use Rattle.config_maker.proofs.Gathering.{hops-step, hops-end}
use Rattle.config_maker.proofs.gather.all_hops.Goals as goal

pub loop-place-preserved : goal.loop-place-preserved
loop-place-preserved c =
    let here = slice_get_read c.args.evidence.now (length c.args.evidence.now) c.loop-place.place c.index-evidence-place.result refl c.loop-place-test.true c.index-evidence-place.is in
    record {
      hops =
          hops-step c.args.evidence.now c.loop-place.place c.index-evidence-place.result here c.loop-place.hops.items c.add_hops.new.hops.items
          c.in_ok-add_hops.ensures.hops c.loop-place.invariant.hops;
      fits = c.in_ok-add_hops.ensures.fits c.loop-place.invariant.fits;
      graphs = λ k e below at. elim (cases_lt k c.loop-place.place) [
        | inl less ↦ c.loop-place.invariant.graphs k e less at
        | inr past ↦
            let last : k ≡ c.loop-place.place = omega (arith, below, past) in
            let both : Some c.index-evidence-place.result ≡ Some e = sym here ∙ ap (slice_get c.args.evidence.now) (sym last) ∙ at in
            let same : c.index-evidence-place.result ≡ e = cc in
            subst (λ (x : PlainCaseEvidence). IsGraph x.graph) same c.in_ok-add_hops.ensures.graph
      ];
    }

pub returns-clause-hops : goal.returns-clause-hops
returns-clause-hops c = hops-end c.args.evidence.now c.loop-place.place c.loop-place.hops.items (search rules) c.loop-place.invariant.hops

pub returns-clause-graphs : goal.returns-clause-graphs
returns-clause-graphs c = λ k e at. c.loop-place.invariant.graphs k e (omega (arith, slice_get_within c.args.evidence.now k e at, c.loop-place-test.false)) at
