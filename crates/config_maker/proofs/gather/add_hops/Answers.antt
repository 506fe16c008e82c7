use Rattle.std.proofs.Common.{◌++◌, ◌∷◌, [], All, ap, get_or, length, refl, subst, sym, ◌∙◌}
use Rattle.std.proofs.lemmas.List.Elements.{All-push}
use Rattle.graph_base.specs.Graphs.{PlainGraph}
use Rattle.config_maker.specs.declared.hop.Hop.{Hop}
use Rattle.config_maker.specs.Hops.{HasPref, hop_of}
use Rattle.graph_base.proofs.StartsAndSteps.{step_ends}
use Rattle.config_maker.proofs.Gathering.{one_more}
use Rattle.config_maker.proofs.gather.add_hops.Goals as goal

pub hop_of-requires-clause-from : goal.hop_of-requires-clause-from
hop_of-requires-clause-from c =
    (step_ends c.graph-graph.result.now c.steps-step-items.result.now c.loop-step.step-index c.steps-step-items.ensures.rules c.steps-step-items.ensures.steps c.loop-step-test.true).0

pub hop_of-requires-clause-to : goal.hop_of-requires-clause-to
hop_of-requires-clause-to c =
    (step_ends c.graph-graph.result.now c.steps-step-items.result.now c.loop-step.step-index c.steps-step-items.ensures.rules c.steps-step-items.ensures.steps c.loop-step-test.true).1

pub hop_of-requires-clause-numbers : goal.hop_of-requires-clause-numbers
hop_of-requires-clause-numbers c = ap length c.prefs.ensures ∙ c.graph-graph.ensures.rules.sized ∙ sym (ap (λ (g : PlainGraph). length g.nodes) c.graph-graph.ensures.graph)

pub hop_of-requires-clause-tags : goal.hop_of-requires-clause-tags
hop_of-requires-clause-tags c = ap length c.tags.ensures ∙ c.graph-graph.ensures.rules.tagged ∙ sym (ap (λ (g : PlainGraph). length g.nodes) c.graph-graph.ensures.graph)

pub loop-step-preserved : goal.loop-step-preserved
loop-step-preserved c =
    let case = c.args.case.now in
    let g = c.graph-graph.result.now in
    let steps = c.steps-step-items.result.now in
    let i = c.loop-step.step-index in
    let step = get_or steps i (0, 0) in
    let before = c.loop-step.hops.items in
    let hops = hop_of c.args.class g case.numbers case.tags in
    let hop =
    c.hop_of.ensures.hop
    ∙ ap (λ ns. hop_of c.args.class g ns c.tags.result.now step) c.prefs.ensures
    ∙ ap (λ ts. hop_of c.args.class g case.numbers ts step) c.tags.ensures in
    record {
      hops = one_more hops c.args.hops.now.items steps i (0, 0) step c.loop-step-test.true refl (c.in_ok-push.ensures.items ∙ ap (λ (h : Hop). before ++ h ∷ []) hop) c.loop-step.invariant.hops;
      fits = λ old. subst (All HasPref) (sym c.in_ok-push.ensures.items) (All-push HasPref before c.hop_of.result (c.loop-step.invariant.fits old) c.hop_of.ensures.fits);
    }
