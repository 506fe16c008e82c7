use Rattle.std.proofs.Common.{◌≡◌, ◌<◌, ◌≤◌, ◌++◌, ◌∷◌, [], Some, length, map, get_or, ap, ap₂, sym, subst, arith, ◌∙◌}
use Rattle.std.specs.Prelude.{option_map, slice_get}
use Rattle.std.proofs.lemmas.List.{take_all}
use Rattle.std.proofs.lemmas.List.Elements.{All-push}
use Rattle.std.proofs.lemmas.Option.{slice_get-get_or}
use Rattle.list_law.proofs.Changed.{map_next}
use Rattle.graph_base.specs.Runs.{place_of}
use Rattle.pair_graph.specs.declared.way.Way.{Way}
use Rattle.pair_graph.specs.Ways.{AreLow, AreSteps}
use Rattle.pair_graph.proofs.GraphWays.{step_way, steps_taken}
use Rattle.pair_graph.proofs.side.steps_of.Goals as goal

pub loop-i-preserved : goal.loop-i-preserved
loop-i-preserved c =
    let g = c.args.graph.now in
    let steps = c.steps-steps.result.now in
    let i = c.loop-i.i in
    let s = get_or steps i (0, 0) in
    let at : slice_get g.steps i ≡ Some s = ap (λ xs. slice_get xs i) (sym c.steps-steps.ensures.steps) ∙ slice_get-get_or steps i (0, 0) c.loop-i-test.true in
    let place : c.number-place.result ≡ place_of g s.1 = c.number-place.ensures ∙ c.location.ensures in
    record {
      ways = c.in_ok-push.ensures.items ∙ ap₂ (λ l (w : Way). l ++ w ∷ []) c.loop-i.invariant.ways (λ k. record { from = s.0; place = place k; to = s.1 })
          ∙ sym (map_next (step_way g) g.steps i (step_way g s) (ap (option_map (step_way g)) at));
      low = subst AreLow (sym c.in_ok-push.ensures.items) (All-push (λ (w : Way). w.place < 65536) c.loop-i.ways.items (record { from = s.0; place = c.number-place.result; to = s.1 }) c.loop-i.invariant.low c.number-place.type_inv);
    }

pub returns-clause-low : goal.returns-clause-low
returns-clause-low c = c.loop-i.invariant.low

pub returns-clause-steps : goal.returns-clause-steps
returns-clause-steps c =
    let g = c.args.graph.now in
    let all : length g.steps ≤ c.loop-i.i = omega (arith, c.loop-i-test.false, ap length c.steps-steps.ensures.steps) in
    subst (AreSteps g) (sym (c.loop-i.invariant.ways ∙ ap (map (step_way g)) (take_all c.loop-i.i g.steps all))) (steps_taken g)
