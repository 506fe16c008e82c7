use Rattle.std.proofs.Common.{◌≡◌, ◌≤◌, ◌++◌, ◌∷◌, [], Some, length, map, get_or, ap, ap₂, sym, subst, arith, ◌∙◌}
use Rattle.std.specs.Prelude.{option_map, slice_get}
use Rattle.std.proofs.lemmas.List.{take_all}
use Rattle.std.proofs.lemmas.Option.{slice_get-get_or}
use Rattle.list_law.proofs.Changed.{map_next}
use Rattle.graph_base.specs.Runs.{place_of}
use Rattle.pair_graph.specs.declared.way.Way.{Way}
use Rattle.pair_graph.specs.Ways.{AreStarts}
use Rattle.pair_graph.proofs.GraphWays.{start_way, starts_taken}
use Rattle.pair_graph.proofs.side.starts_of.Goals as goal

pub loop-i-preserved : goal.loop-i-preserved
loop-i-preserved c =
    let g = c.args.graph.now in
    let starts = c.starts-starts.result.now in
    let i = c.loop-i.i in
    let n = get_or starts i 0 in
    let at : slice_get g.starts i ≡ Some n = ap (λ xs. slice_get xs i) (sym c.starts-starts.ensures.starts) ∙ slice_get-get_or starts i 0 c.loop-i-test.true in
    let place : c.number-place.result ≡ place_of g n = c.number-place.ensures ∙ c.location.ensures in
    c.in_ok-push.ensures.items ∙ ap₂ (λ l (w : Way). l ++ w ∷ []) c.loop-i.invariant (λ k. record { from = 0; place = place k; to = n })
    ∙ sym (map_next (start_way g) g.starts i (start_way g n) (ap (option_map (start_way g)) at))

pub returns : goal.returns
returns c =
    let g = c.args.graph.now in
    let all : length g.starts ≤ c.loop-i.i = omega (arith, c.loop-i-test.false, ap length c.starts-starts.ensures.starts) in
    subst (AreStarts g) (sym (c.loop-i.invariant ∙ ap (map (start_way g)) (take_all c.loop-i.i g.starts all))) (starts_taken g)
