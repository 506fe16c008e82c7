use Rattle.std.proofs.Common.{ap, ◌∙◌, refl, arith, Result, Ok, Err, IfOk}
use Rattle.reach_prune.specs.Searches.{is_marked}
use Rattle.reach_prune.specs.Trimmed.{graph_kept}
use Rattle.node_quotient.proofs.Same.{kept_is_quotient}
use Rattle.node_quotient.proofs.quotients.led_to_least.Goals as goal

where_ok : {T E : Type 0} (P Q : T → Type 0) (r : Result T E) → ((v : T) → P v → Q v) → IfOk r P → IfOk r Q
where_ok P Q (Ok v) more h = more v h
where_ok P Q (Err e) more h = h

pub returns : goal.returns
returns c =
    let size = c.requires.size in
    where_ok _ _ c.kept.result
    (λ joined is. kept_is_quotient c.args.graph.now c.graph_led.ensures.rules c.args.least.now c.requires.least c.in_ok-marks.marks.items joined
    (λ n lt. c.in_ok-marks.ensures.marks n (omega (arith, size, lt)))
    (is ∙ rw (c.deref.ensures.value) refl ∙ ap (graph_kept (is_marked c.in_ok-marks.marks.items)) c.in_ok-led.ensures.led))
    c.kept.ensures
