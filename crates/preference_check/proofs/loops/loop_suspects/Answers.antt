use Rattle.std.proofs.Common.{◌≡◌, ◌∷◌, [], length, length-append, ap, ◌∙◌, subst, inl, inr, arith}
use Rattle.std.proofs.lemmas.Bool.{cases_lt}
use Rattle.graph_base.specs.Preferences.{number_in}
use Rattle.preference_check.specs.Floods.{KeepsLoopAt}
use Rattle.preference_check.proofs.Matching.{runs_before}
use Rattle.preference_check.proofs.loops.loop_suspects.Goals as goal

pub routers-preserved : goal.routers-preserved
routers-preserved c =
    let g = c.args.graph.now in
    let rest = c.pop.new.self in
    record {
      size = c.mark_suspects_at.ensures.size ∙ c.routers.invariant.size;
      nodes = runs_before g c.args.numbers.now c.routers.routers.items rest.items c.in-Some.nodes c.in-Some.ensures.items c.routers.invariant.nodes;
      rule = λ at m le lt off. elim (cases_lt (length rest.items) at) [
        | inl past ↦ c.routers.invariant.rule at m (omega (arith, past, ap length c.in-Some.ensures.items, length-append rest.items (c.in-Some.nodes ∷ []))) lt (c.mark_suspects_at.ensures.kept m off)
        | inr last ↦ (
            let here : c.len.result ≡ at = omega (arith, le, last, c.len.ensures, rest.ok.0) in
            subst (λ l. KeepsLoopAt g (number_in c.args.numbers.now) l m) here (c.in_ok-mark_suspects_at.ensures.rule m off))
      ];
    }
