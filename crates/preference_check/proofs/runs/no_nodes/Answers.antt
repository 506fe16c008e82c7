use Rattle.std.proofs.Common.{◌++◌, ◌∷◌, [], List, replicate, ap, ◌∙◌}
use Rattle.std.proofs.lemmas.List.{replicate-append-replicate}
use Rattle.preference_check.specs.declared.runs.Numbered.{Numbered}
use Rattle.preference_check.proofs.runs.no_nodes.Goals as goal

pub loop-preserved : goal.loop-preserved
loop-preserved c =
    c.in_ok-push.ensures.items
    ∙ ap (λ (l : List (List Numbered)). l ++ c.new.result ∷ []) c.loop.invariant
    ∙ ap (λ (l : List Numbered). replicate c.loop.counter [] ++ l ∷ []) c.new.ensures
    ∙ replicate-append-replicate c.loop.counter 1 []
