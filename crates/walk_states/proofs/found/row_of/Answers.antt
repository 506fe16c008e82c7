use Rattle.std.proofs.Common.{None, Some, sym, ap, ◌∙◌}
use Rattle.std.specs.Prelude.{unwrap_or}
use Rattle.std.proofs.lemmas.Bool.{ltb-true}
use Rattle.std.proofs.lemmas.Option.{slice_get-get_or}
use Rattle.walk_states.specs.Table.{entry}
use Rattle.walk_states.proofs.found.row_of.Goals as goal

pub returns : goal.returns
returns c =
    let look = c.in_ok-get.ensures.lookup in
    sym (ap (λ o. unwrap_or o None) (slice_get-get_or c.args.rows.now c.number.result _ (ltb-true _ _ (sym look.0)) ∙ ap Some (sym look.1)))
    ∙ ap (entry c.args.rows.now) c.number.ensures
