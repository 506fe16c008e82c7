use Rattle.std.proofs.Common.{None, sym, ap, ◌∙◌, ltb-true}
use Rattle.std.proofs.lemmas.List.{get_or_read}
use Rattle.cut_ranks.specs.Tops.{entry_at}
use Rattle.cut_ranks.proofs.ranks.rank_told.Goals as goal

pub rank_of_node-requires-clause-node : goal.rank_of_node-requires-clause-node
rank_of_node-requires-clause-node c =
    let look = c.in_ok-get.ensures.lookup in
    let tops = c.args.tops.now in
    let read = get_or_read tops c.number.result c.in_ok-get.field-0.now (ltb-true _ _ (sym look.0)) look.1 None in
    c.requires.nodes c.args.router c.in_ok-top.top (ap (entry_at tops) (sym c.number.ensures) ∙ sym read ∙ c.in_ok-top.was)
