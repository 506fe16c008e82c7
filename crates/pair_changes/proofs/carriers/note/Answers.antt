use Rattle.std.proofs.Common.{◌∙◌, sym, arith, length, ltb-true}
use Rattle.pair_changes.proofs.carriers.note.Goals as goal

pub insert-requires : goal.insert-requires
insert-requires c =
    let rules = c.known_net.ensures in
    omega (arith, rules.routers, ltb-true c.args.at (length c.args.net.now.routers) (sym c.is_router.ensures ∙ c.if-is_router.true))
