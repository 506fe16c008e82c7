use Rattle.least_prefixes.proofs.Seen.{on_ok_map, some_joins}
use Rattle.least_prefixes.proofs.search.consider.Goals as goal

pub returns-in-Some-clause-least : goal.returns-in-Some-clause-least
returns-in-Some-clause-least c = λ old new knows seen.
    on_ok_map c.put.result
    (some_joins old new c.args.seen.now.keys c.args.least.now.items c.args.prefix c.class.result c.in-Some.class c.put.new.least.items seen (c.class.ensures old new knows) c.in-Some.is)
    c.put.ensures.prefixes
