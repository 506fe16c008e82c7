use Rattle.std.proofs.Common.{ap, rules}
use Rattle.std.specs.Prelude.{option_map}
use Rattle.std.proofs.lemmas.List.Sorted.{IsNonDecreasingBy-from_sort_by_key}
use Rattle.pair_graph.specs.declared.way.Way.{Way}
use Rattle.pair_graph.specs.Ways.{place_of}
use Rattle.pair_graph.proofs.Turns.{first_stays}
use Rattle.pair_graph.proofs.way.sort_by_place.Goals as goal

pub returns-clause-order : goal.returns-clause-order
returns-clause-order c = IsNonDecreasingBy-from_sort_by_key place_of c.sort_by_key.new.self.items c.in_ok-sort_by_key.ensures.sorted (λ a r q k. search rules)

pub returns-clause-taken : goal.returns-clause-taken
returns-clause-taken c = λ l. ap (option_map (λ (w : Way). w.to))
    (first_stays place_of c.args.ways.now.items c.sort_by_key.new.self.items c.sort_by_key.ensures.stable (λ a r q k. search rules) (record { from = 0; place = l; to = 0 }))
