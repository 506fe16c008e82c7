use Rattle.std.proofs.Common.{◌<◌, rules}
use Rattle.std.proofs.lemmas.List.Sorted.{All-permutation, IsNonDecreasingBy-from_sort_by_key}
use Rattle.pair_graph.specs.declared.way.Way.{Way}
use Rattle.pair_graph.specs.Ways.{turn_of}
use Rattle.pair_graph.proofs.Turns.{first_stays, taken_by_turn}
use Rattle.pair_graph.proofs.way.sort_by_turn.Goals as goal

pub returns-clause-order : goal.returns-clause-order
returns-clause-order c = IsNonDecreasingBy-from_sort_by_key turn_of c.sort_by_key.new.self.items c.in_ok-sort_by_key.ensures.sorted (λ a r q k. search rules)

pub returns-clause-low : goal.returns-clause-low
returns-clause-low c = All-permutation (λ (w : Way). w.place < 65536) c.args.ways.now.items c.sort_by_key.new.self.items c.sort_by_key.ensures.permutation c.requires.low

pub returns-clause-taken : goal.returns-clause-taken
returns-clause-taken c =
    let low = All-permutation (λ (w : Way). w.place < 65536) c.args.ways.now.items c.sort_by_key.new.self.items c.sort_by_key.ensures.permutation c.requires.low in
    taken_by_turn c.args.ways.now.items c.sort_by_key.new.self.items c.requires.low low
    (first_stays turn_of c.args.ways.now.items c.sort_by_key.new.self.items c.sort_by_key.ensures.stable (λ a r q k. search rules))
