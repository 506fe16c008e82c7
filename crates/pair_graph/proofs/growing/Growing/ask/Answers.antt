use Rattle.std.proofs.Common.{◌≡◌, ◌+◌, ◌++◌, ◌∷◌, [], arith, refl, sym, subst}
use Rattle.pair_graph.specs.Growth.{IsGrown}
use Rattle.pair_graph.specs.Pairs.{walks_of}
use Rattle.pair_graph.proofs.Grown.{grown_step}
use Rattle.pair_graph.proofs.Rooms.{no_room}
use Rattle.pair_graph.proofs.WalkPairs.{are_walks}
use Rattle.pair_graph.proofs.growing.Growing.ask.Goals as goal

pub returns-clause-grown : goal.returns-clause-grown
returns-clause-grown c = λ g h starts x at goes is.
    let old = c.args.self.now in
    let steps : c.push.new.self.items ≡ old.steps.items ++ (c.args.number, c.in_ok-to.to) ∷ [] = rw (← c.in_ok-to.ensures.steps) c.in_ok-push.ensures.items in
    let grown = grown_step (walks_of g h) starts old.pairs.keys old.before.items old.steps.items c.args.number c.args.next.place is x c.args.next c.in_ok-to.to
    c.number_of.new.self.pairs.keys c.number_of.new.self.before.items at goes refl c.in_ok-to.ensures.extended in
    subst (λ xs. IsGrown (walks_of g h) starts c.number_of.new.self.pairs.keys c.number_of.new.self.before.items xs c.args.number (c.args.next.place + 1)) (sym steps) grown

pub returns-then-len-room-clause-many : goal.returns-then-len-room-clause-many
returns-then-len-room-clause-many c = λ g h starts x at goes is fault.
    let old = c.args.self.now in
    no_room g h starts old.pairs.keys old.before.items old.steps.items c.args.number c.args.next.place (are_walks g h) is x c.args.next at goes c.args.room (omega arith)

pub returns-clause-there : goal.returns-clause-there
returns-clause-there c = λ x at. c.in_ok-to.ensures.extended.kept c.args.number x at
