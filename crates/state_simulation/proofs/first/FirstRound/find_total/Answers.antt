use Rattle.std.proofs.Common.{false}
use Rattle.state_simulation.specs.Targets.{is_touched}
use Rattle.state_simulation.proofs.Staging.{bound_touched, open_is_partial}
use Rattle.state_simulation.proofs.first.FirstRound.find_total.Goals as goal

pub returns-then-is_open-clause-partial : goal.returns-then-is_open-clause-partial
returns-then-is_open-clause-partial c = λ none r closed total.
    let rounds = c.args.self.now.rounds in
    let pair = c.is_open.ensures.«open» c.if-is_open.true in
    open_is_partial c.args.self.now.maps.graph.now c.args.claimed.now (λ a b. false) 1 rounds.left rounds.next (is_touched rounds.touched.items) (c.requires.first.rounds.at (λ a b. false))
    (λ a b la lb h. absurd (cc)) pair.0 pair.1 pair.2 r closed total

pub returns-then-not-self-clause-bound : goal.returns-then-not-self-clause-bound
returns-then-not-self-clause-bound c = λ e.
    let rounds = c.args.self.now.rounds in
    bound_touched c.args.self.now.maps.graph.now rounds.left rounds.touched.items c.requires.first.rounds.quiet (c.is_open.ensures.bound c.if-is_open.false)

pub find_rest-requires-clause-bound : goal.find_rest-requires-clause-bound
find_rest-requires-clause-bound c =
    let rounds = c.args.self.now.rounds in
    bound_touched c.args.self.now.maps.graph.now rounds.left rounds.touched.items c.requires.first.rounds.quiet (c.is_open.ensures.bound c.if-is_open.false)
