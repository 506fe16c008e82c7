use Rattle.pair_graph.proofs.sides.Sides.new.Goals as goal

pub returns : goal.returns
returns c = record { first = c.in_ok-new.ensures; second = c.in_ok-new-2.ensures }
