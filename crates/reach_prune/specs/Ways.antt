-- Steps that are followed one way or the other.
use Rattle.std.specs.Prelude.{ℕ, ◌-◌, Bool, IsTrue, List}
use Rattle.graph_base.specs.Graphs.{PlainGraph}
use Rattle.graph_base.specs.Runs.{has_step, Reaches}
use Rattle.reach_prune.specs.declared.steps.Way.{Way}
use Rattle.reach_prune.specs.declared.steps.Way.TheVariants.{Forward, Backward}
use Rattle.reach_prune.specs.Searches.{is_among}

abbrev pub step_along : Way → PlainGraph → ℕ → ℕ → Bool
step_along Forward g a b = has_step g a b
step_along Backward g a b = has_step g b a

-- the ends of a step in the order in which it is followed
abbrev pub ends : Way → ℕ × ℕ → ℕ × ℕ
ends Forward step = step
ends Backward step = (step.1, step.0)

-- steps lead from a to b, or backward, which is from b to a
abbrev pub LeadsAlong : Way → PlainGraph → ℕ → ℕ → Type 0
LeadsAlong Forward g a b = Reaches g a b
LeadsAlong Backward g a b = Reaches g b a

-- they lead to n from one of the first nodes
abbrev pub LeadsFrom : Way → PlainGraph → List ℕ → ℕ → Type 0
LeadsFrom way g first n = (a : ℕ) × IsTrue (is_among first a) × LeadsAlong way g a n

-- the node at a place of the order, of so many; and the place of a node
abbrev pub nth : Way → ℕ → ℕ → ℕ
nth Forward size place = size - 1 - place
nth Backward size place = place
