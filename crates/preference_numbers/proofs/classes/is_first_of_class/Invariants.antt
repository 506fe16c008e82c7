use Rattle.std.proofs.Common.{◌&&◌, ℕ, IsTrue, not, nat_lt, take}
use Rattle.reach_prune.specs.Searches.{is_among}
use Rattle.state_simulation.specs.Held.{has}
use Rattle.preference_numbers.proofs.classes.is_first_of_class.Given as goal

abbrev pub invariant-loop-q : goal.invariant-loop-q
invariant-loop-q l = (q : ℕ) → IsTrue (is_among (take l.q-index l.q-items) q) → IsTrue (not (nat_lt q l.p && (has l.relation l.p q && has l.relation q l.p)))
