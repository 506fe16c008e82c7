use Rattle.std.proofs.Common.{◌≡◌, ℕ, [], map, vec_len}
use Rattle.walk_states.specs.Growth.{ways_in}
use Rattle.walk_states.proofs.neighbours.no_ways.Given as goal

abbrev pub invariant-loop : goal.invariant-loop
invariant-loop l = record {
  none : (at : ℕ) → ways_in (map (λ v. v.items) l.ways.items) at ≡ [];
  len : vec_len l.ways ≡ l.counter;
}
