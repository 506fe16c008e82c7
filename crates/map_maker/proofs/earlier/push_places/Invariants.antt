use Rattle.std.proofs.Common.{◌≡◌, ℕ, take}
use Rattle.std.specs.Prelude.{◌||◌}
use Rattle.std.specs.List.{list_any}
use Rattle.map_maker.specs.Keys.{has}
use Rattle.map_maker.specs.Earlier.{is_at}
use Rattle.map_maker.proofs.earlier.push_places.Given as goal

abbrev pub invariant-loop-entry : goal.invariant-loop-entry
invariant-loop-entry l = (j : ℕ) → has l.places.items j ≡ (has l.initial.places.items j || list_any (is_at j) (take l.entry-index l.entries))
