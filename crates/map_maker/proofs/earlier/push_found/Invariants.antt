use Rattle.std.proofs.Common.{◌≡◌, ℕ, drop}
use Rattle.std.specs.Prelude.{◌||◌, ◌&&◌}
use Rattle.std.specs.List.{list_any}
use Rattle.map_maker.specs.Keys.{has, in_some}
use Rattle.map_maker.specs.Earlier.{is_at}
use Rattle.map_maker.specs.declared.earlier.Entry.{Entry}
use Rattle.map_maker.proofs.earlier.push_found.Given as goal

abbrev pub invariant-loop-span : goal.invariant-loop-span
invariant-loop-span l = (j : ℕ)
    → (has l.initial.places.items j || list_any (λ (e : Entry). in_some l.spans e.key && is_at j e) l.block)
    ≡ (has l.places.items j || list_any (λ (e : Entry). in_some (drop l.span-index l.spans) e.key && is_at j e) l.block)
