use Rattle.std.proofs.Common.{◌≡◌, ℕ, drop}
use Rattle.std.specs.Prelude.{◌||◌, ◌&&◌}
use Rattle.std.specs.List.{list_any, AllByRecursion}
use Rattle.map_maker.specs.Keys.{has, in_some}
use Rattle.map_maker.specs.Earlier.{is_at, IsInOrder, entries_in}
use Rattle.map_maker.specs.declared.earlier.Entry.{Entry}
use Rattle.map_maker.proofs.earlier.found.Given as goal

abbrev pub invariant-loop-block : goal.invariant-loop-block
invariant-loop-block l = record {
  rest : (j : ℕ) → list_any (λ (e : Entry). in_some l.spans e.key && is_at j e) (entries_in l.blocks)
      ≡ (has l.places.items j || list_any (λ (e : Entry). in_some l.spans e.key && is_at j e) (entries_in (drop l.block-index l.blocks)));
  order : AllByRecursion IsInOrder (drop l.block-index l.blocks);
}
