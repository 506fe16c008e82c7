use Rattle.std.proofs.Common.{◌≡◌, ◌≤◌, ◌+◌, drop, min}
use Rattle.std.specs.Prelude.{count_by}
use Rattle.map_maker.specs.Keys.{in_some, AreApart}
use Rattle.map_maker.specs.Earlier.{top}
use Rattle.map_maker.specs.declared.earlier.Entry.{Entry}
use Rattle.map_maker.proofs.earlier.count_in.Given as goal

abbrev pub invariant-loop-span : goal.invariant-loop-span
invariant-loop-span l = record {
  few : l.total ≤ top;
  rest : min (count_by (λ (e : Entry). in_some l.spans e.key) l.block) top ≡ min (l.total + count_by (λ (e : Entry). in_some (drop l.span-index l.spans) e.key) l.block) top;
  apart : AreApart (drop l.span-index l.spans);
}
