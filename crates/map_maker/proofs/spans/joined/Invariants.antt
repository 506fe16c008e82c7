use Rattle.std.proofs.Common.{◌≡◌, ℕ, ◌<◌, take}
use Rattle.std.specs.Prelude.{slice_index_or}
use Rattle.map_maker.specs.Keys.{in_some, AreApart, AreJoined}
use Rattle.map_maker.specs.declared.spans.Span.{Span}
use Rattle.map_maker.proofs.spans.joined.Given as goal

abbrev pub invariant-loop-span : goal.invariant-loop-span
invariant-loop-span l = record {
  apart : AreApart l.apart.items;
  same : (k : ℕ) → in_some l.apart.items k ≡ in_some (take l.span-index l.spans) k;
  joined : (d : Span) → l.span-index < l.span-index-end → AreJoined l.apart.items l.reached (slice_index_or l.spans l.span-index d).from;
}
