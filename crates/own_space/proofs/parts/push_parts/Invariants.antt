use Rattle.std.proofs.Common.{◌≡◌, ◌++◌, List, take}
use Rattle.std.specs.List.{flat_map}
use Rattle.net_base.specs.Prefixes.{PlainPattern}
use Rattle.lint_cover.specs.Tables.{Holds}
use Rattle.own_space.specs.Open.{origin_part}
use Rattle.own_space.proofs.parts.push_parts.Given as goal

abbrev pub invariant-loop-origin : goal.invariant-loop-origin
invariant-loop-origin l =
    (qs : List PlainPattern) → Holds l.table qs → l.parts.items ≡ l.initial.parts.items ++ flat_map (origin_part qs l.number l.pattern) (take l.origin-index l.outer)
