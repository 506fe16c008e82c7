use Rattle.std.proofs.Common.{◌≡◌, take}
use Rattle.std.specs.Prelude.{◌&&◌, ◌||◌}
use Rattle.net_base.specs.Prefixes.{PlainPattern, IsPattern}
use Rattle.route_maps.specs.Overlaps.{overlap}
use Rattle.map_maker.specs.Keys.{key, in_some, has}
use Rattle.map_maker.proofs.spans.push_spans.Given as goal

abbrev pub invariant-loop-len : goal.invariant-loop-len
invariant-loop-len l = (q : PlainPattern) → IsPattern q
    → in_some l.spans.items (key q) ≡ (in_some l.initial.spans.items (key q) || (has (take l.len-index l.lengths) q.base.len && overlap q l.pattern))
