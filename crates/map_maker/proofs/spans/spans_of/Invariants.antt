use Rattle.std.proofs.Common.{◌≡◌, take, true}
use Rattle.net_base.specs.Prefixes.{PlainPattern, IsPattern}
use Rattle.route_maps.specs.OfConfig.{meets_some}
use Rattle.map_maker.specs.Keys.{key, in_some, has}
use Rattle.map_maker.proofs.spans.spans_of.Given as goal

abbrev pub invariant-loop-pattern : goal.invariant-loop-pattern
invariant-loop-pattern l = (q : PlainPattern) → IsPattern q → has l.lengths q.base.len ≡ true → in_some l.spans.items (key q) ≡ meets_some (take l.pattern-index l.class) q
