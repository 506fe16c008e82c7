use Rattle.std.proofs.Common.{◌≡◌, ◌++◌, take}
use Rattle.std.specs.List.{AllByRecursion, flat_map}
use Rattle.policy_text.specs.PolicyText.{origin_line}
use Rattle.policy_text.specs.Values.{IsOriginValue}
use Rattle.policy_text.proofs.print.push_origins.Given as goal

abbrev pub invariant-loop-origin : goal.invariant-loop-origin
invariant-loop-origin l =
    (l.text.items ≡ l.initial.text.items ++ flat_map (origin_line l.net) (take l.origin-index l.origins)) × AllByRecursion IsOriginValue (take l.origin-index l.origins)
