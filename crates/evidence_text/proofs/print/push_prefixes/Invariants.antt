use Rattle.std.proofs.Common.{◌≡◌, ◌++◌, map, take, drop}
use Rattle.std.specs.List.{AllByRecursion}
use Rattle.net_base.specs.Prefixes.{IsPrefix}
use Rattle.evidence_text.proofs.Items.{prefix_data, rest_text}
use Rattle.evidence_text.proofs.print.push_prefixes.Given as goal

abbrev pub invariant-loop-i : goal.invariant-loop-i
invariant-loop-i l =
    (l.text.items ++ rest_text l.i (map prefix_data (drop l.i l.prefixes)) ≡ l.initial.text.items ++ rest_text 0 (map prefix_data l.prefixes))
    × AllByRecursion IsPrefix (take l.i l.prefixes)
