use Rattle.std.proofs.Common.{◌≡◌, ◌++◌, map, drop}
use Rattle.net_text.specs.NetText.{link_data}
use Rattle.net_text.proofs.Items.{rest_text}
use Rattle.net_text.proofs.print.push_links.Given as goal

abbrev pub invariant-loop-i : goal.invariant-loop-i
invariant-loop-i l = l.text.items ++ rest_text l.i (map (link_data l.net) (drop l.i l.links)) ≡ l.initial.text.items ++ rest_text 0 (map (link_data l.net) l.links)
