use Rattle.std.proofs.Common.{◌≡◌, ◌++◌, map, take, drop}
use Rattle.net_text.specs.NetText.{HaveNames, site_data}
use Rattle.net_text.proofs.Items.{rest_text}
use Rattle.net_text.proofs.print.push_sites.Given as goal

abbrev pub invariant-loop-i : goal.invariant-loop-i
invariant-loop-i l =
    (l.text.items ++ rest_text l.i (map site_data (drop l.i l.sites)) ≡ l.initial.text.items ++ rest_text 0 (map site_data l.sites))
    × HaveNames (take l.i l.sites)
