use Rattle.std.proofs.Common.{◌≡◌, ◌≤◌, ◌+◌, drop, length}
use Rattle.policy_rules.specs.KnownNames.{with_sites}
use Rattle.policy_rules.specs.KnownView.{plain_names}
use Rattle.policy_rules.proofs.known.Known.add_sites.Given as goal

abbrev pub invariant-loop-site : goal.invariant-loop-site
invariant-loop-site l = record {
  number : l.number ≡ l.first + l.site-index;
  so_far : with_sites l.number (drop l.site-index l.sites) (plain_names l.self) ≡ with_sites l.first l.sites (plain_names l.fn.self);
  few : length (plain_names l.self).sets ≤ l.number;
  net : l.self.net.now ≡ l.fn.self.net.now;
}
