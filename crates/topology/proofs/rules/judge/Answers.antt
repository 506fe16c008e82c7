use Rattle.std.proofs.Common.{◌≡◌, Ok, refl}
use Rattle.topology.specs.Rules.{judged}
use Rattle.topology.specs.Views.{net_parts, raw_topology}
use Rattle.topology.proofs.FirstBroken.{judged_net}
use Rattle.topology.proofs.rules.judge.Goals as goal

pub new-requires : goal.new-requires
unfolding judged
new-requires c =
    let named_routers = rw c.deref.ensures.value at c.in_ok-routers.ensures.entries in
    let named_peers = rw c.deref-2.ensures.value at c.in_ok-peers.ensures.entries in
    let made = rw (c.deref-3.ensures.value, c.deref-4.ensures.value, c.deref-5.ensures.value) at c.in_ok-net.ensures in
    let whole : judged (raw_topology c.args.raw.now) ≡ Ok (net_parts c.in_ok-net.net) = rw (c.in_ok-count.ensures.rule, named_routers, named_peers, made) refl in
    judged_net (raw_topology c.args.raw.now) (net_parts c.in_ok-net.net) c.requires.routers c.requires.peers whole
