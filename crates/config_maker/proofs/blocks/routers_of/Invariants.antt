use Rattle.std.proofs.Common.{◌≡◌, ◌+◌, length, map, vec_len}
use Rattle.net_base.specs.Locations.{numbers_below}
use Rattle.config_maker.specs.Hops.{AreReached}
use Rattle.config_maker.specs.Writing.{router_of}
use Rattle.config_maker.proofs.blocks.routers_of.Given as goal

abbrev pub invariant-loop-number : goal.invariant-loop-number
invariant-loop-number l = record {
  routers : l.routers ≡ map (router_of l.net l.hops l.announced) (numbers_below l.number);
  places : vec_len l.places ≡ length l.net.routers + length l.net.peers;
  reached : AreReached l.hops l.places.items l.number;
}
