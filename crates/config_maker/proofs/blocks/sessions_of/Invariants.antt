use Rattle.std.proofs.Common.{◌≡◌, ◌+◌, length, map, filter}
use Rattle.net_base.specs.Network.{linked}
use Rattle.net_base.specs.Locations.{numbers_below}
use Rattle.config_maker.specs.Hops.{IsReached, AreReached}
use Rattle.config_maker.specs.Writing.{session_of}
use Rattle.config_maker.proofs.blocks.sessions_of.Given as goal

abbrev pub invariant-loop-number : goal.invariant-loop-number
invariant-loop-number l = record {
  sessions : l.sessions ≡ map (session_of l.net l.hops l.at) (filter (linked l.net l.at) (numbers_below l.number));
  places : length l.places ≡ length l.net.routers + length l.net.peers;
  arrived : AreReached l.hops l.places l.at;
  departed : IsReached l.hops l.departure l.at l.number;
}
