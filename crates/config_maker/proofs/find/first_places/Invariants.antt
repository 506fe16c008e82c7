use Rattle.std.proofs.Common.{◌≡◌, vec_len}
use Rattle.config_maker.specs.Hops.{AreReached}
use Rattle.config_maker.proofs.find.first_places.Given as goal

abbrev pub invariant-loop-number : goal.invariant-loop-number
invariant-loop-number l = record {
  len : vec_len l.places ≡ l.number;
  reached : AreReached l.hops l.places.items 0;
}
