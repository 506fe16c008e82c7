use Rattle.std.proofs.Common.{◌≡◌, ◌&&◌, length, take}
use Rattle.std.specs.Prelude.{nat_le, nat_lt}
use Rattle.net_base.specs.Sets.{words_of}
use Rattle.net_base.proofs.loc.LocSet.of_range.Given as goal

abbrev pub invariant-loop-place : goal.invariant-loop-place
invariant-loop-place l = record {
  size : length l.words ≡ 12;
  words : take l.place l.words ≡ words_of (λ k. nat_le l.from k && nat_lt k l.to) 0 l.place;
}
