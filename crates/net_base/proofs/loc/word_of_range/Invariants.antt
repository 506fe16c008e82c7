use Rattle.std.proofs.Common.{◌≡◌, ◌&&◌}
use Rattle.std.specs.Prelude.{nat_le, nat_lt}
use Rattle.net_base.specs.Sets.{word_of}
use Rattle.net_base.proofs.loc.word_of_range.Given as goal

abbrev pub invariant-loop-place : goal.invariant-loop-place
invariant-loop-place l = l.word ≡ word_of (λ k. nat_le l.from k && nat_lt k l.to) l.first l.place
