use Rattle.std.proofs.Common.{◌≡◌, ◌++◌, length, take, drop}
use Rattle.net_base.specs.SetOperations.{common_words}
use Rattle.net_base.proofs.words.both.Given as goal

abbrev pub invariant-loop-i : goal.invariant-loop-i
invariant-loop-i l = record {
  len : length l.words ≡ 12;
  rest : common_words l.a.words l.b.words ≡ take l.i l.words ++ common_words (drop l.i l.a.words) (drop l.i l.b.words);
}
