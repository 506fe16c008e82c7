use Rattle.std.proofs.Common.{◌≡◌, drop, fold}
use Rattle.std.specs.List.{flat_map}
use Rattle.std.specs.Hash as fed
use Rattle.path_exprs.proofs.equality.feed_words.Given as goal

abbrev pub invariant-loop-word : goal.invariant-loop-word
invariant-loop-word g l =
    fold g.H.Hasher.write l.initial.state (flat_map fed.u64 l.words) ≡ fold g.H.Hasher.write l.state (flat_map fed.u64 (drop l.word-index l.words))
