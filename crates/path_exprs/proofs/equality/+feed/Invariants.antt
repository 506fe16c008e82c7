use Rattle.std.proofs.Common.{◌≡◌, drop, fold}
use Rattle.path_exprs.specs.Expression.{expressions_of}
use Rattle.path_exprs.specs.Writes.{writes_each}
use Rattle.path_exprs.specs.View.{views}
use Rattle.path_exprs.proofs.equality.+feed.Given as goal

abbrev pub invariant-feed_each-loop-i : goal.invariant-feed_each-loop-i
invariant-feed_each-loop-i g l =
    fold g.H.Hasher.write l.initial.state (writes_each (expressions_of (views l.es))) ≡ fold g.H.Hasher.write l.state (writes_each (expressions_of (views (drop l.i l.es))))
