use Rattle.std.proofs.Common.{◌≡◌, ◌++◌, take}
use Rattle.cut_ranks.specs.Lives.{link_cuts}
use Rattle.cut_ranks.proofs.cuts.push_links.Given as goal

abbrev pub invariant-loop-link : goal.invariant-loop-link
invariant-loop-link l = l.cuts.items ≡ l.initial.cuts.items ++ link_cuts l.net l.survivors (take l.link-index l.link-items)
