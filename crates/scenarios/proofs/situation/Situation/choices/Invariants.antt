use Rattle.std.proofs.Common.{◌≡◌, ℕ, take}
use Rattle.std.specs.List.{list_any}
use Rattle.net_base.specs.Sets.{holds}
use Rattle.scenarios.specs.Situations.{gives_held, outdoes_held}
use Rattle.scenarios.proofs.situation.Situation.choices.Given as goal

abbrev pub invariant-loop-link : goal.invariant-loop-link
invariant-loop-link l = record {
  given : (r : ℕ) → holds l.choices.given r ≡ list_any (gives_held l.self r) (take l.link-index l.self.net.now.links);
  outdone : (r : ℕ) → holds l.choices.outdone r ≡ list_any (outdoes_held l.self r) (take l.link-index l.self.net.now.links);
}
