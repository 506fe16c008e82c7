use Rattle.std.proofs.Common.{◌≡◌, rules}
use Rattle.std.proofs.lemmas.Fn.{always_returns_same}
use Rattle.policy_pairs.specs.Groups.{turn_for}
use Rattle.policy_pairs.proofs.GroupTurns.{in_turn}
use Rattle.policy_pairs.proofs.pairs.sort_groups.Goals as goal

pub returns-clause-turns : goal.returns-clause-turns
returns-clause-turns c =
    in_turn c.sort_unstable_by_key.new.self.items (c.sort_unstable_by_key.ensures.sorted turn_for (always_returns_same _ (λ a r. r ≡ turn_for a.0.now) _ (λ a r q k. search rules)))
