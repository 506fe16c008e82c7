use Rattle.std.proofs.Common.{sym, ◌∙◌}
use Rattle.scenarios.proofs.Members.{any-members}
use Rattle.scenarios.proofs.scenario.Scenario.is_dead.Goals as goal

pub returns : goal.returns
returns c = c.holds.ensures ∙ sym (any-members c.args.self.now.dead c.args.at)
