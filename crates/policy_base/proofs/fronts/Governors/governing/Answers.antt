use Rattle.std.proofs.Common.{◌∙◌}
use Rattle.indexmap.specs.IndexMap.{get}
use Rattle.policy_base.specs.Fronts.{same_front}
use Rattle.policy_base.proofs.FrontLemmas.{least_number-governing}
use Rattle.policy_base.proofs.fronts.Governors.governing.Goals as goal

pub returns : goal.returns
returns c = λ policy noted. c.least_under.ensures ∙ least_number-governing (get same_front c.args.self.now.numbers) policy.statements c.args.prefix noted
