use Rattle.policy_law.proofs.Texts.{policies_are_meant, policy_is_spelled, texts_mean_one_policy}
use Rattle.policy_law.proofs.policies_mean_what_they_spell.Goals as goal

pub returns-clause-only : goal.returns-clause-only
returns-clause-only c = policies_are_meant

pub returns-clause-all : goal.returns-clause-all
returns-clause-all c = policy_is_spelled

pub returns-clause-one : goal.returns-clause-one
returns-clause-one c = texts_mean_one_policy
