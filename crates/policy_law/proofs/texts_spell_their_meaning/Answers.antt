use Rattle.policy_law.proofs.Whole.{text_spells, policy_meant}
use Rattle.policy_law.proofs.texts_spell_their_meaning.Goals as goal

pub returns-clause-all : goal.returns-clause-all
returns-clause-all c = text_spells c.every_policy_is_read.ensures

pub returns-clause-only : goal.returns-clause-only
returns-clause-only c = policy_meant c.every_policy_is_read.ensures c.what_is_read_is_a_policy.ensures
