-- The operators with two sides: their levels in the grammar, their steps, and what they make of their sides.
use Rattle.net_base.specs.declared.place.Place.{Place}
use Rattle.policy_base.specs.Policies.{Ranking, prefer, either, both}
use Rattle.policy_grammar.specs.Raw.{Step, Step as step}
use Rattle.policy_grammar.specs.Ranked.{Level, Ranked, Choice, Joint}
use Rattle.policy_values.specs.declared.operators.Operator.{Operator}
use Rattle.policy_values.specs.declared.operators.Operator.TheVariants as operator

abbrev pub level_of : Operator → Level
level_of operator.Above = Ranked
level_of operator.Or = Choice
level_of operator.And = Joint

-- the step of an operator that stands at this place
abbrev pub step_at : Level → Place → Step
step_at Ranked place = step.Above place
step_at Choice place = step.Or
step_at Joint place = step.And

abbrev pub join_of : Level → Ranking → Ranking → Ranking
join_of Ranked = prefer
join_of Choice = either
join_of Joint = both
