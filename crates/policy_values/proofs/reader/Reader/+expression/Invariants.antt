use Rattle.std.proofs.Common.{◌≡◌, ◌≤◌, ◌+◌, ◌*◌, ℕ, length}
use Rattle.policy_grammar.specs.Left.{left, StandsIn}
use Rattle.policy_grammar.specs.Ranked.{operator_of}
use Rattle.policy_grammar.specs.Reading.{chain}
use Rattle.policy_rules.specs.KnownView.{plain_names}
use Rattle.policy_values.specs.declared.operators.Operator.{Operator}
use Rattle.policy_values.specs.declared.operators.Operator.TheVariants.{Above, Or, And}
use Rattle.policy_values.specs.Operators.{level_of}
use Rattle.policy_values.specs.Parts.{parts_value}
use Rattle.policy_values.proofs.Chains.{LeadsTo}
use Rattle.policy_values.proofs.Sides.{link_at}
use Rattle.policy_values.proofs.reader.Reader.+expression.Given as goal

-- how many operators bind more tightly
abbrev tighter : Operator → ℕ
tighter And = 0
tighter Or = 1
tighter Above = 2

abbrev pub decreases-inner : goal.decreases-inner
decreases-inner l = 12 * l.depth

abbrev pub decreases-atom : goal.decreases-atom
decreases-atom l = 12 * l.depth + 1

abbrev pub decreases-unit : goal.decreases-unit
decreases-unit l = 12 * l.depth + 2

abbrev pub decreases-side : goal.decreases-side
decreases-side l = 12 * l.depth + 3 * tighter l.operator + 3

abbrev pub decreases-more_sides : goal.decreases-more_sides
decreases-more_sides l = 12 * l.depth + 3 * tighter l.operator + 4

abbrev pub decreases-joined : goal.decreases-joined
decreases-joined l = 12 * l.depth + 3 * tighter l.operator + 5

abbrev pub invariant-more_sides-loop-operator : goal.invariant-more_sides-loop-operator
invariant-more_sides-loop-operator l = record {
  so_far : LeadsTo l.symbol (link_at l.self.text.now l.self.whole.now.net.now (plain_names l.self.known.now) (level_of l.operator) l.depth)
      (parts_value l.parts) (left l.self.text.now l.at)
      (chain (operator_of (level_of l.operator)) (link_at l.self.text.now l.self.whole.now.net.now (plain_names l.self.known.now) (level_of l.operator) l.depth)
      (length (left l.self.text.now l.fn.at)) (parts_value l.fn.parts) (left l.self.text.now l.fn.at));
  place : l.place ≡ l.at.place;
  stands : StandsIn l.self.text.now l.at;
  fewer : length (left l.self.text.now l.at) ≤ length (left l.self.text.now l.fn.at);
}

abbrev pub decreases-more_sides-loop-operator : goal.decreases-more_sides-loop-operator
decreases-more_sides-loop-operator l = length (left l.self.text.now l.at)
