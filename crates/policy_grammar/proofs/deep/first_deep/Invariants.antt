use Rattle.std.proofs.Common.{◌≡◌, ◌≤◌, length, None}
use Rattle.policy_tokens.specs.Places.{first_place}
use Rattle.policy_tokens.specs.Ahead.{ahead_of, from_next, IsToken}
use Rattle.policy_grammar.specs.Left.{lexemes_ahead}
use Rattle.policy_grammar.specs.Deep.{deep_from}
use Rattle.policy_grammar.proofs.deep.first_deep.Given as goal

abbrev pub invariant-loop-next : goal.invariant-loop-next
invariant-loop-next l = record {
  so_far : deep_from l.brackets.deep l.brackets.open (lexemes_ahead l.text (from_next l.text l.next)) ≡ deep_from None 0 (lexemes_ahead l.text (ahead_of l.text 0 first_place));
  end : (from_next l.text l.next).1 ≡ (ahead_of l.text 0 first_place).1;
  stands : IsToken l.text l.next;
  fits : l.brackets.open ≤ 64;
}

abbrev pub decreases-loop-next : goal.decreases-loop-next
decreases-loop-next l = length (from_next l.text l.next).0
