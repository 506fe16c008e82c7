-- What is so of calls, and of each expression where it is so of its parts, is so of what the grammar finds.
use Rattle.std.proofs.Common.{List, [], ◌∷◌, ◌++◌}
use Rattle.policy_grammar.specs.declared.lexeme.Lexeme.{Lexeme}
use Rattle.policy_grammar.specs.Raw.{RawCall, Step}
use Rattle.grammar_law.specs.Grammar.{IsCall, IsRanked, IsChoice, IsJoint, IsUnit, IsAtom}
use Rattle.policy_law.specs.Trees.{Expression, call, above, either, both, negated, ranked_tree, choice_tree, joint_tree, unit_tree, atom_tree}

module _ (IsSo : Expression → List Lexeme → Type 0) (of_call : (x : RawCall) (ts : List Lexeme) → IsCall x ts → IsSo (call x) ts)
    (of_above : (a b : Expression) (j : Lexeme) (us vs : List Lexeme) → IsSo a us → IsSo b vs → IsSo (above a j.place b) (us ++ j ∷ vs))
    (of_either : (a b : Expression) (j : Lexeme) (us vs : List Lexeme) → IsSo a us → IsSo b vs → IsSo (either a b) (us ++ j ∷ vs))
    (of_both : (a b : Expression) (j : Lexeme) (us vs : List Lexeme) → IsSo a us → IsSo b vs → IsSo (both a b) (us ++ j ∷ vs))
    (of_negated : (a : Expression) (l : Lexeme) (us : List Lexeme) → IsSo a us → IsSo (negated a) (l ∷ us))
    (of_bracket : (a : Expression) (o c : Lexeme) (us : List Lexeme) → IsSo a us → IsSo a (o ∷ us ++ c ∷ [])) where
  mutual
    pub ranked_so : {xs : List Step} {ts : List Lexeme} (p : IsRanked xs ts) → IsSo (ranked_tree p) ts
    ranked_so (IsRanked.choice c) = choice_so c
    ranked_so (IsRanked.above {j = j} {ts = ts} {us = us} a i b) = of_above (ranked_tree a) (choice_tree b) j ts us (ranked_so a) (choice_so b)

    choice_so : {xs : List Step} {ts : List Lexeme} (p : IsChoice xs ts) → IsSo (choice_tree p) ts
    choice_so (IsChoice.joint c) = joint_so c
    choice_so (IsChoice.or {j = j} {ts = ts} {us = us} a i b) = of_either (choice_tree a) (joint_tree b) j ts us (choice_so a) (joint_so b)

    joint_so : {xs : List Step} {ts : List Lexeme} (p : IsJoint xs ts) → IsSo (joint_tree p) ts
    joint_so (IsJoint.unit c) = unit_so c
    joint_so (IsJoint.and {j = j} {ts = ts} {us = us} a i b) = of_both (joint_tree a) (unit_tree b) j ts us (joint_so a) (unit_so b)

    unit_so : {xs : List Step} {ts : List Lexeme} (p : IsUnit xs ts) → IsSo (unit_tree p) ts
    unit_so (IsUnit.atom a) = atom_so a
    unit_so (IsUnit.not {n = n} {ts = ts} i a) = of_negated (atom_tree a) n ts (atom_so a)

    atom_so : {xs : List Step} {ts : List Lexeme} (p : IsAtom xs ts) → IsSo (atom_tree p) ts
    atom_so (IsAtom.bracket {o = o} {c = c} {ts = ts} i r j) = of_bracket (ranked_tree r) o c ts (ranked_so r)
    atom_so (IsAtom.call {x = x} {ts = ts} c) = of_call x ts c
