-- The tree that the grammar finds is written as the grammar says.
use Rattle.std.proofs.Common.{◌≡◌, List, [], ◌∷◌, ◌++◌, map, refl, ap, ap₂}
use Rattle.policy_grammar.specs.declared.lexeme.Lexeme.{Lexeme}
use Rattle.policy_grammar.specs.Raw.{Step, Step as step, Item, Item as item}
use Rattle.grammar_law.specs.Grammar.{IsRanked, IsChoice, IsJoint, IsUnit, IsAtom, IsItem, IsPolicy}
use Rattle.policy_law.specs.Trees.{ranked_tree, choice_tree, joint_tree, unit_tree, atom_tree, item_tree, policy_tree, postfix, item_of}

joined : (a xs b ys : List Step) (s : Step) → a ≡ xs → b ≡ ys → a ++ b ++ s ∷ [] ≡ xs ++ ys ++ s ∷ []
joined a xs b ys s p q = rw (p, q) refl

mutual
  pub ranked_steps : {xs : List Step} {ts : List Lexeme} (p : IsRanked xs ts) → postfix (ranked_tree p) ≡ xs
  ranked_steps (IsRanked.choice c) = choice_steps c
  ranked_steps (IsRanked.above {xs = xs} {ys = ys} {j = j} a i b) = joined (postfix (ranked_tree a)) xs (postfix (choice_tree b)) ys (step.Above j.place) (ranked_steps a) (choice_steps b)

  choice_steps : {xs : List Step} {ts : List Lexeme} (p : IsChoice xs ts) → postfix (choice_tree p) ≡ xs
  choice_steps (IsChoice.joint c) = joint_steps c
  choice_steps (IsChoice.or {xs = xs} {ys = ys} a i b) = joined (postfix (choice_tree a)) xs (postfix (joint_tree b)) ys step.Or (choice_steps a) (joint_steps b)

  joint_steps : {xs : List Step} {ts : List Lexeme} (p : IsJoint xs ts) → postfix (joint_tree p) ≡ xs
  joint_steps (IsJoint.unit c) = unit_steps c
  joint_steps (IsJoint.and {xs = xs} {ys = ys} a i b) = joined (postfix (joint_tree a)) xs (postfix (unit_tree b)) ys step.And (joint_steps a) (unit_steps b)

  unit_steps : {xs : List Step} {ts : List Lexeme} (p : IsUnit xs ts) → postfix (unit_tree p) ≡ xs
  unit_steps (IsUnit.atom a) = atom_steps a
  unit_steps (IsUnit.not i a) = ap (λ (zs : List Step). zs ++ step.Not ∷ []) (atom_steps a)

  atom_steps : {xs : List Step} {ts : List Lexeme} (p : IsAtom xs ts) → postfix (atom_tree p) ≡ xs
  atom_steps (IsAtom.bracket i r j) = ranked_steps r
  atom_steps (IsAtom.call c) = refl

item_written : {x : Item} {ts : List Lexeme} (p : IsItem x ts) → item_of (item_tree p) ≡ x
item_written (IsItem.define d is e g s) = refl
item_written (IsItem.originate o is t ns s) = refl
item_written (IsItem.state {ps = ps} {x = x} p a r f s) = ap (λ (zs : List Step). item.State (record { patterns = ps; ranked = zs; from = x })) (ranked_steps r)

pub policy_written : {xs : List Item} {ts : List Lexeme} (p : IsPolicy xs ts) → map item_of (policy_tree p) ≡ xs
policy_written IsPolicy.none = refl
policy_written (IsPolicy.more i p) = ap₂ (λ (x : Item) (xs : List Item). x ∷ xs) (item_written i) (policy_written p)
