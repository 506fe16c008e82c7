-- Ranked expressions, with their values.
use Rattle.std.proofs.Common.{◌≡◌, ℕ, suc, List, [], ◌∷◌, ◌++◌, refl, sym, ap, subst, ◌∙◌, append_assoc}
use Rattle.std.specs.Prelude.{⊤}
use Rattle.std.specs.List.{AllByRecursion}
use Rattle.list_law.proofs.Each.{AllByRecursion-append, AllByRecursion-append_parts}
use Rattle.net_base.specs.Network.{PlainNet}
use Rattle.policy_base.specs.Policies.{Ranking, prefer, either as one_of, both as all_of, negated as none_of}
use Rattle.policy_grammar.specs.declared.lexeme.Lexeme.{Lexeme}
use Rattle.policy_grammar.specs.Raw.{Step, Step as step}
use Rattle.grammar_law.specs.Grammar.{IsRanked as IsRankedOf, IsChoice, IsJoint, IsUnit, IsAtom}
use Rattle.policy_law.specs.Trees.{Expression, call, above, either, both, negated, postfix}
use Rattle.policy_law.specs.Senses.{Sense}
use Rattle.policy_law.specs.Texts.{AreKnown, IsFine}
use Rattle.policy_law.specs.Values.{ranking}
use Rattle.text_law.specs.PolicyText.{IsRanked}
use Rattle.text_law.proofs.Parts.{GoesOn}
use Rattle.text_law.proofs.Calls.{call_value, call_valued}

behind_two : (xs ys : List Step) (s : Step) (rest : List Step) → xs ++ ys ++ s ∷ [] ++ rest ≡ xs ++ (ys ++ s ∷ rest)
behind_two xs ys s rest = append_assoc (xs ++ ys) (s ∷ []) rest ∙ append_assoc xs ys (s ∷ rest)

-- the two uppermost values under an operator, and the uppermost one
abbrev pub two : (Ranking → Ranking → Ranking) → List Ranking → List Ranking
two f [] = []
two f (b ∷ []) = []
two f (b ∷ a ∷ stack) = f a b ∷ stack

abbrev pub one : (Ranking → Ranking) → List Ranking → List Ranking
one f [] = []
one f (a ∷ stack) = f a ∷ stack

front_same : (a b : Ranking) → a ∷ [] ≡ b ∷ [] → a ≡ b
front_same a b h = cc

module _ (net : PlainNet) (whole : Sense) where
  -- the values that stand behind some steps, the last one first
  abbrev pub standing : List Ranking → List Step → List Ranking
  standing stack [] = stack
  standing stack (step.Call c ∷ steps) = standing (call_value net whole c ∷ stack) steps
  standing stack (step.Above p ∷ steps) = standing (two prefer stack) steps
  standing stack (step.Or ∷ steps) = standing (two one_of stack) steps
  standing stack (step.And ∷ steps) = standing (two all_of stack) steps
  standing stack (step.Not ∷ steps) = standing (one none_of stack) steps

  -- the steps have this value
  abbrev pub Have : List Step → Ranking → Type 0
  Have steps a = (stack : List Ranking) (rest : List Step) → standing stack (steps ++ rest) ≡ standing (a ∷ stack) rest

  pub two_have : (xs ys : List Step) (s : Step) (a b c : Ranking) → ((stack : List Ranking) (rest : List Step) → standing (b ∷ a ∷ stack) (s ∷ rest) ≡ standing (c ∷ stack) rest)
      → Have xs a → Have ys b → Have (xs ++ ys ++ s ∷ []) c
  two_have xs ys s a b c made p q stack rest =
      ap (standing stack) (behind_two xs ys s rest) ∙ p stack (ys ++ s ∷ rest) ∙ q (a ∷ stack) (s ∷ rest) ∙ made stack rest

  pub not_has : (xs : List Step) (a : Ranking) → Have xs a → Have (xs ++ step.Not ∷ []) (none_of a)
  not_has xs a p stack rest = ap (standing stack) (append_assoc xs (step.Not ∷ []) rest) ∙ p stack (step.Not ∷ rest)

  -- the value of an expression
  abbrev ranked : Expression → Ranking
  ranked e = ranking net whole e

  expression_has : (e : Expression) → Have (postfix e) (ranking net whole e)
  expression_has (call c) = λ stack rest. refl
  expression_has (above a p b) = two_have (postfix a) (postfix b) (step.Above p) (ranked a) (ranked b) (ranked (above a p b)) (λ stack rest. refl) (expression_has a) (expression_has b)
  expression_has (either a b) = two_have (postfix a) (postfix b) step.Or (ranked a) (ranked b) (ranked (either a b)) (λ stack rest. refl) (expression_has a) (expression_has b)
  expression_has (both a b) = two_have (postfix a) (postfix b) step.And (ranked a) (ranked b) (ranked (both a b)) (λ stack rest. refl) (expression_has a) (expression_has b)
  expression_has (negated a) = not_has (postfix a) (ranking net whole a) (expression_has a)

module _ (net : PlainNet) (sense whole : Sense) (goes_on : GoesOn sense whole) where
  -- ---- names are known

  abbrev IsStepKnown : Step → Type 0
  IsStepKnown (step.Call c) = AllByRecursion (AreKnown sense) c.args
  IsStepKnown (step.Above p) = ⊤
  IsStepKnown step.Or = ⊤
  IsStepKnown step.And = ⊤
  IsStepKnown step.Not = ⊤

  abbrev AreStepsKnown : List Step → Type 0
  AreStepsKnown steps = AllByRecursion IsStepKnown steps

  two_known : (xs ys : List Step) (s : Step) → IsStepKnown s → AreStepsKnown xs → AreStepsKnown ys → AreStepsKnown (xs ++ ys ++ s ∷ [])
  two_known xs ys s here p q = AllByRecursion-append IsStepKnown (xs ++ ys) (s ∷ []) (AllByRecursion-append IsStepKnown xs ys p q) (here, tt)

  steps_known : (e : Expression) → IsFine sense e → AreStepsKnown (postfix e)
  steps_known (call c) fine = (fine.0, tt)
  steps_known (above a p b) fine = two_known (postfix a) (postfix b) (step.Above p) tt (steps_known a fine.0) (steps_known b fine.1)
  steps_known (either a b) fine = two_known (postfix a) (postfix b) step.Or tt (steps_known a fine.0) (steps_known b fine.1)
  steps_known (both a b) fine = two_known (postfix a) (postfix b) step.And tt (steps_known a fine.0) (steps_known b fine.1)
  steps_known (negated a) fine = AllByRecursion-append IsStepKnown (postfix a) (step.Not ∷ []) (steps_known a fine.0) (tt, tt)

  -- ---- what the grammar writes has a value

  -- at this level of the grammar, the steps that are written as these tokens
  record Meant (level : ℕ) (steps : List Step) (ts : List Lexeme) : Type 0 where
    value : Ranking
    means : IsRanked net sense level value ts
    has : Have net whole steps value

  looser : (level : ℕ) (steps : List Step) (ts : List Lexeme) → Meant (suc level) steps ts → Meant level steps ts
  looser level steps ts m = record { value = m.value; means = IsRanked.tighter m.means; has = m.has }

  -- two sides with their operator
  joined : (op : Ranking → Ranking → Ranking) (s : Step)
      → ((a b : Ranking) (stack : List Ranking) (rest : List Step) → standing net whole (b ∷ a ∷ stack) (s ∷ rest) ≡ standing net whole (op a b ∷ stack) rest)
      → {level next : ℕ} {xs ys : List Step} {us vs ts : List Lexeme} (m : Meant level xs us) (n : Meant next ys vs)
      → IsRanked net sense level (op m.value n.value) ts → Meant level (xs ++ ys ++ s ∷ []) ts
  joined op s made {xs = xs} {ys = ys} m n means = record {
    value = op m.value n.value;
    means = means;
    has = two_have net whole xs ys s m.value n.value (op m.value n.value) (made m.value n.value) m.has n.has;
  }

  -- the sides of an operator are known where it is
  sides : (xs ys : List Step) (s : Step) → AreStepsKnown (xs ++ ys ++ s ∷ []) → AreStepsKnown xs × AreStepsKnown ys
  sides xs ys s known = AllByRecursion-append_parts IsStepKnown xs ys (AllByRecursion-append_parts IsStepKnown (xs ++ ys) (s ∷ []) known).0

  mutual
    ranked_meant : {xs : List Step} {ts : List Lexeme} → IsRankedOf xs ts → AreStepsKnown xs → Meant 0 xs ts
    ranked_meant (IsRankedOf.choice {xs = xs} {ts = ts} c) known = looser 0 xs ts (choice_meant c known)
    ranked_meant (IsRankedOf.above {xs = xs} {ys = ys} {j = j} a i b) known =
        let k = sides xs ys (step.Above j.place) known in
        let m = ranked_meant a k.0 in
        let n = choice_meant b k.1 in
        joined prefer (step.Above j.place) (λ a b stack rest. refl) m n (IsRanked.above m.means i n.means)

    choice_meant : {xs : List Step} {ts : List Lexeme} → IsChoice xs ts → AreStepsKnown xs → Meant 1 xs ts
    choice_meant (IsChoice.joint {xs = xs} {ts = ts} c) known = looser 1 xs ts (joint_meant c known)
    choice_meant (IsChoice.or {xs = xs} {ys = ys} a i b) known =
        let k = sides xs ys step.Or known in
        let m = choice_meant a k.0 in
        let n = joint_meant b k.1 in
        joined one_of step.Or (λ a b stack rest. refl) m n (IsRanked.or m.means i n.means)

    joint_meant : {xs : List Step} {ts : List Lexeme} → IsJoint xs ts → AreStepsKnown xs → Meant 2 xs ts
    joint_meant (IsJoint.unit {xs = xs} {ts = ts} c) known = looser 2 xs ts (unit_meant c known)
    joint_meant (IsJoint.and {xs = xs} {ys = ys} a i b) known =
        let k = sides xs ys step.And known in
        let m = joint_meant a k.0 in
        let n = unit_meant b k.1 in
        joined all_of step.And (λ a b stack rest. refl) m n (IsRanked.and m.means i n.means)

    unit_meant : {xs : List Step} {ts : List Lexeme} → IsUnit xs ts → AreStepsKnown xs → Meant 3 xs ts
    unit_meant (IsUnit.atom {xs = xs} {ts = ts} a) known = looser 3 xs ts (atom_meant a known)
    unit_meant (IsUnit.not {xs = xs} i a) known =
        let m = atom_meant a (AllByRecursion-append_parts IsStepKnown xs (step.Not ∷ []) known).0 in
        record { value = none_of m.value; means = IsRanked.not i m.means; has = not_has net whole xs m.value m.has }

    atom_meant : {xs : List Step} {ts : List Lexeme} → IsAtom xs ts → AreStepsKnown xs → Meant 4 xs ts
    atom_meant (IsAtom.bracket i r j) known = let m = ranked_meant r known in record { value = m.value; means = IsRanked.bracket i m.means j; has = m.has }
    atom_meant (IsAtom.call {x = x} c) known = record { value = call_value net whole x; means = IsRanked.call (call_valued net sense whole goes_on c known.0); has = λ stack rest. refl }

  -- an expression that the grammar writes as these tokens
  pub expression_valued : (e : Expression) {ts : List Lexeme} → IsRankedOf (postfix e) ts → IsFine sense e → IsRanked net sense 0 (ranking net whole e) ts
  expression_valued e {ts} r fine =
      let m = ranked_meant r (steps_known e fine) in
      let same : m.value ≡ ranking net whole e = front_same m.value (ranking net whole e) (sym (m.has [] []) ∙ expression_has net whole e [] []) in
      subst (λ (a : Ranking). IsRanked net sense 0 a ts) same m.means
