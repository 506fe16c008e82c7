-- Trees that are written alike are the same.
use Rattle.std.proofs.Common.{◌≡◌, List, [], ◌∷◌, ◌++◌, map, refl, sym, ap, ◌∙◌, append_assoc}
use Rattle.policy_grammar.specs.Raw.{RawStatement, Step, Step as step, Item as item}
use Rattle.policy_law.specs.Trees.{Expression, call, above, either, both, negated, Written, define, originate, state, postfix, item_of}

-- the two uppermost expressions under an operator
two : (Expression → Expression → Expression) → List Expression → List Expression
two f [] = []
two f (b ∷ []) = []
two f (b ∷ a ∷ stack) = f a b ∷ stack

one : (Expression → Expression) → List Expression → List Expression
one f [] = []
one f (a ∷ stack) = f a ∷ stack

-- the expressions that stand behind some steps, the last one first
standing : List Expression → List Step → List Expression
standing stack [] = stack
standing stack (step.Call c ∷ steps) = standing (call c ∷ stack) steps
standing stack (step.Above p ∷ steps) = standing (two (λ a b. above a p b) stack) steps
standing stack (step.Or ∷ steps) = standing (two either stack) steps
standing stack (step.And ∷ steps) = standing (two both stack) steps
standing stack (step.Not ∷ steps) = standing (one negated stack) steps

behind_two : (xs ys : List Step) (s : Step) (rest : List Step) → xs ++ ys ++ s ∷ [] ++ rest ≡ xs ++ (ys ++ s ∷ rest)
behind_two xs ys s rest = append_assoc (xs ++ ys) (s ∷ []) rest ∙ append_assoc xs ys (s ∷ rest)

stands : (e : Expression) (stack : List Expression) (rest : List Step) → standing stack (postfix e ++ rest) ≡ standing (e ∷ stack) rest
unfolding standing two one
stands (call c) stack rest = refl
stands (above a p b) stack rest =
    ap (standing stack) (behind_two (postfix a) (postfix b) (step.Above p) rest) ∙ stands a stack (postfix b ++ step.Above p ∷ rest) ∙ stands b (a ∷ stack) (step.Above p ∷ rest)
stands (either a b) stack rest =
    ap (standing stack) (behind_two (postfix a) (postfix b) step.Or rest) ∙ stands a stack (postfix b ++ step.Or ∷ rest) ∙ stands b (a ∷ stack) (step.Or ∷ rest)
stands (both a b) stack rest =
    ap (standing stack) (behind_two (postfix a) (postfix b) step.And rest) ∙ stands a stack (postfix b ++ step.And ∷ rest) ∙ stands b (a ∷ stack) (step.And ∷ rest)
stands (negated a) stack rest = ap (standing stack) (append_assoc (postfix a) (step.Not ∷ []) rest) ∙ stands a stack (step.Not ∷ rest)

front_same : {A : Type 0} (x y : A) (xs ys : List A) → x ∷ xs ≡ y ∷ ys → x ≡ y
front_same x y xs ys h = cc

rest_same : {A : Type 0} (x y : A) (xs ys : List A) → x ∷ xs ≡ y ∷ ys → xs ≡ ys
rest_same x y xs ys h = cc

expressions_same : (e f : Expression) → postfix e ≡ postfix f → e ≡ f
unfolding standing
expressions_same e f h = front_same e f [] [] (sym (stands e [] []) ∙ ap (λ steps. standing [] (steps ++ [])) h ∙ stands f [] [])

statements_same : (r s : RawStatement) → item.State r ≡ item.State s → r ≡ s
statements_same r s h = cc

written_same : (x y : Written) → item_of x ≡ item_of y → x ≡ y
written_same (define n ns) (define m ms) h = cc
written_same (define n ns) (originate g ms) h = absurd cc
written_same (define n ns) (state qs f to) h = absurd cc
written_same (originate g ns) (define m ms) h = absurd cc
written_same (originate g ns) (originate f ms) h = cc
written_same (originate g ns) (state qs f to) h = absurd cc
written_same (state ps e from) (define m ms) h = absurd cc
written_same (state ps e from) (originate g ms) h = absurd cc
written_same (state ps e from) (state qs f to) h =
    let same = statements_same (record { patterns = ps; ranked = postfix e; from = from }) (record { patterns = qs; ranked = postfix f; from = to }) h in
    let patterns : ps ≡ qs = ap (λ (r : RawStatement). r.patterns) same in
    let expressions : e ≡ f = expressions_same e f (ap (λ (r : RawStatement). r.ranked) same) in
    let sources : from ≡ to = ap (λ (r : RawStatement). r.from) same in
    rw (patterns, expressions, sources) refl

pub items_same : (xs ys : List Written) → map item_of xs ≡ map item_of ys → xs ≡ ys
items_same [] [] h = refl
items_same [] (y ∷ ys) h = absurd cc
items_same (x ∷ xs) [] h = absurd cc
items_same (x ∷ xs) (y ∷ ys) h =
    let first : x ≡ y = written_same x y (front_same (item_of x) (item_of y) (map item_of xs) (map item_of ys) h) in
    let rest : xs ≡ ys = items_same xs ys (rest_same (item_of x) (item_of y) (map item_of xs) (map item_of ys) h) in
    rw (first, rest) refl
