-- Names that are used, and the sets that they stand for.
use Rattle.std.proofs.Common.{◌≡◌, ℕ, List, [], ◌∷◌, ◌++◌, map, Option, Some, None, Result, Ok, Err, refl, sym, ap, ap₂, ◌∙◌, append-nil, append_assoc}
use Rattle.std.specs.Prelude.{⊤, fold}
use Rattle.std.specs.List.{flat_map}
use Rattle.net_base.specs.declared.loc.LocSet.{LocSet}
use Rattle.net_base.specs.declared.place.Place.{Place}
use Rattle.net_base.specs.Network.{PlainNet}
use Rattle.net_base.specs.Steps.{◌>>=◌, or_fault}
use Rattle.policy_tokens.specs.declared.fault.PolicyFault.{PolicyFault}
use Rattle.policy_tokens.specs.declared.fault.PolicyFault.TheVariants.{Unknown}
use Rattle.policy_grammar.specs.declared.lexeme.Lexeme.{Lexeme}
use Rattle.policy_grammar.specs.Raw.{Arg, Arg as arg, RawCall, Step, Step as step}
use Rattle.net_base.specs.SetOperations.{union_of}
use Rattle.policy_rules.specs.KnownNames.{Names, set_named}
use Rattle.policy_rules.specs.Checks.{text, set_at, joined, set_of_names as set_read, each, name_known, arg_known, step_known}
use Rattle.policy_base.specs.Policies.{Ranking}
use Rattle.policy_values.specs.Built.{set_of_arg, sets_of, call_of, top, all_behind, ranking_of_steps}
use Rattle.policy_law.specs.Told.{told}
use Rattle.policy_law.specs.Trees.{Expression, call, above, either, both, negated, postfix}
use Rattle.policy_law.specs.Senses.{Sense, located, set_of_names, unless_some, unknown, unknown_in_set, unknown_in}
use Rattle.policy_law.specs.Values.{set_of, ranking}
use Rattle.policy_law.proofs.Binds.{told_join, told_append, told_end, told_gives, each_append, each_told}
use Rattle.policy_law.proofs.RankMarks.{two_sides}

-- the names that are known have this sense
abbrev pub HasSense : List ℕ → Names → Sense → Type 0
HasSense bytes known sense = (l : Lexeme) → set_named known (text bytes l) ≡ sense l

found_or_told : (p : Place) (o : Option LocSet) → or_fault (Unknown p) o ≡ (told Unknown (unless_some p o) >>= λ _. Ok (located o))
found_or_told p (Some s) = refl
found_or_told p None = refl

pub set_found : (bytes : List ℕ) (known : Names) (sense : Sense) → HasSense bytes known sense → (l : Lexeme) → set_at bytes known l ≡ (told Unknown (unknown sense l) >>= λ _. Ok (located (sense l)))
unfolding set_at
set_found bytes known sense has l = ap (or_fault (Unknown l.place)) (has l) ∙ found_or_told l.place (sense l)

abbrev with_names : Sense → LocSet → List Lexeme → LocSet
with_names sense so_far ls = fold (λ (s : LocSet) (l : Lexeme). union_of s (located (sense l))) so_far ls

joined_is : (bytes : List ℕ) (known : Names) (sense : Sense) → HasSense bytes known sense → (so_far : LocSet) (ls : List Lexeme)
    → joined bytes known so_far ls ≡ (told Unknown (flat_map (unknown sense) ls) >>= λ _. Ok (with_names sense so_far ls))
joined_is bytes known sense has so_far [] = refl
joined_is bytes known sense has so_far (l ∷ ls) =
    let next : LocSet = union_of so_far (located (sense l)) in
    ap (λ (r : Result LocSet PolicyFault). r >>= λ s. joined bytes known (union_of so_far s) ls) (set_found bytes known sense has l)
    ∙ told_gives Unknown (unknown sense l) (located (sense l)) (λ s. joined bytes known (union_of so_far s) ls)
    ∙ ap (λ (r : Result LocSet PolicyFault). told Unknown (unknown sense l) >>= λ _. r) (joined_is bytes known sense has next ls)
    ∙ told_join Unknown (unknown sense l) (flat_map (unknown sense) ls) (Ok (with_names sense next ls))

-- a list of names stands for its set, or the first that stands for nothing is told
pub names_set : (bytes : List ℕ) (known : Names) (sense : Sense) → HasSense bytes known sense → (ls : List Lexeme)
    → set_read bytes known ls ≡ (told Unknown (flat_map (unknown sense) ls) >>= λ _. Ok (set_of_names sense ls))
names_set bytes known sense has ls = joined_is bytes known sense has _ ls

-- ---- names are known

name_told : (bytes : List ℕ) (known : Names) (sense : Sense) → HasSense bytes known sense → (l : Lexeme) → name_known bytes known l ≡ told Unknown (unknown sense l)
name_told bytes known sense has l =
    ap (λ (r : Result LocSet PolicyFault). r >>= λ _. Ok tt) (set_found bytes known sense has l)
    ∙ told_gives Unknown (unknown sense l) (located (sense l)) (λ _. Ok tt) ∙ told_end Unknown (unknown sense l)

pub names_told : (bytes : List ℕ) (known : Names) (sense : Sense) → HasSense bytes known sense → (ls : List Lexeme) → each (name_known bytes known) ls ≡ told Unknown (flat_map (unknown sense) ls)
names_told bytes known sense has ls = each_told (name_known bytes known) Unknown (unknown sense) (name_told bytes known sense has) ls

pub set_told : (bytes : List ℕ) (known : Names) (sense : Sense) → HasSense bytes known sense → (a : Arg) → arg_known bytes known a ≡ told Unknown (unknown_in_set sense a)
set_told bytes known sense has arg.Any = refl
set_told bytes known sense has (arg.Names ls) = names_told bytes known sense has ls

-- steps in turn, each of which tells what is found
in_turn : (bytes : List ℕ) (known : Names) (a b : List Step) (s : Step) (xs ys : List Place) → step_known bytes known s ≡ Ok tt
    → each (step_known bytes known) a ≡ told Unknown xs → each (step_known bytes known) b ≡ told Unknown ys
    → each (step_known bytes known) (a ++ b ++ s ∷ []) ≡ told Unknown (xs ++ ys)
in_turn bytes known a b s xs ys silent p q =
    let check = step_known bytes known in
    each_append check (a ++ b) (s ∷ [])
    ∙ ap₂ (λ (r t : Result ⊤ PolicyFault). r >>= λ _. t)
    (each_append check a b ∙ ap₂ (λ (r t : Result ⊤ PolicyFault). r >>= λ _. t) p q ∙ told_append Unknown xs ys)
    (ap (λ (r : Result ⊤ PolicyFault). r >>= λ _. Ok tt) silent)
    ∙ told_end Unknown (xs ++ ys)

pub expression_told : (bytes : List ℕ) (known : Names) (sense : Sense) → HasSense bytes known sense → (e : Expression) → each (step_known bytes known) (postfix e) ≡ told Unknown (unknown_in sense e)
expression_told bytes known sense has (call c) = ending (each (arg_known bytes known) c.args) ∙ each_told (arg_known bytes known) Unknown (unknown_in_set sense) (set_told bytes known sense has) c.args
  where
    ending : (r : Result ⊤ PolicyFault) → (r >>= λ _. Ok tt) ≡ r
    ending (Ok u) = refl
    ending (Err e) = refl
expression_told bytes known sense has (above a p b) =
    in_turn bytes known (postfix a) (postfix b) (step.Above p) (unknown_in sense a) (unknown_in sense b) refl (expression_told bytes known sense has a) (expression_told bytes known sense has b)
expression_told bytes known sense has (either a b) =
    in_turn bytes known (postfix a) (postfix b) step.Or (unknown_in sense a) (unknown_in sense b) refl (expression_told bytes known sense has a) (expression_told bytes known sense has b)
expression_told bytes known sense has (both a b) =
    in_turn bytes known (postfix a) (postfix b) step.And (unknown_in sense a) (unknown_in sense b) refl (expression_told bytes known sense has a) (expression_told bytes known sense has b)
expression_told bytes known sense has (negated a) =
    each_append (step_known bytes known) (postfix a) (step.Not ∷ [])
    ∙ ap (λ (r : Result ⊤ PolicyFault). r >>= λ _. Ok tt) (expression_told bytes known sense has a)
    ∙ told_end Unknown (unknown_in sense a)

-- ---- the value of an expression

arg_set : (bytes : List ℕ) (net : PlainNet) (known : Names) (sense : Sense) → HasSense bytes known sense → (a : Arg)
    → set_of_arg bytes net known a ≡ (told Unknown (unknown_in_set sense a) >>= λ _. Ok (set_of net sense a))
arg_set bytes net known sense has arg.Any = refl
arg_set bytes net known sense has (arg.Names ls) = names_set bytes known sense has ls

arg_sets : (bytes : List ℕ) (net : PlainNet) (known : Names) (sense : Sense) → HasSense bytes known sense → (so_far : List LocSet) (as' : List Arg)
    → sets_of bytes net known so_far as' ≡ (told Unknown (flat_map (unknown_in_set sense) as') >>= λ _. Ok (so_far ++ map (set_of net sense) as'))
arg_sets bytes net known sense has so_far [] = ap Ok (sym (append-nil so_far))
arg_sets bytes net known sense has so_far (a ∷ as') =
    let s : LocSet = set_of net sense a in
    let xs : List Place = unknown_in_set sense a in
    ap (λ (r : Result LocSet PolicyFault). r >>= λ s. sets_of bytes net known (so_far ++ s ∷ []) as') (arg_set bytes net known sense has a)
    ∙ told_gives Unknown xs s (λ s. sets_of bytes net known (so_far ++ s ∷ []) as')
    ∙ ap (λ (r : Result (List LocSet) PolicyFault). told Unknown xs >>= λ _. r) (arg_sets bytes net known sense has (so_far ++ s ∷ []) as')
    ∙ told_join Unknown xs (flat_map (unknown_in_set sense) as') (Ok (so_far ++ s ∷ [] ++ map (set_of net sense) as'))
    ∙ ap (λ (ss : List LocSet). told Unknown (xs ++ flat_map (unknown_in_set sense) as') >>= λ _. Ok ss) (append_assoc so_far (s ∷ []) (map (set_of net sense) as'))

-- the expression is on the stack behind its steps, or the first of its names that stands for nothing is told
abbrev OnStack : List ℕ → PlainNet → Names → Sense → Expression → List Ranking → List Step → Type 0
OnStack bytes net known sense e rs rest =
    all_behind bytes net known rs (postfix e ++ rest) ≡ (told Unknown (unknown_in sense e) >>= λ _. all_behind bytes net known (ranking net sense e ∷ rs) rest)

call_stack : (bytes : List ℕ) (net : PlainNet) (known : Names) (sense : Sense) → HasSense bytes known sense
    → (c : RawCall) (rs : List Ranking) (rest : List Step) → OnStack bytes net known sense (call c) rs rest
call_stack bytes net known sense has c rs rest =
    let xs : List Place = flat_map (unknown_in_set sense) c.args in
    let sets : List LocSet = map (set_of net sense) c.args in
    ap (λ (r : Result (List LocSet) PolicyFault). (r >>= λ sets. Ok (call_of c.word sets ∷ rs)) >>= λ next. all_behind bytes net known next rest) (arg_sets bytes net known sense has [] c.args)
    ∙ ap (λ (r : Result (List Ranking) PolicyFault). r >>= λ next. all_behind bytes net known next rest) (told_gives Unknown xs sets (λ sets. Ok (call_of c.word sets ∷ rs)))
    ∙ told_gives Unknown xs (call_of c.word sets ∷ rs) (λ next. all_behind bytes net known next rest)

-- two sides, and what the step makes of them
two_stacked : (bytes : List ℕ) (net : PlainNet) (known : Names) (sense : Sense) (a b : Expression) (s : Step) (rs : List Ranking) (rest : List Step)
    → OnStack bytes net known sense a rs (postfix b ++ s ∷ rest) → OnStack bytes net known sense b (ranking net sense a ∷ rs) (s ∷ rest)
    → all_behind bytes net known rs ((postfix a ++ postfix b ++ s ∷ []) ++ rest)
    ≡ (told Unknown (unknown_in sense a ++ unknown_in sense b) >>= λ _. all_behind bytes net known (ranking net sense b ∷ ranking net sense a ∷ rs) (s ∷ rest))
two_stacked bytes net known sense a b s rs rest p q =
    ap (all_behind bytes net known rs) (two_sides (postfix a) (postfix b) s rest) ∙ p
    ∙ ap (λ (r : Result (List Ranking) PolicyFault). told Unknown (unknown_in sense a) >>= λ _. r) q
    ∙ told_join Unknown (unknown_in sense a) (unknown_in sense b) (all_behind bytes net known (ranking net sense b ∷ ranking net sense a ∷ rs) (s ∷ rest))

on_stack : (bytes : List ℕ) (net : PlainNet) (known : Names) (sense : Sense) → HasSense bytes known sense
    → (e : Expression) (rs : List Ranking) (rest : List Step) → OnStack bytes net known sense e rs rest
on_stack bytes net known sense has (call c) rs rest = call_stack bytes net known sense has c rs rest
on_stack bytes net known sense has (above a p b) rs rest =
    two_stacked bytes net known sense a b (step.Above p) rs rest (on_stack bytes net known sense has a rs (postfix b ++ step.Above p ∷ rest))
    (on_stack bytes net known sense has b (ranking net sense a ∷ rs) (step.Above p ∷ rest))
on_stack bytes net known sense has (either a b) rs rest =
    two_stacked bytes net known sense a b step.Or rs rest (on_stack bytes net known sense has a rs (postfix b ++ step.Or ∷ rest))
    (on_stack bytes net known sense has b (ranking net sense a ∷ rs) (step.Or ∷ rest))
on_stack bytes net known sense has (both a b) rs rest =
    two_stacked bytes net known sense a b step.And rs rest (on_stack bytes net known sense has a rs (postfix b ++ step.And ∷ rest))
    (on_stack bytes net known sense has b (ranking net sense a ∷ rs) (step.And ∷ rest))
on_stack bytes net known sense has (negated a) rs rest =
    ap (all_behind bytes net known rs) (append_assoc (postfix a) (step.Not ∷ []) rest) ∙ on_stack bytes net known sense has a rs (step.Not ∷ rest)

-- the steps of an expression make its value
pub expression_value : (net : PlainNet) (bytes : List ℕ) (known : Names) (sense : Sense) → HasSense bytes known sense → (e : Expression)
    → ranking_of_steps bytes net known (postfix e) ≡ (told Unknown (unknown_in sense e) >>= λ _. Ok (ranking net sense e))
unfolding ranking_of_steps
expression_value net bytes known sense has e =
    let xs : List Place = unknown_in sense e in
    ap (λ (steps : List Step). all_behind bytes net known [] steps >>= λ rs. Ok (top rs)) (sym (append-nil (postfix e)))
    ∙ ap (λ (r : Result (List Ranking) PolicyFault). r >>= λ rs. Ok (top rs)) (on_stack bytes net known sense has e [] [])
    ∙ told_gives Unknown xs (ranking net sense e ∷ []) (λ rs. Ok (top rs))
