-- Counts of trees.
use Rattle.std.proofs.Common.{◌≡◌, ℕ, ◌+◌, List, [], ◌∷◌, ◌++◌, map, length, Bool, true, false, Result, Ok, refl, sym, ap, ap₂, ◌∙◌, arith, sum_by}
use Rattle.std.specs.Prelude.{⊤, nat_le}
use Rattle.std.specs.List.{flat_map}
use Rattle.std.proofs.lemmas.List.Sums.{sum_by-cons, sum_by-append}
use Rattle.std.proofs.lemmas.List.Concat.{flat_map-append}
use Rattle.policy_tokens.specs.declared.kind.Kind.{Kind}
use Rattle.policy_tokens.specs.declared.kind.Kind.TheVariants as kind
use Rattle.net_base.specs.Steps.{◌>>=◌, unless}
use Rattle.policy_tokens.specs.declared.fault.PolicyFault.{PolicyFault}
use Rattle.policy_tokens.specs.declared.fault.PolicyFault.TheVariants.{TooMany}
use Rattle.policy_words.specs.declared.word.CallWord.{CallWord}
use Rattle.policy_words.specs.declared.word.CallWord.TheVariants as word
use Rattle.policy_grammar.specs.Raw.{Step, Step as step, Item}
use Rattle.policy_rules.specs.Checks.{each}
use Rattle.policy_rules.specs.Counts.{amount as item_amount, capped, within, items_within, call_amount, calls_within, word_places, places_within, paths_within}
use Rattle.policy_law.specs.Told.{told}
use Rattle.policy_law.specs.Trees.{Expression, call, above, either, both, negated, Written, define, originate, state, postfix, item_of}
use Rattle.policy_law.specs.Limits.{amount, calls, places_of_call, paths, unless_within, over, too_many, many_calls, long_paths}
use Rattle.policy_law.proofs.Binds.{told_append, told_end, each_append, each_map, each_told}

abbrev pub self : PolicyFault → PolicyFault
self e = e

pub within_told : (k : Kind) (most n : ℕ) → within k most n ≡ told self (over k most n)
within_told k most n = by (nat_le n most)
  where
    by : (b : Bool) → unless (TooMany k n) b ≡ told self (unless_within k n b)
    by true = refl
    by false = refl

-- ---- items

sums_same : (f : Item → ℕ) (g : Written → ℕ) → ((x : Written) → f (item_of x) ≡ g x) → (xs : List Written) → sum_by f (map item_of xs) ≡ sum_by g xs
sums_same f g same [] = refl
sums_same f g same (x ∷ xs) = sum_by-cons f (item_of x) (map item_of xs) ∙ ap₂ (λ (m n : ℕ). m + n) (same x) (sums_same f g same xs) ∙ sym (sum_by-cons g x xs)

definitions_same : (x : Written) → item_amount kind.Definitions (item_of x) ≡ amount kind.Definitions x
definitions_same (define group members) = refl
definitions_same (originate prefix names) = refl
definitions_same (state patterns e from) = refl

statements_same : (x : Written) → item_amount kind.Statements (item_of x) ≡ amount kind.Statements x
statements_same (define group members) = refl
statements_same (originate prefix names) = refl
statements_same (state patterns e from) = refl

patterns_same : (x : Written) → item_amount kind.Patterns (item_of x) ≡ amount kind.Patterns x
patterns_same (define group members) = refl
patterns_same (originate prefix names) = refl
patterns_same (state patterns e from) = refl

prefixes_same : (x : Written) → item_amount kind.Prefixes (item_of x) ≡ amount kind.Prefixes x
prefixes_same (define group members) = refl
prefixes_same (originate prefix names) = refl
prefixes_same (state patterns e from) = refl

counted_told : (k : Kind) (most : ℕ) → ((x : Written) → item_amount k (item_of x) ≡ amount k x) → (xs : List Written)
    → within k most (capped (sum_by (item_amount k) (map item_of xs))) ≡ told self (too_many k most (sum_by (amount k) xs))
counted_told k most same xs = ap (λ (n : ℕ). within k most (capped n)) (sums_same (item_amount k) (amount k) same xs) ∙ within_told k most (capped (sum_by (amount k) xs))

abbrev pub many : Kind → ℕ → List Written → List PolicyFault
many k most xs = too_many k most (sum_by (amount k) xs)

-- groups, statements, patterns and originated prefixes
pub items_told : (xs : List Written)
    → items_within (map item_of xs)
    ≡ told self (many kind.Definitions 256 xs ++ many kind.Statements 256 xs ++ many kind.Patterns 16384 xs ++ many kind.Prefixes 4096 xs)
items_told xs =
    let a : List PolicyFault = many kind.Definitions 256 xs in
    let b : List PolicyFault = many kind.Statements 256 xs in
    let c : List PolicyFault = many kind.Patterns 16384 xs in
    let d : List PolicyFault = many kind.Prefixes 4096 xs in
    ap₂ (λ (r t : Result ⊤ PolicyFault). r >>= λ _. t) (counted_told kind.Definitions 256 definitions_same xs)
    (ap₂ (λ (r t : Result ⊤ PolicyFault). r >>= λ _. t) (counted_told kind.Statements 256 statements_same xs)
    (ap₂ (λ (r t : Result ⊤ PolicyFault). r >>= λ _. t) (counted_told kind.Patterns 16384 patterns_same xs) (counted_told kind.Prefixes 4096 prefixes_same xs)))
    ∙ four a b c d
  where
    four : (a b c d : List PolicyFault) → (told self a >>= λ _. (told self b >>= λ _. (told self c >>= λ _. told self d))) ≡ told self (a ++ b ++ c ++ d)
    four [] [] [] d = refl
    four [] [] (z ∷ c) d = refl
    four [] (y ∷ b) c d = refl
    four (x ∷ a) b c d = refl

-- ---- expressions

call_sum : (a b : List Step) (s : Step) → call_amount s ≡ 0 → sum_by call_amount (a ++ b ++ s ∷ []) ≡ sum_by call_amount a + sum_by call_amount b
call_sum a b s none =
    sum_by-append call_amount (a ++ b) (s ∷ [])
    ∙ ap₂ (λ (m n : ℕ). m + n) (sum_by-append call_amount a b) (sum_by-cons call_amount s [] ∙ ap (λ (n : ℕ). n + 0) none)
    ∙ omega arith

calls_same : (e : Expression) → sum_by call_amount (postfix e) ≡ calls e
calls_same (call c) = refl
calls_same (above a p b) = call_sum (postfix a) (postfix b) (step.Above p) refl ∙ ap₂ (λ (m n : ℕ). m + n) (calls_same a) (calls_same b)
calls_same (either a b) = call_sum (postfix a) (postfix b) step.Or refl ∙ ap₂ (λ (m n : ℕ). m + n) (calls_same a) (calls_same b)
calls_same (both a b) = call_sum (postfix a) (postfix b) step.And refl ∙ ap₂ (λ (m n : ℕ). m + n) (calls_same a) (calls_same b)
calls_same (negated a) = sum_by-append call_amount (postfix a) (step.Not ∷ []) ∙ ap (λ (n : ℕ). n + 0) (calls_same a) ∙ omega arith

item_calls : (x : Written) → calls_within (item_of x) ≡ told self (many_calls x)
item_calls (define group members) = refl
item_calls (originate prefix names) = refl
item_calls (state patterns e from) = ap (λ (n : ℕ). within kind.Calls 256 (capped n)) (calls_same e) ∙ within_told kind.Calls 256 (capped (calls e))

pub calls_told : (xs : List Written) → each calls_within (map item_of xs) ≡ told self (flat_map many_calls xs)
calls_told xs = each_map calls_within item_of xs ∙ each_told (λ x. calls_within (item_of x)) self many_calls item_calls xs

abbrev long : List ℕ → List PolicyFault
long ns = flat_map (over kind.Places 256) ns

call_places : (w : CallWord) (n : ℕ) → within kind.Places 256 (word_places w n) ≡ told self (long (places_of_call w n))
call_places word.Any n = refl
call_places word.Drop n = refl
call_places word.Internal n = refl
call_places word.Link n = refl
call_places word.Path n = within_told kind.Places 256 n ∙ sym (told_end self (over kind.Places 256 n)) ∙ told_append self (over kind.Places 256 n) []
call_places (word.Of c) n = refl

places_in_turn : (a b : List Step) (s : Step) (xs ys : List ℕ) → places_within s ≡ Ok tt → each places_within a ≡ told self (long xs)
    → each places_within b ≡ told self (long ys) → each places_within (a ++ b ++ s ∷ []) ≡ told self (long (xs ++ ys))
places_in_turn a b s xs ys silent p q =
    each_append places_within (a ++ b) (s ∷ [])
    ∙ ap₂ (λ (r t : Result ⊤ PolicyFault). r >>= λ _. t)
    (each_append places_within a b ∙ ap₂ (λ (r t : Result ⊤ PolicyFault). r >>= λ _. t) p q ∙ told_append self (long xs) (long ys))
    (ap (λ (r : Result ⊤ PolicyFault). r >>= λ _. Ok tt) silent)
    ∙ told_end self (long xs ++ long ys)
    ∙ ap (told self) (sym (flat_map-append (over kind.Places 256) xs ys))

paths_same : (e : Expression) → each places_within (postfix e) ≡ told self (long (paths e))
paths_same (call c) = ap (λ (r : Result ⊤ PolicyFault). r >>= λ _. Ok tt) (call_places c.word (length c.args)) ∙ told_end self (long (places_of_call c.word (length c.args)))
paths_same (above a p b) = places_in_turn (postfix a) (postfix b) (step.Above p) (paths a) (paths b) refl (paths_same a) (paths_same b)
paths_same (either a b) = places_in_turn (postfix a) (postfix b) step.Or (paths a) (paths b) refl (paths_same a) (paths_same b)
paths_same (both a b) = places_in_turn (postfix a) (postfix b) step.And (paths a) (paths b) refl (paths_same a) (paths_same b)
paths_same (negated a) =
    each_append places_within (postfix a) (step.Not ∷ []) ∙ ap (λ (r : Result ⊤ PolicyFault). r >>= λ _. Ok tt) (paths_same a) ∙ told_end self (long (paths a))

item_paths : (x : Written) → paths_within (item_of x) ≡ told self (long_paths x)
item_paths (define group members) = refl
item_paths (originate prefix names) = refl
item_paths (state patterns e from) = paths_same e

pub paths_told : (xs : List Written) → each paths_within (map item_of xs) ≡ told self (flat_map long_paths xs)
paths_told xs = each_map paths_within item_of xs ∙ each_told (λ x. paths_within (item_of x)) self long_paths item_paths xs
