-- The policy of items that keep the rules.
use Rattle.std.proofs.Common.{◌≡◌, ℕ, List, [], ◌∷◌, ◌++◌, map, Result, Ok, refl, sym, ap, ap₂, ◌∙◌, append-nil, append_assoc}
use Rattle.std.specs.Prelude.{⊤}
use Rattle.std.specs.List.{flat_map}
use Rattle.net_base.specs.declared.loc.LocSet.{LocSet}
use Rattle.net_base.specs.declared.place.Place.{Place}
use Rattle.policy_tokens.specs.declared.kind.Kind.TheVariants as kind
use Rattle.net_base.specs.Network.{PlainNet}
use Rattle.net_base.specs.Prefixes.{PlainPrefix, PlainPattern}
use Rattle.net_base.specs.Steps.{◌>>=◌}
use Rattle.policy_tokens.specs.declared.fault.PolicyFault.{PolicyFault}
use Rattle.policy_tokens.specs.declared.fault.PolicyFault.TheVariants.{Unknown, PrefixBad}
use Rattle.policy_grammar.specs.declared.lexeme.Lexeme.{Lexeme}
use Rattle.policy_grammar.specs.Raw.{Arg, Arg as arg, RawPattern}
use Rattle.policy_rules.specs.KnownNames.{Names}
use Rattle.policy_rules.specs.Checks.{each, set_of_names as set_read}
use Rattle.policy_rules.specs.Counts.{within, calls_within, paths_within}
use Rattle.policy_rules.specs.Figures.{prefix_at}
use Rattle.policy_base.specs.declared.policy.FromSet.{FromSet}
use Rattle.policy_base.specs.declared.policy.FromSet.TheVariants as from_set
use Rattle.policy_base.specs.declared.policy.Origin.{Origin}
use Rattle.policy_base.specs.Policies.{Ranking, PlainStatement, PlainPolicy}
use Rattle.policy_values.specs.Built.{patterns_of, ranking_of_steps, from_of, statement_of, statements_of, origin_of, origins_of}
use Rattle.policy_parser.specs.Spelled.{pairs as pairs_read, origins_spelled, policy_built}
use Rattle.policy_law.specs.Told.{told}
use Rattle.policy_law.specs.Trees.{Expression, Written, define, originate, state, postfix, item_of}
use Rattle.policy_law.specs.Senses.{Sense, set_of_names, unknown, unknown_in, unknown_in_set, unknown_in_item}
use Rattle.policy_law.specs.Figures.{prefix_of, pattern_of, no_prefix, wrong_in_pattern, wrong_figures}
use Rattle.policy_law.specs.Values.{ranking, sources, statement, origins, policy}
use Rattle.policy_law.specs.Limits.{too_many, pairs, many_calls, long_paths, limits_passed}
use Rattle.policy_law.proofs.Binds.{told_gives, told_bind, nil_front, nil_back}
use Rattle.policy_law.proofs.Uses.{HasSense, names_set, expression_value}
use Rattle.policy_law.proofs.FigureChecks.{prefix_told, patterns_told}
use Rattle.policy_law.proofs.LimitChecks.{self, within_told, many, items_told, calls_told, paths_told}

-- where nothing is told, what is given is there
silent : {A B : Type 0} (fault : A → PolicyFault) (xs : List A) (r s : Result B PolicyFault) → xs ≡ [] → r ≡ (told fault xs >>= λ _. s) → r ≡ s
silent fault [] r s none e = e
silent fault (x ∷ xs) r s none e = absurd cc

list_set : (bytes : List ℕ) (known : Names) (sense : Sense) → HasSense bytes known sense → (ls : List Lexeme) → flat_map (unknown sense) ls ≡ [] → set_read bytes known ls ≡ Ok (set_of_names sense ls)
list_set bytes known sense has ls none = silent Unknown (flat_map (unknown sense) ls) (set_read bytes known ls) (Ok (set_of_names sense ls)) none (names_set bytes known sense has ls)

-- ---- origins

origin_is : (bytes : List ℕ) (known : Names) (sense : Sense) → HasSense bytes known sense → (prefix : Lexeme) (names : List Lexeme) → no_prefix bytes prefix ≡ [] → flat_map (unknown sense) names ≡ []
    → origin_of bytes known prefix names ≡ Ok (record { prefix = prefix_of bytes prefix; at = set_of_names sense names })
unfolding origin_of
origin_is bytes known sense has prefix names fine none =
    let p : Result PlainPrefix PolicyFault = prefix_at bytes prefix in
    ap₂ (λ (r : Result PlainPrefix PolicyFault) (t : Result LocSet PolicyFault). r >>= λ p. t >>= λ s. Ok (let o : Origin = record { prefix = p; at = s } in o))
    (silent PrefixBad (no_prefix bytes prefix) p (Ok (prefix_of bytes prefix)) fine (prefix_told bytes prefix)) (list_set bytes known sense has names none)

origins_are : (bytes : List ℕ) (known : Names) (sense : Sense) → HasSense bytes known sense → (so_far : List Origin) (xs : List Written)
    → flat_map (wrong_figures bytes) xs ≡ [] → flat_map (unknown_in_item sense) xs ≡ []
    → origins_of bytes known so_far (map item_of xs) ≡ Ok (so_far ++ origins bytes sense xs)
origins_are bytes known sense has so_far [] fine none = ap Ok (sym (append-nil so_far))
origins_are bytes known sense has so_far (define group members ∷ xs) fine none =
    origins_are bytes known sense has so_far xs fine (nil_back (unknown_in_item sense (define group members)) (flat_map (unknown_in_item sense) xs) none)
origins_are bytes known sense has so_far (state patterns e from ∷ xs) fine none =
    origins_are bytes known sense has so_far xs (nil_back (wrong_figures bytes (state patterns e from)) (flat_map (wrong_figures bytes) xs) fine)
    (nil_back (unknown_in_item sense (state patterns e from)) (flat_map (unknown_in_item sense) xs) none)
origins_are bytes known sense has so_far (originate prefix names ∷ xs) fine none =
    let o : Origin = record { prefix = prefix_of bytes prefix; at = set_of_names sense names } in
    let here =
    origin_is bytes known sense has prefix names (nil_front (no_prefix bytes prefix) (flat_map (wrong_figures bytes) xs) fine)
    (nil_front (flat_map (unknown sense) names) (flat_map (unknown_in_item sense) xs) none) in
    ap (λ (r : Result Origin PolicyFault). r >>= λ o. origins_of bytes known (so_far ++ o ∷ []) (map item_of xs)) here
    ∙ origins_are bytes known sense has (so_far ++ o ∷ []) xs (nil_back (no_prefix bytes prefix) (flat_map (wrong_figures bytes) xs) fine)
    (nil_back (flat_map (unknown sense) names) (flat_map (unknown_in_item sense) xs) none)
    ∙ ap Ok (append_assoc so_far (o ∷ []) (origins bytes sense xs))

-- ---- statements

from_is : (bytes : List ℕ) (known : Names) (sense : Sense) → HasSense bytes known sense → (a : Arg) → unknown_in_set sense a ≡ [] → from_of bytes known a ≡ Ok (sources sense a)
from_is bytes known sense has arg.Any none = refl
from_is bytes known sense has (arg.Names ls) none = ap (λ (r : Result LocSet PolicyFault). r >>= λ s. Ok (from_set.Named s)) (list_set bytes known sense has ls none)

abbrev statement_value : PlainNet → List ℕ → Sense → List RawPattern → Expression → Arg → PlainStatement
statement_value net bytes sense patterns e from = record { patterns = map (pattern_of bytes) patterns; ranked = ranking net sense e; from = sources sense from }

statement_is : (net : PlainNet) (bytes : List ℕ) (known : Names) (sense : Sense) → HasSense bytes known sense → (ps : List RawPattern) (e : Expression) (a : Arg)
    → flat_map (wrong_in_pattern bytes) ps ≡ [] → unknown_in sense e ≡ [] → unknown_in_set sense a ≡ []
    → statement_of bytes net known (record { patterns = ps; ranked = postfix e; from = a }) ≡ Ok (statement_value net bytes sense ps e a)
unfolding statement_of
statement_is net bytes known sense has ps e a fine none others =
    let qs : List PlainPattern = map (pattern_of bytes) ps in
    let first = silent PrefixBad (flat_map (wrong_in_pattern bytes) ps) (patterns_of bytes [] ps) (Ok qs) fine (patterns_told bytes [] ps) in
    let second = silent Unknown (unknown_in sense e) (ranking_of_steps bytes net known (postfix e)) (Ok (ranking net sense e)) none (expression_value net bytes known sense has e) in
    let third = from_is bytes known sense has a others in
    ap (λ (r : Result (List PlainPattern) PolicyFault). r >>= λ patterns. ranking_of_steps bytes net known
    (postfix e) >>= λ ranked. from_of bytes known a >>= λ from. Ok
    (let s : PlainStatement = record { patterns = patterns; ranked = ranked; from = from } in s)) first
    ∙ ap₂ (λ (r : Result Ranking PolicyFault) (t : Result FromSet PolicyFault). r >>= λ ranked. t >>= λ from. Ok
    (let s : PlainStatement = record { patterns = qs; ranked = ranked; from = from } in s)) second third

statements_are : (net : PlainNet) (bytes : List ℕ) (known : Names) (sense : Sense) → HasSense bytes known sense
    → (so_far : List PlainStatement) (xs : List Written) → flat_map (wrong_figures bytes) xs ≡ [] → flat_map (unknown_in_item sense) xs ≡ []
    → statements_of bytes net known so_far (map item_of xs) ≡ Ok (so_far ++ flat_map (statement net bytes sense) xs)
statements_are net bytes known sense has so_far [] fine none = ap Ok (sym (append-nil so_far))
statements_are net bytes known sense has so_far (define group members ∷ xs) fine none =
    statements_are net bytes known sense has so_far xs fine (nil_back (unknown_in_item sense (define group members)) (flat_map (unknown_in_item sense) xs) none)
statements_are net bytes known sense has so_far (originate prefix names ∷ xs) fine none =
    statements_are net bytes known sense has so_far xs (nil_back (no_prefix bytes prefix) (flat_map (wrong_figures bytes) xs) fine)
    (nil_back (flat_map (unknown sense) names) (flat_map (unknown_in_item sense) xs) none)
statements_are net bytes known sense has so_far (state ps e a ∷ xs) fine none =
    let s : PlainStatement = statement_value net bytes sense ps e a in
    let here : List Place = unknown_in_item sense (state ps e a) in
    let known_here = nil_front here (flat_map (unknown_in_item sense) xs) none in
    let wrong : List Place = flat_map (wrong_in_pattern bytes) ps in
    let is =
    statement_is net bytes known sense has ps e a (nil_front wrong (flat_map (wrong_figures bytes) xs) fine)
    (nil_front (unknown_in sense e) (unknown_in_set sense a) known_here)
    (nil_back (unknown_in sense e) (unknown_in_set sense a) known_here) in
    ap (λ (r : Result PlainStatement PolicyFault). r >>= λ t. statements_of bytes net known (so_far ++ t ∷ []) (map item_of xs)) is
    ∙ statements_are net bytes known sense has (so_far ++ s ∷ []) xs (nil_back wrong (flat_map (wrong_figures bytes) xs) fine) (nil_back here (flat_map (unknown_in_item sense) xs) none)
    ∙ ap Ok (append_assoc so_far (s ∷ []) (flat_map (statement net bytes sense) xs))

-- ---- the policy

many_items : List Written → List PolicyFault
many_items xs = many kind.Definitions 256 xs ++ many kind.Statements 256 xs ++ many kind.Patterns 16384 xs ++ many kind.Prefixes 4096 xs

many_pairs : List Origin → List PolicyFault
many_pairs os = too_many kind.Origins 16384 (pairs os)

all_limits : (os : List Origin) (xs : List Written) → limits_passed os xs ≡ many_items xs ++ many_pairs os ++ flat_map many_calls xs ++ flat_map long_paths xs
unfolding many_items many_pairs
all_limits os xs = refl

four : {B : Type 0} (a b c d : List PolicyFault) (r : Result B PolicyFault)
    → (told self a >>= λ _. (told self b >>= λ _. (told self c >>= λ _. (told self d >>= λ _. r)))) ≡ (told self (a ++ b ++ c ++ d) >>= λ _. r)
four [] [] [] d r = refl
four [] [] (z ∷ c) d r = refl
four [] (y ∷ b) c d r = refl
four (x ∷ a) b c d r = refl

origins_built : (bytes : List ℕ) (known : Names) (sense : Sense) → HasSense bytes known sense → (xs : List Written) → flat_map (wrong_figures bytes) xs ≡ [] → flat_map (unknown_in_item sense) xs ≡ []
    → origins_spelled bytes known (map item_of xs) ≡ (told self (many_items xs) >>= λ _. (told self (many_pairs (origins bytes sense xs)) >>= λ _. Ok (origins bytes sense xs)))
unfolding origins_spelled many_items many_pairs
origins_built bytes known sense has xs fine none =
    let os : List Origin = origins bytes sense xs in
    ap₂ (λ (r : Result ⊤ PolicyFault) (t : Result (List Origin) PolicyFault). r >>= λ _. t >>= λ origins. within kind.Origins 16384 (pairs_read origins) >>= λ _. Ok origins)
    (items_told xs) (origins_are bytes known sense has [] xs fine none)
    ∙ ap (λ (r : Result ⊤ PolicyFault). told self (many kind.Definitions 256 xs ++ many kind.Statements 256 xs ++ many kind.Patterns 16384 xs ++ many kind.Prefixes 4096 xs) >>= λ _. r >>= λ _. Ok os)
    (within_told kind.Origins 16384 (pairs_read os))

-- Items that keep the rules on names and figures make the policy that they mean, within the limits.
pub policy_is : (net : PlainNet) (bytes : List ℕ) (known : Names) (sense : Sense) → HasSense bytes known sense → (xs : List Written)
    → flat_map (wrong_figures bytes) xs ≡ [] → flat_map (unknown_in_item sense) xs ≡ []
    → policy_built bytes net known (map item_of xs) ≡ (told self (limits_passed (origins bytes sense xs) xs) >>= λ _. Ok (policy net bytes sense xs))
unfolding policy_built
policy_is net bytes known sense has xs fine none =
    let os : List Origin = origins bytes sense xs in
    let a : List PolicyFault = many_items xs in
    let b : List PolicyFault = many_pairs os in
    let c : List PolicyFault = flat_map many_calls xs in
    let d : List PolicyFault = flat_map long_paths xs in
    let rest : List Origin → Result PlainPolicy PolicyFault =
    λ os. each calls_within (map item_of xs) >>= λ _. each paths_within (map item_of xs) >>= λ _. statements_of bytes net known []
    (map item_of xs) >>= λ statements. Ok (record { origins = os; statements = statements }) in
    let last : rest os ≡ (told self c >>= λ _. (told self d >>= λ _. Ok (policy net bytes sense xs))) =
    ap (λ (r : Result ⊤ PolicyFault). r >>= λ _. each paths_within (map item_of xs) >>= λ _. statements_of bytes net known []
    (map item_of xs) >>= λ statements. Ok (let p : PlainPolicy = record { origins = os; statements = statements } in p))
    (calls_told xs)
    ∙ ap₂ (λ (r : Result ⊤ PolicyFault) (t : Result (List PlainStatement) PolicyFault). told self c >>= λ _. r >>= λ _. t >>= λ statements. Ok
    (let p : PlainPolicy = record { origins = os; statements = statements } in p))
    (paths_told xs) (statements_are net bytes known sense has [] xs fine none) in
    ap (λ (r : Result (List Origin) PolicyFault). r >>= rest) (origins_built bytes known sense has xs fine none)
    ∙ told_bind self a (told self b >>= λ _. Ok os) rest
    ∙ ap (λ (r : Result PlainPolicy PolicyFault). told self a >>= λ _. r) (told_gives self b os rest ∙ ap (λ (r : Result PlainPolicy PolicyFault). told self b >>= λ _. r) last)
    ∙ four a b c d (Ok (policy net bytes sense xs))
    ∙ ap (λ (es : List PolicyFault). told self es >>= λ _. Ok (policy net bytes sense xs)) (sym (all_limits os xs))
