-- That the reading of policies meets these definitions.
use Rattle.std.specs.Prelude.{◌≡◌, ℕ, ◌<◌, List, length, map, None, Ok}
use Rattle.std.specs.List.{list_any}
use Rattle.list_law.specs.Members.{IsIn}
use Rattle.net_base.specs.Network.{PlainNet}
use Rattle.net_base.specs.Sets.{IsWords, holds}
use Rattle.net_base.specs.Steps.{◌>>=◌}
use Rattle.policy_tokens.specs.declared.fault.PolicyFault.TheVariants.{Unknown}
use Rattle.policy_tokens.specs.declared.token.Token.{Token}
use Rattle.policy_tokens.specs.Places.{place_of}
use Rattle.policy_tokens.specs.Tokens.{tokens_of}
use Rattle.policy_grammar.specs.declared.lexeme.Lexeme.{Lexeme}
use Rattle.policy_grammar.specs.Raw.{Step, Item}
use Rattle.policy_grammar.specs.Lexemes.{lexeme_of, lexemes_of}
use Rattle.policy_grammar.specs.Deep.{first_deep}
use Rattle.grammar_law.specs.Grammar.{IsRanked, IsPolicy}
use Rattle.policy_rules.specs.Checks.{text, all_learnt}
use Rattle.policy_rules.specs.KnownNames.{Names, set_named, net_names}
use Rattle.policy_rules.specs.Ranks.{broken_rank}
use Rattle.policy_base.specs.declared.policy.Origin.{Origin}
use Rattle.policy_base.specs.Policies.{PlainPolicy}
use Rattle.policy_values.specs.Built.{ranking_of_steps}
use Rattle.policy_parser.specs.Spelled.{spelled}
use Rattle.policy_law.specs.Told.{first, told}
use Rattle.policy_law.specs.Trees.{Expression, Written, ranked_tree, policy_tree, postfix, item_of}
use Rattle.policy_law.specs.Ranks.{ranks_under}
use Rattle.policy_law.specs.Senses.{Sense, located, set_of_names, sense_of, unknown_in}
use Rattle.policy_law.specs.Values.{ranking}
use Rattle.policy_law.specs.Meaning.{meaning}
use Rattle.policy_law.specs.InOrder.{PlacesInOrder}
use Rattle.policy_law.specs.Texts.{IsPolicyTextOf}
use Rattle.net_base.specs.declared.limits.TheConstants.{LOCATIONS}

-- the steps that the grammar writes as some tokens are those of the tree that it finds there
abbrev pub StepsAreTrees : Type 0
StepsAreTrees = (steps : List Step) (tokens : List Lexeme) (p : IsRanked steps tokens) → postfix (ranked_tree p) ≡ steps

-- and so are the items
abbrev pub ItemsAreTrees : Type 0
ItemsAreTrees = (items : List Item) (tokens : List Lexeme) (p : IsPolicy items tokens) → map item_of (policy_tree p) ≡ items

-- the `>>` that is told is the first under an `or` or a `not`
abbrev pub FirstRankIsTold : Type 0
FirstRankIsTold = (e : Expression) → broken_rank (postfix e) ≡ first (ranks_under e)

-- the names that are known of some items stand for what they do in the sense of these
abbrev pub NamesHaveTheirSense : Type 0
NamesHaveTheirSense = (net : PlainNet) (bytes : List ℕ) (items : List Written) (known : Names) → all_learnt bytes (net_names net) (map item_of items) ≡ Ok known
    → (l : Lexeme) → set_named known (text bytes l) ≡ sense_of net bytes items l

-- a list of names has exactly the locations that some name of it stands for
abbrev pub ListsHoldTheirNames : Type 0
ListsHoldTheirNames = (sense : Sense) (names : List Lexeme) (l : ℕ) → l < LOCATIONS → holds (set_of_names sense names) l ≡ list_any (λ name. holds (located (sense name)) l) names

-- the steps of an expression make its value, or the first of its names that stands for nothing is told
abbrev pub ExpressionsHaveTheirValue : Type 0
ExpressionsHaveTheirValue = (net : PlainNet) (bytes : List ℕ) (known : Names) (sense : Sense) → ((l : Lexeme) → set_named known (text bytes l) ≡ sense l)
    → (e : Expression) → ranking_of_steps bytes net known (postfix e) ≡ (told Unknown (unknown_in sense e) >>= λ _. Ok (ranking net sense e))

-- the places that break a rule are listed in the order of the text
abbrev pub PlacesAreInOrder : Type 0
PlacesAreInOrder = (net : PlainNet) (bytes : List ℕ) (items : List Item) (tokens : List Lexeme) (p : IsPolicy items tokens) → PlacesInOrder net bytes (policy_tree p) tokens

-- A text whose tokens the grammar writes as a policy spells what the policy means: its value where it breaks no rule, and
-- otherwise the fault of the first rule that it breaks, at the first place.
abbrev pub TextsSpellTheirMeaning : Type 0
TextsSpellTheirMeaning = (net : PlainNet) (bytes : List ℕ) (tokens : List Token) (items : List Item) → tokens_of bytes ≡ Ok tokens
    → first_deep 0 (lexemes_of bytes tokens (place_of bytes (length bytes))) ≡ None
    → (p : IsPolicy items (map (lexeme_of bytes) tokens)) → spelled net bytes ≡ meaning net bytes (policy_tree p)

-- A text spells a policy only where its tokens are one by the grammar, and this one means it.
abbrev pub SpelledPoliciesAreMeant : Type 0
SpelledPoliciesAreMeant = (net : PlainNet) (bytes : List ℕ) (spelt : PlainPolicy) → spelled net bytes ≡ Ok spelt
    → (tokens : List Token) × (items : List Item) × (p : IsPolicy items (map (lexeme_of bytes) tokens)) × (tokens_of bytes ≡ Ok tokens) × (meaning net bytes (policy_tree p) ≡ Ok spelt)

-- the policy that a text spells is the one that it means
abbrev pub PoliciesAreMeant : Type 0
PoliciesAreMeant = (net : PlainNet) (bytes : List ℕ) (p : PlainPolicy) → spelled net bytes ≡ Ok p → IsPolicyTextOf net bytes p

-- a text that means a policy spells it
abbrev pub MeantPoliciesAreSpelled : Type 0
MeantPoliciesAreSpelled = (net : PlainNet) (bytes : List ℕ) (p : PlainPolicy) → IsPolicyTextOf net bytes p → spelled net bytes ≡ Ok p

-- a text means one policy at most
abbrev pub TextsMeanOnePolicy : Type 0
TextsMeanOnePolicy = (net : PlainNet) (bytes : List ℕ) (p q : PlainPolicy) → IsPolicyTextOf net bytes p → IsPolicyTextOf net bytes q → p ≡ q

-- The locations of each `originate` item are a set as the program keeps it.
abbrev pub OriginsAreSets : Type 0
OriginsAreSets = (net : PlainNet) (bytes : List ℕ) (p : PlainPolicy) (o : Origin) → IsPolicyTextOf net bytes p → IsIn p.origins o → IsWords o.at
