-- Which texts are policies, and what they mean, without which fault is told of others.
use Rattle.std.specs.Prelude.{◌≡◌, ℕ, ◌+◌, ◌≤◌, ◌||◌, Bool, true, false, IsTrue, IsUtf8, is_some, List, [], ◌∷◌, length, map, None, Some, Ok, ⊤}
use Rattle.std.specs.List.{AllByRecursion}
use Rattle.net_base.specs.declared.loc.LocSet.{LocSet}
use Rattle.net_base.specs.Network.{PlainNet}
use Rattle.net_base.specs.Prefixes.{PlainPrefix}
use Rattle.net_base.specs.PrefixText.{prefix_spelled, length_number}
use Rattle.policy_words.specs.declared.word.CallWord.TheVariants.{Path}
use Rattle.policy_base.specs.Policies.{PlainPolicy, IsPolicy as IsLawful}
use Rattle.policy_tokens.specs.declared.limits.TheConstants.{CALLS, DEFINITIONS, PLACES}
use Rattle.policy_tokens.specs.declared.token.Token.{Token}
use Rattle.policy_grammar.specs.declared.lexeme.Lexeme.{Lexeme}
use Rattle.policy_grammar.specs.Deep.{first_deep}
use Rattle.policy_grammar.specs.Lexemes.{lexeme_of}
use Rattle.policy_grammar.specs.Raw.{Arg, Arg as arg, RawPattern}
use Rattle.policy_grammar.specs.Raw.RawPattern.{All, Only, UpTo}
use Rattle.grammar_law.specs.Grammar.{IsPolicy}
use Rattle.grammar_law.specs.Spans.{IsCut}
use Rattle.policy_rules.specs.Checks.{text}
use Rattle.policy_rules.specs.Origins.{has_peer}
use Rattle.policy_law.specs.Trees.{Expression, call, above, either, both, negated, Written, define, originate, state, item_of}
use Rattle.policy_law.specs.Senses.{Sense, below, sense_of}
use Rattle.policy_law.specs.Figures.{prefix_of}
use Rattle.policy_law.specs.Values.{policy}
use Rattle.policy_law.specs.Limits.{calls}

-- ---- names and figures

-- the name stands for something
abbrev pub IsKnown : Sense → Lexeme → Type 0
IsKnown sense name = IsTrue (is_some (sense name))

-- each name of a set does
abbrev pub AreKnown : Sense → Arg → Type 0
AreKnown sense arg.Any = ⊤
AreKnown sense (arg.Names names) = AllByRecursion (IsKnown sense) names

-- the name stands for routers alone
abbrev pub AreRouters : PlainNet → Sense → Lexeme → Type 0
AreRouters net sense name = (s : LocSet) × (sense name ≡ Some s) × (has_peer net s ≡ false)

-- the figure spells a prefix
abbrev pub IsPrefixText : List ℕ → Lexeme → Type 0
IsPrefixText bytes figure = (p : PlainPrefix) × (prefix_spelled (text bytes figure) ≡ Ok p)

-- the figures of a pattern spell a prefix, and a length from that of the prefix to 32
abbrev pub IsPatternText : List ℕ → RawPattern → Type 0
IsPatternText bytes All = ⊤
IsPatternText bytes (Only figure) = IsPrefixText bytes figure
IsPatternText bytes (UpTo figure upto) = IsPrefixText bytes figure × (n : ℕ) × (length_number (text bytes upto) ≡ Some n) × ((prefix_of bytes figure).len ≤ n) × (n ≤ 32)

-- ---- expressions

-- there is a `>>` in the expression, or between the sets of a call
abbrev pub is_ranked : Expression → Bool
is_ranked (call c) = is_some c.above
is_ranked (above a p b) = true
is_ranked (either a b) = is_ranked a || is_ranked b
is_ranked (both a b) = is_ranked a || is_ranked b
is_ranked (negated a) = is_ranked a

-- Each name stands for something, no `path` has too many places, and no `>>` stands under an `or` or a `not`.
abbrev pub IsFine : Sense → Expression → Type 0
IsFine sense (call c) = AllByRecursion (AreKnown sense) c.args × (c.word ≡ Path → length c.args ≤ PLACES)
IsFine sense (above a p b) = IsFine sense a × IsFine sense b
IsFine sense (either a b) = IsFine sense a × IsFine sense b × (is_ranked a ≡ false) × (is_ranked b ≡ false)
IsFine sense (both a b) = IsFine sense a × IsFine sense b
IsFine sense (negated a) = IsFine sense a × (is_ranked a ≡ false)

-- ---- items

-- An item keeps the rules below those above it, the last of which comes first: names stand for something above, a group has a name
-- that stands for nothing there, only routers originate, and a statement hasn't too many calls.
abbrev pub IsFineBelow : PlainNet → List ℕ → List Written → Written → Type 0
IsFineBelow net bytes above' (define group members) = (below net bytes above' group ≡ None) × AllByRecursion (IsKnown (below net bytes above')) members
IsFineBelow net bytes above' (originate prefix names) = IsPrefixText bytes prefix × AllByRecursion (AreRouters net (below net bytes above')) names
IsFineBelow net bytes above' (state patterns e from) =
    AllByRecursion (IsPatternText bytes) patterns × IsFine (below net bytes above') e × AreKnown (below net bytes above') from × (calls e ≤ CALLS)

abbrev pub AreFine : PlainNet → List ℕ → List Written → List Written → Type 0
AreFine net bytes above' [] = ⊤
AreFine net bytes above' (x ∷ xs) = IsFineBelow net bytes above' x × AreFine net bytes (x ∷ above') xs

-- ---- texts

-- The bytes are a policy text that means this policy for the network: their tokens are written as some items by the grammar, each of
-- which keeps the rules, and the policy is the value of these, within the limits and with no prefix originated twice.
pub record IsPolicyTextOf (net : PlainNet) (bytes : List ℕ) (p : PlainPolicy) : Type 0 where
  pub tokens : List Token
  pub utf8 : IsUtf8 bytes
  pub cut : IsCut bytes tokens
  pub shallow : first_deep 0 (map (lexeme_of bytes) tokens) ≡ None
  pub items : List Written
  pub written : IsPolicy (map item_of items) (map (lexeme_of bytes) tokens)
  pub fine : AreFine net bytes [] items
  pub value : policy net bytes (sense_of net bytes items) items ≡ p
  pub lawful : IsLawful p
  -- the other items are groups
  pub groups : length items ≤ DEFINITIONS + length p.statements + length p.origins
