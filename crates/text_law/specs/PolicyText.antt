-- What a policy text means for a network: the grammar of policies, and in each rule the value of what is written. A name
-- stands for what the network or a group above it says. A text that passes a limit means something, too: the program
-- refuses it.
use Rattle.std.specs.Prelude.{◌≡◌, ℕ, suc, ◌≤◌, IsUtf8, List, [], ◌∷◌, ◌++◌, map, fold, Some, None, if◌then◌else◌}
use Rattle.std.specs.Fmt.{decimal}
use Rattle.std.specs.Str.{bytes_eq}
use Rattle.net_base.specs.declared.loc.LocSet.{LocSet}
use Rattle.net_base.specs.Network.{PlainNet}
use Rattle.net_base.specs.NetSets.{locations}
use Rattle.net_base.specs.Prefixes.{PlainPrefix, IsPrefix, PlainPattern, only}
use Rattle.net_base.specs.SetOperations.{no_location, union_of}
use Rattle.text_parts.specs.Texts.{prefix_text}
use Rattle.policy_words.specs.declared.word.SetCall.{SetCall}
use Rattle.policy_base.specs.declared.call.Call.TheVariants as calls
use Rattle.policy_words.specs.declared.word.CallWord.TheVariants.{Any, Drop, Internal, Link, Path, Of}
use Rattle.policy_base.specs.declared.policy.FromSet.{FromSet}
use Rattle.policy_base.specs.declared.policy.FromSet.TheVariants as from_set
use Rattle.policy_base.specs.declared.policy.Origin.{Origin}
use Rattle.policy_base.specs.Policies.{Ranking, call as one_call, prefer, either, both, negated, PlainStatement, PlainPolicy}
use Rattle.policy_tokens.specs.declared.token.Token.{Token}
use Rattle.policy_grammar.specs.declared.lexeme.Lexeme.{Lexeme}
use Rattle.policy_grammar.specs.declared.symbol.Symbol.TheVariants as symbol
use Rattle.policy_grammar.specs.Lexemes.{lexeme_of}
use Rattle.policy_rules.specs.Checks.{text}
use Rattle.policy_values.specs.Built.{ranked_sets}
use Rattle.grammar_law.specs.Grammar.{Is, IsList}
use Rattle.grammar_law.specs.Spans.{IsCut}
use Rattle.policy_law.specs.Senses.{Sense, or_else, location_named}

-- ---- names and sets of locations

-- NAME: it stands for these locations
pub data IsName (sense : Sense) : LocSet → List Lexeme → Type 0 where
  name : {n : Lexeme} {s : LocSet} → Is symbol.Name n → sense n ≡ Some s → IsName sense s (n ∷ [])

-- the locations of some sets
abbrev pub union : List LocSet → LocSet
union sets = fold union_of no_location sets

-- NAME { "," NAME }: all locations of the names
pub data AreNames (sense : Sense) : LocSet → List Lexeme → Type 0 where
  names : {sets : List LocSet} {ts : List Lexeme} → IsList symbol.Comma (IsName sense) sets ts → AreNames sense (union sets) ts

-- "{" NAME { "," NAME } "}"
pub data IsGroup (sense : Sense) : LocSet → List Lexeme → Type 0 where
  group : {o c : Lexeme} {s : LocSet} {ts : List Lexeme} → Is symbol.BraceOpen o → AreNames sense s ts → Is symbol.BraceClose c
      → IsGroup sense s (o ∷ ts ++ c ∷ [])

-- set = "any" | NAME { "," NAME }
pub data IsSet (net : PlainNet) (sense : Sense) : LocSet → List Lexeme → Type 0 where
  any : {l : Lexeme} → Is (symbol.Call Any) l → IsSet net sense (locations net) (l ∷ [])
  names : {s : LocSet} {ts : List Lexeme} → AreNames sense s ts → IsSet net sense s ts

-- one = "any" | NAME | "{" NAME { "," NAME } "}"
pub data IsOne (net : PlainNet) (sense : Sense) : LocSet → List Lexeme → Type 0 where
  any : {l : Lexeme} → Is (symbol.Call Any) l → IsOne net sense (locations net) (l ∷ [])
  name : {s : LocSet} {ts : List Lexeme} → IsName sense s ts → IsOne net sense (union (s ∷ [])) ts
  group : {s : LocSet} {ts : List Lexeme} → IsGroup sense s ts → IsOne net sense s ts

-- ---- expressions

-- a call
pub data IsCall (net : PlainNet) (sense : Sense) : Ranking → List Lexeme → Type 0 where
  any : {w : Lexeme} → Is (symbol.Call Any) w → IsCall net sense (one_call calls.Any) (w ∷ [])
  drop : {w : Lexeme} → Is (symbol.Call Drop) w → IsCall net sense (one_call calls.Drop) (w ∷ [])
  internal : {w : Lexeme} → Is (symbol.Call Internal) w → IsCall net sense (one_call calls.Internal) (w ∷ [])
  -- ( "avoid" | "through" | "notransit" | "start" | "end" | "exit" | "enter" ) "(" set { ">>" set } ")"
  sets : {c : SetCall} {w o e : Lexeme} {ss : List LocSet} {ts : List Lexeme}
      → Is (symbol.Call (Of c)) w → Is symbol.RoundOpen o → IsList symbol.Above (IsSet net sense) ss ts → Is symbol.RoundClose e
      → IsCall net sense (ranked_sets c ss) (w ∷ o ∷ ts ++ e ∷ [])
  -- "link" "(" one "," one ")"
  link : {w o m e : Lexeme} {a b : LocSet} {ts us : List Lexeme}
      → Is (symbol.Call Link) w → Is symbol.RoundOpen o → IsOne net sense a ts → Is symbol.Comma m → IsOne net sense b us → Is symbol.RoundClose e
      → IsCall net sense (one_call (calls.Link a b)) (w ∷ o ∷ ts ++ m ∷ us ++ e ∷ [])
  -- "path" "(" one "," one { "," one } ")"
  path : {w o m e : Lexeme} {a : LocSet} {ss : List LocSet} {ts us : List Lexeme}
      → Is (symbol.Call Path) w → Is symbol.RoundOpen o → IsOne net sense a ts → Is symbol.Comma m
      → IsList symbol.Comma (IsOne net sense) ss us → Is symbol.RoundClose e
      → IsCall net sense (one_call (calls.Path (a ∷ ss))) (w ∷ o ∷ ts ++ m ∷ us ++ e ∷ [])

-- An expression whose operators bind at least so tightly: `>>` 0, `or` 1, `and` 2, `not` 3, and a call or a bracket 4. Operators
-- group to the left.
pub data IsRanked (net : PlainNet) (sense : Sense) : ℕ → Ranking → List Lexeme → Type 0 where
  above : {a b : Ranking} {j : Lexeme} {ts us : List Lexeme} → IsRanked net sense 0 a ts → Is symbol.Above j → IsRanked net sense 1 b us
      → IsRanked net sense 0 (prefer a b) (ts ++ j ∷ us)
  or : {a b : Ranking} {j : Lexeme} {ts us : List Lexeme} → IsRanked net sense 1 a ts → Is symbol.Or j → IsRanked net sense 2 b us
      → IsRanked net sense 1 (either a b) (ts ++ j ∷ us)
  and : {a b : Ranking} {j : Lexeme} {ts us : List Lexeme} → IsRanked net sense 2 a ts → Is symbol.And j → IsRanked net sense 3 b us
      → IsRanked net sense 2 (both a b) (ts ++ j ∷ us)
  not : {a : Ranking} {n : Lexeme} {ts : List Lexeme} → Is symbol.Not n → IsRanked net sense 4 a ts → IsRanked net sense 3 (negated a) (n ∷ ts)
  bracket : {a : Ranking} {o c : Lexeme} {ts : List Lexeme} → Is symbol.RoundOpen o → IsRanked net sense 0 a ts → Is symbol.RoundClose c
      → IsRanked net sense 4 a (o ∷ ts ++ c ∷ [])
  call : {a : Ranking} {ts : List Lexeme} → IsCall net sense a ts → IsRanked net sense 4 a ts
  tighter : {n : ℕ} {a : Ranking} {ts : List Lexeme} → IsRanked net sense (suc n) a ts → IsRanked net sense n a ts

-- ---- prefixes

-- FIGURE: it is the text of this prefix
pub record IsFigure (bytes : List ℕ) (p : PlainPrefix) (f : Lexeme) : Type 0 where
  pub figure : Is symbol.Figure f
  pub written : text bytes f ≡ prefix_text p
  pub lawful : IsPrefix p

-- pattern = FIGURE [ "le" FIGURE ]: the second figure is a length from that of the prefix to 32
pub data IsPattern (bytes : List ℕ) : PlainPattern → List Lexeme → Type 0 where
  one : {p : PlainPrefix} {f : Lexeme} → IsFigure bytes p f → IsPattern bytes (only p) (f ∷ [])
  up_to : {p : PlainPrefix} {n : ℕ} {f l g : Lexeme} → IsFigure bytes p f → Is symbol.Le l → Is symbol.Figure g → text bytes g ≡ decimal n
      → p.len ≤ n → n ≤ 32 → IsPattern bytes (record { base = p; upto = n }) (f ∷ l ∷ g ∷ [])

-- predicate = "true" | pattern { "or" pattern }
pub data ArePatterns (bytes : List ℕ) : List PlainPattern → List Lexeme → Type 0 where
  all : {l : Lexeme} → Is symbol.True l → ArePatterns bytes (record { base = record { bits = 0; len = 0 }; upto = 32 } ∷ []) (l ∷ [])
  some : {ps : List PlainPattern} {ts : List Lexeme} → IsList symbol.Or (IsPattern bytes) ps ts → ArePatterns bytes ps ts

-- ---- items

-- [ "from" ( "any" | NAME { "," NAME } ) ]
pub data IsFrom (sense : Sense) : FromSet → List Lexeme → Type 0 where
  left_out : IsFrom sense from_set.Any []
  any : {f l : Lexeme} → Is symbol.From f → Is (symbol.Call Any) l → IsFrom sense from_set.Any (f ∷ l ∷ [])
  names : {f : Lexeme} {s : LocSet} {ts : List Lexeme} → Is symbol.From f → AreNames sense s ts → IsFrom sense (from_set.Named s) (f ∷ ts)

-- one name more, with its locations
abbrev pub with_name : List ℕ → Lexeme → LocSet → Sense → Sense
with_name bytes n s sense l = or_else (sense l) (if bytes_eq (text bytes l) (text bytes n) then Some s else None)

-- Items, above which names have this sense, with the `originate` items and the statements that they mean.
pub data AreItems (net : PlainNet) (bytes : List ℕ) : Sense → List Origin → List PlainStatement → List Lexeme → Type 0 where
  none : {sense : Sense} → AreItems net bytes sense [] [] []
  -- "define" NAME "=" "{" NAME { "," NAME } "}" ";": the name is new, and stands for the group in the items that follow
  define : {sense : Sense} {os : List Origin} {ss : List PlainStatement} {s : LocSet} {d n e c : Lexeme} {ts us : List Lexeme}
      → Is symbol.Define d → Is symbol.Name n → sense n ≡ None → Is symbol.Equals e → IsGroup sense s ts → Is symbol.Semicolon c
      → AreItems net bytes (with_name bytes n s sense) os ss us → AreItems net bytes sense os ss (d ∷ n ∷ e ∷ ts ++ c ∷ [] ++ us)
  -- "originate" FIGURE "at" NAME { "," NAME } ";"
  originate : {sense : Sense} {os : List Origin} {ss : List PlainStatement} {p : PlainPrefix} {s : LocSet} {o f t c : Lexeme} {ts us : List Lexeme}
      → Is symbol.Originate o → IsFigure bytes p f → Is symbol.At t → AreNames sense s ts → Is symbol.Semicolon c
      → AreItems net bytes sense os ss us → AreItems net bytes sense (record { prefix = p; at = s } ∷ os) ss (o ∷ f ∷ t ∷ ts ++ c ∷ [] ++ us)
  -- predicate "=>" ranked [ "from" .. ] ";"
  state : {sense : Sense} {os : List Origin} {ss : List PlainStatement} {ps : List PlainPattern} {r : Ranking} {from : FromSet}
      {a c : Lexeme} {ts us vs ws : List Lexeme}
      → ArePatterns bytes ps ts → Is symbol.Arrow a → IsRanked net sense 0 r us → IsFrom sense from vs → Is symbol.Semicolon c
      → AreItems net bytes sense os ss ws
      → AreItems net bytes sense os (record { patterns = ps; ranked = r; from = from } ∷ ss) (ts ++ a ∷ us ++ vs ++ c ∷ [] ++ ws)

-- The bytes are a policy text that means this policy for the network.
pub record MeansPolicy (net : PlainNet) (bytes : List ℕ) (policy : PlainPolicy) : Type 0 where
  pub utf8 : IsUtf8 bytes
  pub tokens : List Token
  pub cut : IsCut bytes tokens
  pub items : AreItems net bytes (λ l. location_named net (text bytes l)) policy.origins policy.statements (map (lexeme_of bytes) tokens)
