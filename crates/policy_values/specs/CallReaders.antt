-- Calls that are read straight to what they come to, part by part.
use Rattle.std.specs.Prelude.{ℕ, ◌+◌, nat_le, List, [], ◌∷◌, ◌++◌, length, Option, None, Result, Ok, if◌then◌else◌}
use Rattle.policy_tokens.specs.declared.limits.TheConstants.{PLACES}
use Rattle.net_base.specs.declared.loc.LocSet.{LocSet}
use Rattle.policy_tokens.specs.declared.kind.Kind.TheVariants as kind
use Rattle.net_base.specs.declared.place.Place.{Place}
use Rattle.net_base.specs.Network.{PlainNet}
use Rattle.net_base.specs.Steps.{◌>>=◌}
use Rattle.policy_words.specs.declared.word.SetCall.{SetCall}
use Rattle.policy_base.specs.declared.call.Call.{Call}
use Rattle.policy_base.specs.declared.call.Call.TheVariants.{Any, Drop, Internal, Link, Path}
use Rattle.policy_base.specs.Policies.{Ranking, call}
use Rattle.policy_tokens.specs.declared.fault.PolicyFault.{PolicyFault}
use Rattle.policy_grammar.specs.declared.lexeme.Lexeme.{Lexeme}
use Rattle.policy_grammar.specs.declared.symbol.Symbol.{Symbol}
use Rattle.policy_grammar.specs.declared.symbol.Symbol.TheVariants as symbol
use Rattle.policy_words.specs.declared.word.CallWord.{CallWord}
use Rattle.policy_words.specs.declared.word.CallWord.TheVariants as word
use Rattle.policy_grammar.specs.Reading.{Read, after, chain}
use Rattle.policy_grammar.specs.Calls.{set_at, one_at, above_at}
use Rattle.policy_rules.specs.KnownNames.{Names}
use Rattle.policy_rules.specs.Counts.{within}
use Rattle.policy_values.specs.declared.call_values.LoneCall.{LoneCall}
use Rattle.policy_values.specs.declared.call_values.LoneCall.TheVariants as lone
use Rattle.policy_values.specs.declared.set_calls.SetsRead.{SetsRead}
use Rattle.policy_values.specs.declared.path_calls.PathPlaces.{PathPlaces}
use Rattle.policy_values.specs.Built.{set_of_arg, ranked_sets}
use Rattle.policy_values.specs.CallValues.{CallValue}
use Rattle.policy_values.specs.Parts.{PartsValue, call_onto}
use Rattle.policy_values.specs.Reads.{over}

-- the call that is a word alone
abbrev pub lone_call : LoneCall → Call
lone_call lone.Any = Any
lone_call lone.Drop = Drop
lone_call lone.Internal = Internal

-- the ranked sets that the program read, or their first unknown name
abbrev pub plain_sets : SetsRead → Result (List LocSet) PolicyFault
plain_sets read = read.names >>= λ _. Ok read.list

-- the sets so far, with one set more: the first unknown name stays
abbrev pub with_set : Result (List LocSet) PolicyFault → Result LocSet PolicyFault → Result (List LocSet) PolicyFault
with_set so_far set = do
  ss ← so_far
  s ← set
  Ok (ss ++ s ∷ [])

-- a call with these ranked sets
abbrev pub sets_value : SetCall → Result (List LocSet) PolicyFault → Result Ranking PolicyFault
sets_value c read = read >>= λ sets. Ok (ranked_sets c sets)

-- a call without places, with this value
abbrev pub placeless : Option Place → Result Ranking PolicyFault → CallValue
placeless above value = record { above = above; places = Ok tt; value = value }

-- a `link` of two sets
abbrev pub linked : Result LocSet PolicyFault → Result LocSet PolicyFault → Result Ranking PolicyFault
linked a b = do
  x ← a
  y ← b
  Ok (call (Link x y))

-- how many places of a `path` were read so far, and their sets or their first unknown name
pub record PlacesValue : Type 0 where
  pub count : ℕ
  pub sets : Result (List LocSet) PolicyFault

abbrev pub plain_places : PathPlaces → PlacesValue
plain_places p = record { count = p.count; sets = p.names >>= λ _. Ok p.list }

-- no place was read so far
abbrev pub no_places : PlacesValue
no_places = record { count = 0; sets = Ok [] }

-- the sets of so many places that were read before, with that of one place more, if a `path` may have it
abbrev pub kept_within : ℕ → ℕ → Result (List LocSet) PolicyFault → Result LocSet PolicyFault → Result (List LocSet) PolicyFault
kept_within most n sets set = do
  ss ← sets
  s ← set
  Ok (if nat_le most n then ss else ss ++ s ∷ [])

abbrev pub with_place : PlacesValue → Result LocSet PolicyFault → PlacesValue
with_place so_far set = record { count = so_far.count + 1; sets = kept_within PLACES so_far.count so_far.sets set }

-- the value of a `path` with so many places
abbrev pub path_ranking : ℕ → List LocSet → Ranking
path_ranking n sets = if nat_le n PLACES then call (Path sets) else call Drop

abbrev pub path_value : PlacesValue → CallValue
path_value p = record { above = None; places = within kind.Places PLACES p.count; value = p.sets >>= λ sets. Ok (path_ranking p.count sets) }

-- a call that was read, on what was read before it
abbrev pub taken : Read CallValue → PartsValue → Read PartsValue
taken read v = read >>= λ x. Ok (call_onto x.0 v, x.1)

module _ (bytes : List ℕ) (net : PlainNet) (known : Names) where
  abbrev pub set_link : Lexeme → Result (List LocSet) PolicyFault → List Lexeme → Read (Result (List LocSet) PolicyFault)
  set_link joint so_far ls = do
    x ← over (set_of_arg bytes net known) (set_at ls)
    Ok (with_set so_far x.0, x.1)

  abbrev pub place_link : Lexeme → PlacesValue → List Lexeme → Read PlacesValue
  place_link joint places ls = do
    x ← over (set_of_arg bytes net known) (one_at ls)
    Ok (with_place places x.0, x.1)

  -- "(" set { ">>" set } ")"
  unfoldable pub sets_read : SetCall → List Lexeme → Read CallValue
  sets_read c ls = do
    inside ← after symbol.RoundOpen ls
    x ← over (set_of_arg bytes net known) (set_at inside)
    all ← chain symbol.Above set_link (length x.1) (with_set (Ok []) x.0) x.1
    rest ← after symbol.RoundClose all.1
    Ok (placeless (above_at x.1) (sets_value c all.0), rest)

  -- the set of a place behind a symbol
  abbrev pub one_behind : Symbol → List Lexeme → Read (Result LocSet PolicyFault)
  one_behind s ls = do
    rest ← after s ls
    over (set_of_arg bytes net known) (one_at rest)

  -- "(" one "," one ")"
  unfoldable pub link_read : List Lexeme → Read CallValue
  link_read ls = do
    a ← one_behind symbol.RoundOpen ls
    b ← one_behind symbol.Comma a.1
    rest ← after symbol.RoundClose b.1
    Ok (placeless None (linked a.0 b.0), rest)

  -- "(" one "," one { "," one } ")"
  unfoldable pub path_read : List Lexeme → Read CallValue
  path_read ls = do
    a ← one_behind symbol.RoundOpen ls
    b ← one_behind symbol.Comma a.1
    places ← chain symbol.Comma place_link (length b.1) (with_place (with_place no_places a.0) b.0) b.1
    rest ← after symbol.RoundClose places.1
    Ok (path_value places.0, rest)

  -- what stands behind the word of a call
  abbrev pub behind_read : CallWord → List Lexeme → Read CallValue
  behind_read word.Any ls = Ok (placeless None (Ok (call Any)), ls)
  behind_read word.Drop ls = Ok (placeless None (Ok (call Drop)), ls)
  behind_read word.Internal ls = Ok (placeless None (Ok (call Internal)), ls)
  behind_read word.Link ls = link_read ls
  behind_read word.Path ls = path_read ls
  behind_read (word.Of c) ls = sets_read c ls
