-- The text of a policy, item by item.
use Rattle.std.specs.Prelude.{ℕ, ◌+◌, ◌==◌, ◌&&◌, nat_lt, Bool, true, false, List, [], ◌∷◌, ◌++◌, length, codes, if◌then◌else◌}
use Rattle.std.specs.List.{flat_map}
use Rattle.net_base.specs.declared.loc.LocSet.{LocSet}
use Rattle.net_base.specs.declared.net.Site.{Site}
use Rattle.net_base.specs.Network.{PlainNet, sites}
use Rattle.net_base.specs.Prefixes.{PlainPattern}
use Rattle.net_base.specs.Sets.{holds}
use Rattle.text_parts.specs.Texts.{prefix_text, pattern_text}
use Rattle.policy_base.specs.declared.call.Call.{Call}
use Rattle.policy_base.specs.declared.call.Call.TheVariants.{Any, Drop, Internal, Link, Path, Of}
use Rattle.policy_words.specs.Words.{word_text}
use Rattle.policy_base.specs.CallWords.{word_of}
use Rattle.policy_base.specs.declared.policy.FromSet.{FromSet}
use Rattle.policy_base.specs.declared.policy.FromSet.TheVariants as from_set
use Rattle.policy_base.specs.declared.policy.Origin.{Origin}
use Rattle.policy_base.specs.Policies.{Ranking, call, calls, prefer, either, both, negated, PlainStatement, PlainPolicy}

-- the names of those of some sites that are in a set; the first of them is the location l
abbrev pub names_from : LocSet → ℕ → List Site → List (List ℕ)
names_from s l [] = []
names_from s l (x ∷ xs) = if holds s l then x.name ∷ names_from s (l + 1) xs else names_from s (l + 1) xs

-- the names of a set, in order of location
abbrev pub names_in : PlainNet → LocSet → List (List ℕ)
names_in net s = names_from s 0 (sites net)

abbrev pub next_name : List ℕ → List ℕ
next_name name = codes ", " ++ name

-- names joined by a comma and a space
unfoldable pub joined_names : List (List ℕ) → List ℕ
joined_names [] = []
joined_names (n ∷ ns) = n ++ flat_map next_name ns

-- the names are those of all locations
abbrev pub are_all : PlainNet → List (List ℕ) → Bool
are_all net names = length names == length net.routers + length net.peers

-- the set of a call: all locations are `any`
unfoldable pub set_text : PlainNet → List (List ℕ) → List ℕ
set_text net names = if are_all net names then codes "any" else joined_names names

-- several names stand in braces
unfoldable pub braced_names : List (List ℕ) → List ℕ
braced_names (n ∷ []) = n
braced_names ns = codes "{ " ++ joined_names ns ++ codes " }"

-- a place of a `link` or of a `path`: all locations are `any`
unfoldable pub place_text : PlainNet → List (List ℕ) → List ℕ
place_text net names = if are_all net names then codes "any" else braced_names names

abbrev pub next_place : PlainNet → LocSet → List ℕ
next_place net s = codes ", " ++ place_text net (names_in net s)

-- places joined by a comma and a space
unfoldable pub joined_places : PlainNet → List LocSet → List ℕ
joined_places net [] = []
joined_places net (s ∷ ss) = place_text net (names_in net s) ++ flat_map (next_place net) ss

-- the call has sets
abbrev pub has_sets : Call → Bool
has_sets Any = false
has_sets Drop = false
has_sets Internal = false
has_sets _ = true

-- the sets of a call
abbrev pub sets_text : PlainNet → Call → List ℕ
sets_text net Any = []
sets_text net Drop = []
sets_text net Internal = []
sets_text net (Of c s) = set_text net (names_in net s)
sets_text net (Link a b) = joined_places net (a ∷ b ∷ [])
sets_text net (Path ps) = joined_places net ps

-- a call: its word, and its sets in brackets
unfoldable pub call_text : PlainNet → Call → List ℕ
call_text net c = word_text (word_of c) ++ (if has_sets c then codes "(" ++ sets_text net c ++ codes ")" else [])

-- a further set of a call
abbrev pub next_set : PlainNet → LocSet → List ℕ
next_set net s = codes " >> " ++ set_text net (names_in net s)

abbrev pub next_sets : PlainNet → Call → List ℕ
next_sets net c = codes " >> " ++ sets_text net c

-- a call with ranked sets, as `exit(A >> B)`
unfoldable pub calls_text : PlainNet → List Call → List ℕ
calls_text net [] = []
calls_text net (c ∷ cs) = word_text (word_of c) ++ codes "(" ++ sets_text net c ++ flat_map (next_sets net) cs ++ codes ")"

-- a bracket, where one is needed
abbrev pub opening : Bool → List ℕ
opening b = if b then codes "(" else []

abbrev pub closing : Bool → List ℕ
closing b = if b then codes ")" else []

-- a text, in brackets where they are needed
abbrev pub in_brackets : Bool → List ℕ → List ℕ
in_brackets b text = opening b ++ text ++ closing b

-- An expression where what binds less strongly than a number stands in brackets. `>>` binds by 1, `or` by 2, `and` by
-- 3, `not` by 4, and a call by 5.
abbrev pub ranking_text : PlainNet → ℕ → Ranking → List ℕ
ranking_text net least (call c) = call_text net c
ranking_text net least (calls cs) = calls_text net cs
ranking_text net least (prefer a b) = in_brackets (nat_lt 1 least) (ranking_text net 1 a ++ codes " >> " ++ ranking_text net 2 b)
ranking_text net least (either a b) = in_brackets (nat_lt 2 least) (ranking_text net 2 a ++ codes " or " ++ ranking_text net 3 b)
ranking_text net least (both a b) = in_brackets (nat_lt 3 least) (ranking_text net 3 a ++ codes " and " ++ ranking_text net 4 b)
ranking_text net least (negated a) = in_brackets (nat_lt 4 least) (codes "not " ++ ranking_text net 5 a)

-- the pattern of all prefixes
abbrev pub is_everything : PlainPattern → Bool
is_everything p = p.base.bits == 0 && (p.base.len == 0 && p.upto == 32)

abbrev pub next_pattern : PlainPattern → List ℕ
next_pattern p = codes " or " ++ pattern_text p

-- patterns joined by `or`; all prefixes alone are `true`
unfoldable pub patterns_text : List PlainPattern → List ℕ
patterns_text [] = []
patterns_text (p ∷ []) = if is_everything p then codes "true" else pattern_text p
patterns_text (p ∷ ps) = pattern_text p ++ flat_map next_pattern ps

-- the sources that a statement names, if it names some
abbrev pub from_text : PlainNet → FromSet → List ℕ
from_text net from_set.Any = []
from_text net (from_set.Named s) = codes " from " ++ joined_names (names_in net s)

-- a statement: its patterns, its expression, the sources that it names
unfoldable pub statement_line : PlainNet → PlainStatement → List ℕ
statement_line net s = patterns_text s.patterns ++ codes " => " ++ ranking_text net 1 s.ranked ++ from_text net s.from ++ codes ";\n"

-- a prefix with the routers that originate it
unfoldable pub origin_line : PlainNet → Origin → List ℕ
origin_line net o = codes "originate " ++ prefix_text o.prefix ++ codes " at " ++ joined_names (names_in net o.at) ++ codes ";\n"

-- the origins, then the statements, one per line, in order
abbrev pub policy_text : PlainNet → PlainPolicy → List ℕ
policy_text net policy = flat_map (origin_line net) policy.origins ++ flat_map (statement_line net) policy.statements
