-- What names stand for.
use Rattle.std.specs.Prelude.{ℕ, List, [], ◌∷◌, ◌++◌, fold, reverse, Option, Some, None, option_map, if◌then◌else◌}
use Rattle.std.specs.List.{flat_map, position_from}
use Rattle.std.specs.Str.{bytes_eq}
use Rattle.net_base.specs.declared.loc.LocSet.{LocSet}
use Rattle.net_base.specs.declared.net.Site.{Site}
use Rattle.net_base.specs.declared.place.Place.{Place}
use Rattle.net_base.specs.Network.{PlainNet, sites}
use Rattle.policy_grammar.specs.declared.lexeme.Lexeme.{Lexeme}
use Rattle.policy_grammar.specs.Raw.{Arg, Arg as arg}
use Rattle.policy_rules.specs.Checks.{text}
use Rattle.net_base.specs.SetOperations.{no_location, with_location, union_of}
use Rattle.policy_law.specs.Trees.{Expression, call, above, either, both, negated, Written, define, originate, state}

-- what each token stands for as a name: a set of locations, or nothing
abbrev pub Sense : Type 0
Sense = Lexeme → Option LocSet

abbrev pub or_else : {A : Type 0} → Option A → Option A → Option A
or_else (Some x) y = Some x
or_else None y = y

-- the locations of what a name stands for
abbrev pub located : Option LocSet → LocSet
located (Some s) = s
located None = no_location

-- a list of names stands for all locations of its names
abbrev pub set_of_names : Sense → List Lexeme → LocSet
set_of_names sense names = fold (λ s l. union_of s (located (sense l))) no_location names

-- a name of a network stands for the location that has it
abbrev pub location_named : PlainNet → List ℕ → Option LocSet
location_named net name = option_map (with_location no_location) (position_from (λ (s : Site). bytes_eq name s.name) 0 (sites net))

-- What a name stands for below some items, the last of which comes first: a location, or the group that one of them defines
-- under it. A group has all locations of its members, each of which stands for what it does above the group.
abbrev pub stands_for : PlainNet → List ℕ → List Written → List ℕ → Option LocSet
stands_for net bytes [] name = location_named net name
stands_for net bytes (define group members ∷ above') name =
    or_else (stands_for net bytes above' name) (if bytes_eq name (text bytes group) then Some (set_of_names (λ l. stands_for net bytes above' (text bytes l)) members) else None)
stands_for net bytes (originate prefix names ∷ above') name = stands_for net bytes above' name
stands_for net bytes (state patterns e from ∷ above') name = stands_for net bytes above' name

-- the sense of the names of a text below some items, the last of which comes first
abbrev pub below : PlainNet → List ℕ → List Written → Sense
below net bytes above' l = stands_for net bytes above' (text bytes l)

-- the sense of the names in a whole text
abbrev pub sense_of : PlainNet → List ℕ → List Written → Sense
sense_of net bytes items = below net bytes (reverse items)

-- ---- each use of a name stands for something

abbrev pub unless_some : Place → Option LocSet → List Place
unless_some p (Some s) = []
unless_some p None = p ∷ []

-- the place of a name that stands for nothing
abbrev pub unknown : Sense → Lexeme → List Place
unknown sense l = unless_some l.place (sense l)

abbrev pub unknown_in_set : Sense → Arg → List Place
unknown_in_set sense arg.Any = []
unknown_in_set sense (arg.Names names) = flat_map (unknown sense) names

abbrev pub unknown_in : Sense → Expression → List Place
unknown_in sense (call c) = flat_map (unknown_in_set sense) c.args
unknown_in sense (above a p b) = unknown_in sense a ++ unknown_in sense b
unknown_in sense (either a b) = unknown_in sense a ++ unknown_in sense b
unknown_in sense (both a b) = unknown_in sense a ++ unknown_in sense b
unknown_in sense (negated a) = unknown_in sense a

-- Each use of a name in an item that stands for nothing there. The name of a group is no use of it.
abbrev pub unknown_in_item : Sense → Written → List Place
unknown_in_item sense (define group members) = flat_map (unknown sense) members
unknown_in_item sense (originate prefix names) = flat_map (unknown sense) names
unknown_in_item sense (state patterns e from) = unknown_in sense e ++ unknown_in_set sense from

-- ---- a group has a name of its own

abbrev pub if_some : Place → Option LocSet → List Place
if_some p (Some s) = p ∷ []
if_some p None = []

-- the name of a group that stands for something above already
abbrev pub named_again : Sense → Written → List Place
named_again sense (define group members) = if_some group.place (sense group)
named_again sense (originate prefix names) = []
named_again sense (state patterns e from) = []

-- ---- item by item

-- what is found in each item, where those above it are given with the last one first
abbrev pub item_by_item : {A : Type 0} → (List Written → Written → List A) → List Written → List Written → List A
item_by_item found above' [] = []
item_by_item found above' (x ∷ xs) = found above' x ++ item_by_item found (x ∷ above') xs
