-- What stands in the order of the text.
use Rattle.std.proofs.Common.{◌≡◌, List, [], ◌∷◌, ◌++◌, refl, ap, subst}
use Rattle.std.specs.List.{flat_map}
use Rattle.net_base.specs.declared.place.Place.{Place}
use Rattle.policy_grammar.specs.declared.lexeme.Lexeme.{Lexeme}
use Rattle.policy_grammar.specs.declared.symbol.Symbol.{Symbol}
use Rattle.policy_grammar.specs.Raw.{Item}
use Rattle.grammar_law.specs.Grammar.{Rule, IsMore, IsList, IsItem, IsPolicy}
use Rattle.policy_law.specs.InOrder.{StandIn}
use Rattle.policy_law.specs.Trees.{Written, item_tree, policy_tree}
use Rattle.policy_law.specs.Senses.{item_by_item}

pub no_place : (ls : List Lexeme) → StandIn [] ls
no_place [] = StandIn.none
no_place (l ∷ ls) = StandIn.other (no_place ls)

pub stand_append : {ps : List Place} {ls : List Lexeme} → StandIn ps ls → (qs : List Place) (ms : List Lexeme) → StandIn qs ms → StandIn (ps ++ qs) (ls ++ ms)
stand_append StandIn.none qs ms b = b
stand_append (StandIn.other a) qs ms b = StandIn.other (stand_append a qs ms b)
stand_append (StandIn.here a) qs ms b = StandIn.here (stand_append a qs ms b)

-- tokens behind
pub then_none : {ps : List Place} {ls : List Lexeme} → StandIn ps ls → (ms : List Lexeme) → StandIn ps (ls ++ ms)
then_none StandIn.none ms = no_place ms
then_none (StandIn.other a) ms = StandIn.other (then_none a ms)
then_none (StandIn.here a) ms = StandIn.here (then_none a ms)

-- tokens before
pub none_then : (ls : List Lexeme) {ps : List Place} {ms : List Lexeme} → StandIn ps ms → StandIn ps (ls ++ ms)
none_then [] a = a
none_then (l ∷ ls) a = StandIn.other (none_then ls a)

-- what is found in each part of a list stands in the tokens of the list
abbrev pub Found : {A : Type 0} → (A → List Place) → Rule A → Type 0
Found {A} found One = (x : A) (ts : List Lexeme) → One x ts → StandIn (found x) ts

pub more_found : {A : Type 0} (found : A → List Place) (joint : Symbol) (One : Rule A) → Found found One → (xs : List A) (ts : List Lexeme) → IsMore joint One xs ts → StandIn (flat_map found xs) ts
more_found found joint One one xs ts p = by p
  where
    by : {xs : List _} {ts : List Lexeme} → IsMore joint One xs ts → StandIn (flat_map found xs) ts
    by IsMore.none = StandIn.none
    by (IsMore.more {x = x} {xs = xs} {ts = ts} {us = us} j o m) = StandIn.other (stand_append (one x ts o) (flat_map found xs) us (by m))

pub list_found : {A : Type 0} (found : A → List Place) (joint : Symbol) (One : Rule A) → Found found One → (xs : List A) (ts : List Lexeme) → IsList joint One xs ts → StandIn (flat_map found xs) ts
list_found found joint One one xs ts (IsList.list {x = x} {xs = ys} {ts = us} {us = vs} o m) = stand_append (one x us o) (flat_map found ys) vs (more_found found joint One one ys vs m)

-- ---- items

-- what is found in an item stands in its tokens
abbrev pub FoundInItems : (List Written → Written → List Place) → Type 0
FoundInItems found = (above : List Written) (x : Item) (ts : List Lexeme) (p : IsItem x ts) → StandIn (found above (item_tree p)) ts

pub items_found : (found : List Written → Written → List Place) → FoundInItems found
    → (above : List Written) (xs : List Item) (ts : List Lexeme) (p : IsPolicy xs ts) → StandIn (item_by_item found above (policy_tree p)) ts
items_found found one above xs ts IsPolicy.none = StandIn.none
items_found found one above xs ts (IsPolicy.more {x = y} {xs = ys} {ts = us} {us = vs} i p) =
    stand_append (one above y us i) (item_by_item found (item_tree i ∷ above) (policy_tree p)) vs (items_found found one (item_tree i ∷ above) ys vs p)

each_item : {A : Type 0} (found : Written → List A) (above xs : List Written) → item_by_item (λ _. found) above xs ≡ flat_map found xs
each_item found above [] = refl
each_item {A} found above (x ∷ xs) = ap (λ (ys : List A). found x ++ ys) (each_item found (x ∷ above) xs)

pub all_found : (found : Written → List Place) → FoundInItems (λ _. found) → (xs : List Item) (ts : List Lexeme) (p : IsPolicy xs ts) → StandIn (flat_map found (policy_tree p)) ts
all_found found one xs ts p = subst (λ (ps : List Place). StandIn ps ts) (each_item found [] (policy_tree p)) (items_found (λ _. found) one [] xs ts p)
