-- The places that break a rule stand in the order of the text.
use Rattle.std.proofs.Common.{ℕ, List, [], ◌∷◌, ◌++◌, Bool, true, false, Option, Some, None, Result, Ok, Err, sym, subst, append_assoc, append-nil}
use Rattle.std.specs.Prelude.{nat_le, ◌&&◌}
use Rattle.std.specs.List.{flat_map, list_any}
use Rattle.net_base.specs.declared.loc.LocSet.{LocSet}
use Rattle.net_base.specs.declared.place.Place.{Place}
use Rattle.net_base.specs.declared.prefix_text.PrefixFault.{PrefixFault}
use Rattle.net_base.specs.Network.{PlainNet}
use Rattle.net_base.specs.Prefixes.{PlainPrefix}
use Rattle.net_base.specs.PrefixText.{prefix_spelled, length_number}
use Rattle.policy_grammar.specs.declared.lexeme.Lexeme.{Lexeme}
use Rattle.policy_grammar.specs.declared.symbol.Symbol.TheVariants as symbol
use Rattle.policy_grammar.specs.Raw.{Item, RawCall, RawPattern, Step}
use Rattle.grammar_law.specs.Grammar.{IsName, IsNames, IsGroup, IsSet, IsOne, front_place, IsCall, IsRanked, IsPattern, IsPredicate, IsFrom, IsItem, IsPolicy}
use Rattle.policy_rules.specs.Checks.{text}
use Rattle.policy_law.specs.InOrder.{StandIn, PlacesInOrder}
use Rattle.policy_law.specs.Trees.{Written, ranked_tree, policy_tree}
use Rattle.policy_law.specs.Senses.{Sense, below, sense_of, unless_some, unknown, unknown_in_set, unknown_in, unknown_in_item, if_some, named_again}
use Rattle.policy_law.specs.Figures.{if_err, no_prefix, unless_true, unless_within, no_length, prefix_of, wrong_in_pattern, wrong_figures}
use Rattle.policy_law.specs.Ranks.{place_of, ranks, ranks_under, ranks_under_in}
use Rattle.policy_law.specs.Origins.{if_true, has_peer_in, peer_named, peers_named, originates, originated_again}
use Rattle.policy_law.proofs.ByParts.{ranked_so}
use Rattle.policy_law.proofs.Sequence.{no_place, stand_append, then_none, none_then, Found, more_found, list_found, FoundInItems, items_found, all_found}

-- ---- tokens

-- a token that is told stands at its place
abbrev IsOwn : (Lexeme → List Place) → Type 0
IsOwn found = (l : Lexeme) → StandIn (found l) (l ∷ [])

this_one : (l : Lexeme) → StandIn (l.place ∷ []) (l ∷ [])
this_one l = StandIn.here StandIn.none

unknown_own : (sense : Sense) → IsOwn (unknown sense)
unknown_own sense l = by (sense l)
  where
    by : (o : Option LocSet) → StandIn (unless_some l.place o) (l ∷ [])
    by (Some s) = no_place (l ∷ [])
    by None = this_one l

again_own : (sense : Sense) → IsOwn (λ l. if_some l.place (sense l))
again_own sense l = by (sense l)
  where
    by : (o : Option LocSet) → StandIn (if_some l.place o) (l ∷ [])
    by (Some s) = this_one l
    by None = no_place (l ∷ [])

test_own : (test : Lexeme → Bool) → IsOwn (λ l. if_true l.place (test l))
test_own test l = by (test l)
  where
    by : (b : Bool) → StandIn (if_true l.place b) (l ∷ [])
    by true = this_one l
    by false = no_place (l ∷ [])

prefix_own : (bytes : List ℕ) → IsOwn (no_prefix bytes)
prefix_own bytes l = by (prefix_spelled (text bytes l))
  where
    by : (r : Result PlainPrefix PrefixFault) → StandIn (if_err l.place r) (l ∷ [])
    by (Ok p) = no_place (l ∷ [])
    by (Err e) = this_one l

length_own : (bytes : List ℕ) (base : PlainPrefix) → IsOwn (no_length bytes base)
length_own bytes base l = by (length_number (text bytes l)) (λ n. in_range (nat_le base.len n && nat_le n 32))
  where
    in_range : (b : Bool) → StandIn (unless_true l.place b) (l ∷ [])
    in_range true = no_place (l ∷ [])
    in_range false = this_one l

    by : (o : Option ℕ) → ((n : ℕ) → StandIn (unless_true l.place (nat_le base.len n && nat_le n 32)) (l ∷ [])) → StandIn (unless_within l.place base.len o) (l ∷ [])
    by (Some n) each = each n
    by None each = this_one l

-- ---- names and sets

name_found : (found : Lexeme → List Place) → IsOwn found → Found found IsName
name_found found own x ts (IsName.name i) = own x

names_found : (found : Lexeme → List Place) → IsOwn found → (ns ts : List Lexeme) → IsNames ns ts → StandIn (flat_map found ns) ts
names_found found own ns ts p = list_found found symbol.Comma IsName (name_found found own) ns ts p

group_found : (found : Lexeme → List Place) → IsOwn found → (ns ts : List Lexeme) → IsGroup ns ts → StandIn (flat_map found ns) ts
group_found found own ns ts (IsGroup.group {o = o} {c = c} {names = ms} {ts = us} i p j) = StandIn.other (then_none (names_found found own ms us p) (c ∷ []))

set_found : (sense : Sense) → Found (unknown_in_set sense) IsSet
set_found sense x ts (IsSet.any i) = no_place ts
set_found sense x ts (IsSet.names {ns = ns} {ts = us} p) = names_found (unknown sense) (unknown_own sense) ns us p

one_found : (sense : Sense) → Found (unknown_in_set sense) IsOne
one_found sense x ts (IsOne.any i) = no_place ts
one_found sense x ts (IsOne.name {n = n} (IsName.name i)) = stand_append (unknown_own sense n) [] [] StandIn.none
one_found sense x ts (IsOne.group {ns = ns} {ts = us} p) = group_found (unknown sense) (unknown_own sense) ns us p

-- ---- calls

two_parts : (ps qs : List Place) (us vs : List Lexeme) → StandIn ps us → StandIn qs vs → (w o c : Lexeme) → StandIn (ps ++ qs) (w ∷ o ∷ us ++ vs ++ c ∷ [])
two_parts ps qs us vs a b w o c = StandIn.other (StandIn.other (then_none (stand_append a qs vs b) (c ∷ [])))

call_found : (sense : Sense) → Found (λ (c : RawCall). flat_map (unknown_in_set sense) c.args) IsCall
call_found sense x ts (IsCall.alone s i) = no_place ts
call_found sense x ts (IsCall.sets {w = w} {o = o} {c = c} {x = y} {xs = ys} {ts = us} {us = vs} i j a m k) =
    two_parts (unknown_in_set sense y) (flat_map (unknown_in_set sense) ys) us vs (set_found sense y us a) (more_found (unknown_in_set sense) symbol.Above IsSet (set_found sense) ys vs m) w o c
call_found sense x ts (IsCall.link {w = w} {o = o} {m = m} {c = c} {x = y} {y = z} {ts = us} {us = vs} i j a k b e) =
    two_parts (unknown_in_set sense y) (unknown_in_set sense z ++ []) us (m ∷ vs) (one_found sense y us a)
    (StandIn.other (subst (StandIn (unknown_in_set sense z ++ [])) (append-nil vs) (stand_append (one_found sense z vs b) [] [] StandIn.none))) w o c
call_found sense x ts (IsCall.path {w = w} {o = o} {m = m} {c = c} {x = y} {y = z} {zs = zs} {ts = us} {us = vs} {vs = rs} i j a k b others e) =
    let later : List Place = flat_map (unknown_in_set sense) zs in
    let behind : StandIn (unknown_in_set sense z ++ later) (m ∷ vs ++ rs) =
    StandIn.other
    (stand_append (one_found sense z vs b) later rs (more_found (unknown_in_set sense) symbol.Comma IsOne (one_found sense) zs rs others)) in
    subst (λ (ls : List Lexeme). StandIn (unknown_in_set sense y ++ (unknown_in_set sense z ++ later)) (w ∷ o ∷ ls ++ c ∷ [])) (sym (append_assoc us (m ∷ vs) rs))
    (two_parts (unknown_in_set sense y) (unknown_in_set sense z ++ later) us (m ∷ vs ++ rs) (one_found sense y us a) behind w o c)

front_stands : (ls : List Lexeme) → StandIn (place_of (front_place ls)) ls
front_stands [] = StandIn.none
front_stands (l ∷ ls) = StandIn.here (no_place ls)

call_ranks : Found (λ (c : RawCall). place_of c.above) IsCall
call_ranks x ts (IsCall.alone s i) = no_place ts
call_ranks x ts (IsCall.sets {w = w} {o = o} {c = c} {ts = us} {us = vs} i j a m k) = two_parts [] (place_of (front_place vs)) us vs (no_place us) (front_stands vs) w o c
call_ranks x ts (IsCall.link i j a k b e) = no_place ts
call_ranks x ts (IsCall.path i j a k b others e) = no_place ts

-- ---- expressions

-- behind the sign between two sides
beside : {ps qs : List Place} {us vs : List Lexeme} (j : Lexeme) → StandIn ps us → StandIn qs vs → StandIn (ps ++ qs) (us ++ j ∷ vs)
beside {qs = qs} {vs = vs} j a b = stand_append a qs (j ∷ vs) (StandIn.other b)

within : {ps : List Place} {us : List Lexeme} (o c : Lexeme) → StandIn ps us → StandIn ps (o ∷ us ++ c ∷ [])
within o c a = StandIn.other (then_none a (c ∷ []))

ranked_unknown : (sense : Sense) {xs : List Step} {ts : List Lexeme} (p : IsRanked xs ts) → StandIn (unknown_in sense (ranked_tree p)) ts
ranked_unknown sense =
    ranked_so (λ e ts. StandIn (unknown_in sense e) ts) (call_found sense)
    (λ a b j us vs p q. beside j p q) (λ a b j us vs p q. beside j p q) (λ a b j us vs p q. beside j p q) (λ a l us p. StandIn.other p) (λ a o c us p. within o c p)

-- the `>>` of an expression, and those of them that it forbids
ranks_both : {xs : List Step} {ts : List Lexeme} (p : IsRanked xs ts) → StandIn (ranks (ranked_tree p)) ts × StandIn (ranks_under (ranked_tree p)) ts
ranks_both =
    ranked_so (λ e ts. StandIn (ranks e) ts × StandIn (ranks_under e) ts) (λ x ts c. (call_ranks x ts c, no_place ts))
    (λ a b j us vs p q. (stand_append p.0 (j.place ∷ ranks b) (j ∷ vs) (StandIn.here q.0), beside j p.1 q.1)) (λ a b j us vs p q. (beside j p.0 q.0, beside j p.0 q.0))
    (λ a b j us vs p q. (beside j p.0 q.0, beside j p.1 q.1)) (λ a l us p. (StandIn.other p.0, StandIn.other p.0)) (λ a o c us p. (within o c p.0, within o c p.1))

-- ---- patterns and sources

pattern_found : (bytes : List ℕ) → Found (wrong_in_pattern bytes) IsPattern
pattern_found bytes x ts (IsPattern.only {f = f} i) = prefix_own bytes f
pattern_found bytes x ts (IsPattern.up_to {f = f} {l = l} {g = g} i j k) =
    let base : PlainPrefix = prefix_of bytes f in
    stand_append (prefix_own bytes f) (no_length bytes base g) (l ∷ g ∷ []) (StandIn.other (length_own bytes base g))

predicate_found : (bytes : List ℕ) (ps : List RawPattern) (ts : List Lexeme) → IsPredicate ps ts → StandIn (flat_map (wrong_in_pattern bytes) ps) ts
predicate_found bytes ps ts (IsPredicate.all i) = no_place ts
predicate_found bytes ps ts (IsPredicate.patterns p) = list_found (wrong_in_pattern bytes) symbol.Or IsPattern (pattern_found bytes) ps ts p

from_found : (sense : Sense) → Found (unknown_in_set sense) IsFrom
from_found sense x ts IsFrom.left_out = StandIn.none
from_found sense x ts (IsFrom.from {x = y} {ts = us} i p) = StandIn.other (set_found sense y us p)

-- ---- items

unknown_item : (net : PlainNet) (bytes : List ℕ) → FoundInItems (λ above. unknown_in_item (below net bytes above))
unknown_item net bytes above x ts (IsItem.define {d = d} {n = n} {e = e} {s = s} {names = ns} {us = us} i (IsName.name n-is) j g k) =
    let sense : Sense = below net bytes above in
    StandIn.other (StandIn.other (StandIn.other (then_none (group_found (unknown sense) (unknown_own sense) ns us g) (s ∷ []))))
unknown_item net bytes above x ts (IsItem.originate {s = s} {names = ns} {ts = us} i j k p l) =
    let sense : Sense = below net bytes above in
    StandIn.other (StandIn.other (StandIn.other (then_none (names_found (unknown sense) (unknown_own sense) ns us p) (s ∷ []))))
unknown_item net bytes above x ts (IsItem.state {x = y} {a = a} {s = s} {ts = us} {us = vs} {vs = ws} p i r f k) =
    let sense : Sense = below net bytes above in
    then_none (stand_append (none_then us (StandIn.other {l = a} (ranked_unknown sense r))) (unknown_in_set sense y) ws (from_found sense y ws f)) (s ∷ [])

again_item : (net : PlainNet) (bytes : List ℕ) → FoundInItems (λ above. named_again (below net bytes above))
again_item net bytes above x ts (IsItem.define {n = n} {e = e} {s = s} {us = us} i (IsName.name n-is) j g k) =
    StandIn.other (then_none (again_own (below net bytes above) n) (e ∷ us ++ s ∷ []))
again_item net bytes above x ts (IsItem.originate i j k p l) = no_place ts
again_item net bytes above x ts (IsItem.state p i r f k) = no_place ts

figures_item : (bytes : List ℕ) → FoundInItems (λ _. wrong_figures bytes)
figures_item bytes above x ts (IsItem.define i n j g k) = no_place ts
figures_item bytes above x ts (IsItem.originate {f = f} {t = t} {s = s} {ts = us} i j k p l) = StandIn.other (then_none (prefix_own bytes f) (t ∷ us ++ s ∷ []))
figures_item bytes above x ts (IsItem.state {ps = ps} {a = a} {s = s} {ts = us} {us = vs} {vs = ws} p i r f k) =
    then_none (then_none (then_none (predicate_found bytes ps us p) (a ∷ vs)) ws) (s ∷ [])

ranks_item : FoundInItems (λ _. ranks_under_in)
ranks_item above x ts (IsItem.define i n j g k) = no_place ts
ranks_item above x ts (IsItem.originate i j k p l) = no_place ts
ranks_item above x ts (IsItem.state {a = a} {s = s} {ts = us} {vs = ws} p i r f k) = then_none (then_none (none_then us (StandIn.other {l = a} (ranks_both r).1)) ws) (s ∷ [])

peers_item : (net : PlainNet) (sense : Sense) → FoundInItems (λ _. peers_named net sense)
peers_item net sense above x ts (IsItem.define i n j g k) = no_place ts
peers_item net sense above x ts (IsItem.originate {s = s} {names = ns} {ts = us} i j k p l) =
    StandIn.other (StandIn.other (StandIn.other (then_none (names_found (peer_named net sense) (test_own (λ l. has_peer_in net (sense l))) ns us p) (s ∷ []))))
peers_item net sense above x ts (IsItem.state p i r f k) = no_place ts

originated_item : (bytes : List ℕ) → FoundInItems (originated_again bytes)
originated_item bytes above x ts (IsItem.define i n j g k) = no_place ts
originated_item bytes above x ts (IsItem.originate {f = f} {t = t} {s = s} {ts = us} i j k p l) =
    StandIn.other (then_none (test_own (λ (l : Lexeme). list_any (originates bytes (prefix_of bytes l)) above) f) (t ∷ us ++ s ∷ []))
originated_item bytes above x ts (IsItem.state p i r f k) = no_place ts

-- ---- policies

-- of each rule, the places that break it in a policy stand in the order of its tokens
pub policies_in_order : (net : PlainNet) (bytes : List ℕ) (xs : List Item) (ts : List Lexeme) (p : IsPolicy xs ts) → PlacesInOrder net bytes (policy_tree p) ts
policies_in_order net bytes xs ts p =
    let items : List Written = policy_tree p in
    record {
      unknown = items_found (λ above. unknown_in_item (below net bytes above)) (unknown_item net bytes) [] xs ts p;
      twice = items_found (λ above. named_again (below net bytes above)) (again_item net bytes) [] xs ts p;
      figures = all_found (wrong_figures bytes) (figures_item bytes) xs ts p;
      ranks = all_found ranks_under_in ranks_item xs ts p;
      peers = all_found (peers_named net (sense_of net bytes items)) (peers_item net (sense_of net bytes items)) xs ts p;
      originated = items_found (originated_again bytes) (originated_item bytes) [] xs ts p;
    }
