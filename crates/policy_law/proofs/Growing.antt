-- A name that stands for something above stands for the same in the whole text.
use Rattle.std.proofs.Common.{◌≡◌, ℕ, List, [], ◌∷◌, ◌++◌, Option, Some, None, refl, subst}
use Rattle.std.specs.List.{flat_map}
use Rattle.net_base.specs.declared.loc.LocSet.{LocSet}
use Rattle.net_base.specs.declared.place.Place.{Place}
use Rattle.net_base.specs.Network.{PlainNet}
use Rattle.policy_grammar.specs.declared.lexeme.Lexeme.{Lexeme}
use Rattle.policy_grammar.specs.Raw.{Arg, Arg as arg}
use Rattle.policy_rules.specs.Checks.{text}
use Rattle.policy_law.specs.Trees.{Expression, call, above, either, both, negated, Written, define, originate, state}
use Rattle.policy_law.specs.Senses.{or_else, Sense, stands_for, below, sense_of, unless_some, unknown, unknown_in_set, unknown_in, unknown_in_item}
use Rattle.policy_law.proofs.Binds.{nil_front, nil_back, both_nil}
use Rattle.policy_law.proofs.Learnt.{turned, turned-all, unknown_from}

-- each name that stands for something in the one sense does in the other
abbrev KnowsMore : Sense → Sense → Type 0
KnowsMore sense other = (l : Lexeme) → unknown sense l ≡ [] → unknown other l ≡ []

all_more : {A : Type 0} (found other : A → List Place) → ((x : A) → found x ≡ [] → other x ≡ []) → (xs : List A) → flat_map found xs ≡ [] → flat_map other xs ≡ []
all_more found other more [] none = refl
all_more found other more (x ∷ xs) none =
    both_nil (other x) (flat_map other xs) (more x (nil_front (found x) (flat_map found xs) none)) (all_more found other more xs (nil_back (found x) (flat_map found xs) none))

set_more : (sense other : Sense) → KnowsMore sense other → (a : Arg) → unknown_in_set sense a ≡ [] → unknown_in_set other a ≡ []
set_more sense other more arg.Any none = refl
set_more sense other more (arg.Names ls) none = all_more (unknown sense) (unknown other) more ls none

sides_more : (a b c d : List Place) → (a ≡ [] → c ≡ []) → (b ≡ [] → d ≡ []) → a ++ b ≡ [] → c ++ d ≡ []
sides_more a b c d p q none = both_nil c d (p (nil_front a b none)) (q (nil_back a b none))

expression_more : (sense other : Sense) → KnowsMore sense other → (e : Expression) → unknown_in sense e ≡ [] → unknown_in other e ≡ []
expression_more sense other more (call c) none = all_more (unknown_in_set sense) (unknown_in_set other) (set_more sense other more) c.args none
expression_more sense other more (above a p b) none =
    sides_more (unknown_in sense a) (unknown_in sense b) (unknown_in other a) (unknown_in other b) (expression_more sense other more a)
    (expression_more sense other more b) none
expression_more sense other more (either a b) none =
    sides_more (unknown_in sense a) (unknown_in sense b) (unknown_in other a) (unknown_in other b) (expression_more sense other more a)
    (expression_more sense other more b) none
expression_more sense other more (both a b) none =
    sides_more (unknown_in sense a) (unknown_in sense b) (unknown_in other a) (unknown_in other b) (expression_more sense other more a)
    (expression_more sense other more b) none
expression_more sense other more (negated a) none = expression_more sense other more a none

item_more : (sense other : Sense) → KnowsMore sense other → (x : Written) → unknown_in_item sense x ≡ [] → unknown_in_item other x ≡ []
item_more sense other more (define group members) none = all_more (unknown sense) (unknown other) more members none
item_more sense other more (originate prefix names) none = all_more (unknown sense) (unknown other) more names none
item_more sense other more (state patterns e from) none =
    sides_more (unknown_in sense e) (unknown_in_set sense from) (unknown_in other e) (unknown_in_set other from) (expression_more sense other more e) (set_more sense other more from) none

-- ---- below more items

or_more : (p : Place) (o q : Option LocSet) → unless_some p o ≡ [] → unless_some p (or_else o q) ≡ []
or_more p (Some s) q none = refl
or_more p None q none = absurd cc

one_below : (net : PlainNet) (bytes : List ℕ) (xs : List Written) (x : Written) → KnowsMore (below net bytes xs) (below net bytes (x ∷ xs))
one_below net bytes xs (define group members) l none = or_more l.place (stands_for net bytes xs (text bytes l)) _ none
one_below net bytes xs (originate prefix names) l none = none
one_below net bytes xs (state patterns e from) l none = none

turned_below : (net : PlainNet) (bytes : List ℕ) (xs ys : List Written) → KnowsMore (below net bytes xs) (below net bytes (turned xs ys))
turned_below net bytes xs [] l none = none
turned_below net bytes xs (y ∷ ys) l none = turned_below net bytes (y ∷ xs) ys l (one_below net bytes xs y l none)

all_known : (net : PlainNet) (bytes : List ℕ) (xs ys : List Written) → unknown_from net bytes xs ys ≡ [] → flat_map (unknown_in_item (below net bytes (turned xs ys))) ys ≡ []
all_known net bytes xs [] none = refl
all_known net bytes xs (y ∷ ys) none =
    let whole : Sense = below net bytes (turned (y ∷ xs) ys) in
    let here : List Place = unknown_in_item (below net bytes xs) y in
    both_nil (unknown_in_item whole y) (flat_map (unknown_in_item whole) ys)
    (item_more (below net bytes xs) whole (turned_below net bytes xs (y ∷ ys)) y (nil_front here (unknown_from net bytes (y ∷ xs) ys) none))
    (all_known net bytes (y ∷ xs) ys (nil_back here (unknown_from net bytes (y ∷ xs) ys) none))

-- where each name stands for something above its use, each does in the sense of the whole text
pub names_known : (net : PlainNet) (bytes : List ℕ) (xs : List Written) → unknown_from net bytes [] xs ≡ [] → flat_map (unknown_in_item (sense_of net bytes xs)) xs ≡ []
names_known net bytes xs none = subst (λ (zs : List Written). flat_map (unknown_in_item (below net bytes zs)) xs ≡ []) (turned-all xs) (all_known net bytes [] xs none)
