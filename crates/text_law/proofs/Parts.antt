-- Names, sets and lists of parts, with their values.
use Rattle.std.proofs.Common.{◌≡◌, List, [], ◌∷◌, map, Some, refl, subst}
use Rattle.std.specs.Prelude.{fold}
use Rattle.std.specs.List.{AllByRecursion}
use Rattle.net_base.specs.declared.loc.LocSet.{LocSet}
use Rattle.net_base.specs.Network.{PlainNet}
use Rattle.net_base.specs.SetOperations.{no_location, union_of}
use Rattle.policy_grammar.specs.declared.lexeme.Lexeme.{Lexeme}
use Rattle.policy_grammar.specs.declared.symbol.Symbol.{Symbol}
use Rattle.policy_grammar.specs.declared.symbol.Symbol.TheVariants as symbol
use Rattle.policy_grammar.specs.Raw.{Arg}
use Rattle.grammar_law.specs.Grammar.{IsMore, IsList, IsName as IsNameToken, IsNames, IsGroup as IsGroupOf, IsSet as IsSetOf, IsOne as IsOneOf}
use Rattle.policy_law.specs.Senses.{Sense, located, set_of_names}
use Rattle.policy_law.specs.Texts.{IsKnown, AreKnown}
use Rattle.policy_law.specs.Values.{set_of}
use Rattle.text_law.specs.PolicyText.{IsName, AreNames, IsGroup, IsSet, IsOne}

-- ---- lists

-- where each part has a value, so has a list
module _ {A B : Type 0} (joint : Symbol) (One : A → List Lexeme → Type 0) (Valued : B → List Lexeme → Type 0) (Fine : A → Type 0) (value : A → B)
    (each : (x : A) (ts : List Lexeme) → One x ts → Fine x → Valued (value x) ts) where
  pub more_valued : {xs : List A} {ts : List Lexeme} → IsMore joint One xs ts → AllByRecursion Fine xs → IsMore joint Valued (map value xs) ts
  more_valued IsMore.none fine = IsMore.none
  more_valued (IsMore.more {x = x} {ts = ts} i first rest) fine = IsMore.more i (each x ts first fine.0) (more_valued rest fine.1)

  pub list_valued : {xs : List A} {ts : List Lexeme} → IsList joint One xs ts → AllByRecursion Fine xs → IsList joint Valued (map value xs) ts
  list_valued (IsList.list {x = x} {ts = ts} first rest) fine = IsList.list (each x ts first fine.0) (more_valued rest fine.1)

-- ---- names

pub union_from : (sense : Sense) (so_far : LocSet) (names : List Lexeme)
    → fold union_of so_far (map (λ (n : Lexeme). located (sense n)) names) ≡ fold (λ (s : LocSet) (n : Lexeme). union_of s (located (sense n))) so_far names
union_from sense so_far [] = refl
union_from sense so_far (n ∷ ns) = union_from sense (union_of so_far (located (sense n))) ns

-- Each name that stands for something in the one sense stands for the same in the other.
abbrev pub GoesOn : Sense → Sense → Type 0
GoesOn sense whole = (l : Lexeme) → IsKnown sense l → sense l ≡ Some (located (whole l))

module _ (sense whole : Sense) (goes_on : GoesOn sense whole) where
  name_valued : (n : Lexeme) (ts : List Lexeme) → IsNameToken n ts → IsKnown sense n → IsName sense (located (whole n)) ts
  name_valued n ts (IsNameToken.name i) known = IsName.name i (goes_on n known)

  pub names_valued : {names : List Lexeme} {ts : List Lexeme} → IsNames names ts → AllByRecursion (IsKnown sense) names → AreNames sense (set_of_names whole names) ts
  names_valued {names} {ts} written known =
      subst (λ (s : LocSet). AreNames sense s ts) (union_from whole no_location names)
      (AreNames.names (list_valued symbol.Comma IsNameToken (IsName sense) (IsKnown sense) (λ n. located (whole n)) name_valued written known))

  pub group_valued : {names : List Lexeme} {ts : List Lexeme} → IsGroupOf names ts → AllByRecursion (IsKnown sense) names → IsGroup sense (set_of_names whole names) ts
  group_valued (IsGroupOf.group o inside c) known = IsGroup.group o (names_valued inside known) c

  -- ---- sets

  module _ (net : PlainNet) where
    pub set_valued : (a : Arg) (ts : List Lexeme) → IsSetOf a ts → AreKnown sense a → IsSet net sense (set_of net whole a) ts
    set_valued a ts (IsSetOf.any i) known = IsSet.any i
    set_valued a ts (IsSetOf.names written) known = IsSet.names (names_valued written known)

    pub one_valued : (a : Arg) (ts : List Lexeme) → IsOneOf a ts → AreKnown sense a → IsOne net sense (set_of net whole a) ts
    one_valued a ts (IsOneOf.any i) known = IsOne.any i
    one_valued a ts (IsOneOf.name {n = n} written) known = IsOne.name (name_valued n ts written known.0)
    one_valued a ts (IsOneOf.group written) known = IsOne.group (group_valued written known)
