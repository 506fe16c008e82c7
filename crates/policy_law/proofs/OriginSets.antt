-- The locations of each `originate` item are a set as the program keeps it.
use Rattle.std.proofs.Common.{◌≡◌, ℕ, ◌/◌, ◌≤◌, Bool, true, false, List, [], ◌∷◌, Option, Some, None, fold, refl, sym, ap, subst, arith, inl, inr}
use Rattle.std.specs.Prelude.{if◌then◌else◌, replicate, reverse}
use Rattle.std.specs.List.{position_from}
use Rattle.std.specs.Str.{bytes_eq}
use Rattle.std.proofs.lemmas.Bool.{cases_lt}
use Rattle.std.proofs.lemmas.List.{set_past}
use Rattle.std.proofs.lemmas.Option.{same_Some}
use Rattle.list_law.specs.Members.{IsIn}
use Rattle.list_law.proofs.Members.{IsIn-cons_cases, IsIn-flat_map_parts, IsIn-nil}
use Rattle.list_law.proofs.Options.{option_map_parts}
use Rattle.net_base.specs.declared.loc.LocSet.{LocSet}
use Rattle.net_base.specs.declared.net.Site.{Site}
use Rattle.net_base.specs.Network.{PlainNet, sites}
use Rattle.net_base.specs.SetOperations.{no_location, union_of, with_location}
use Rattle.net_base.specs.Sets.{IsWords}
use Rattle.net_base.proofs.SetLaws.{IsWords-none, IsWords-union, IsWords-with}
use Rattle.policy_base.specs.declared.policy.Origin.{Origin}
use Rattle.policy_base.specs.Policies.{PlainPolicy}
use Rattle.policy_grammar.specs.declared.lexeme.Lexeme.{Lexeme}
use Rattle.policy_rules.specs.Checks.{text}
use Rattle.policy_law.specs.Trees.{Written, define, originate, state}
use Rattle.policy_law.specs.Senses.{Sense, located, or_else, sense_of, set_of_names, stands_for}
use Rattle.policy_law.specs.Values.{origin}
use Rattle.policy_law.specs.Laws.{OriginsAreSets}

one_location : (l : ℕ) → IsWords (with_location no_location l)
one_location l = elim (cases_lt l 768) [
  | inl low ↦ IsWords-with no_location l low IsWords-none
  | inr high ↦ subst IsWords (none high) IsWords-none
]
  where
    none : 768 ≤ l → no_location ≡ with_location no_location l
    none high = ap (λ (ws : List ℕ). let s : LocSet = record { words = ws } in s) (sym (set_past (replicate 12 0) (l / 64) _ (omega (arith, high))))

-- ---- names

-- what an option has, if anything, is such a set
abbrev HasWords : Option LocSet → Type 0
HasWords o = (s : LocSet) → o ≡ Some s → IsWords s

located_words : (o : Option LocSet) → HasWords o → IsWords (located o)
located_words (Some s) has = has s refl
located_words None has = IsWords-none

either_words : (a b : Option LocSet) → HasWords a → HasWords b → HasWords (or_else a b)
either_words (Some x) b one other = one
either_words None b one other = other

tested_words : (test : Bool) (t : LocSet) → IsWords t → HasWords (if test then Some t else None)
tested_words true t words s is = subst IsWords (same_Some t s is) words
tested_words false t words s is = absurd cc

module _ (sense : Sense) (known : (l : Lexeme) → HasWords (sense l)) where
  joined_words : (so_far : LocSet) (names : List Lexeme) → IsWords so_far → IsWords (fold (λ (s : LocSet) (l : Lexeme). union_of s (located (sense l))) so_far names)
  joined_words so_far [] words = words
  joined_words so_far (l ∷ ls) words =
      joined_words (union_of so_far (located (sense l))) ls (IsWords-union so_far (located (sense l)) words (located_words (sense l) (known l)))

  names_words : (names : List Lexeme) → IsWords (set_of_names sense names)
  names_words names = joined_words no_location names IsWords-none

stands_words : (net : PlainNet) (bytes : List ℕ) (above' : List Written) (name : List ℕ) → HasWords (stands_for net bytes above' name)
stands_words net bytes [] name s is =
    let one = option_map_parts (with_location no_location) (position_from (λ (x : Site). bytes_eq name x.name) 0 (sites net)) s is in
    subst IsWords one.2 (one_location one.0)
stands_words net bytes (define group members ∷ above') name s is =
    either_words (stands_for net bytes above' name) _ (stands_words net bytes above' name)
    (tested_words (bytes_eq name (text bytes group)) (set_of_names (λ l. stands_for net bytes above' (text bytes l)) members)
    (names_words (λ l. stands_for net bytes above' (text bytes l)) (λ l. stands_words net bytes above' (text bytes l)) members)) s is
stands_words net bytes (originate prefix names ∷ above') name s is = stands_words net bytes above' name s is
stands_words net bytes (state patterns e from ∷ above') name s is = stands_words net bytes above' name s is

-- ---- items

module _ (bytes : List ℕ) (sense : Sense) (known : (l : Lexeme) → HasWords (sense l)) (o : Origin) where
  item_words : (x : Written) → IsIn (origin bytes sense x) o → IsWords o.at
  item_words (define group members) at = absurd (IsIn-nil o at)
  item_words (originate prefix names) at = elim (IsIn-cons_cases _ [] o at) [
    | inl same ↦ subst (λ (x : Origin). IsWords x.at) same (names_words sense known names)
    | inr none ↦ absurd (IsIn-nil o none)
  ]
  item_words (state patterns e from) at = absurd (IsIn-nil o at)

pub origins_are_sets : OriginsAreSets
origins_are_sets net bytes p o meant at =
    let sense = sense_of net bytes meant.items in
    let item = IsIn-flat_map_parts (origin bytes sense) meant.items o (subst (λ (q : PlainPolicy). IsIn q.origins o) (sym meant.value) at) in
    item_words bytes sense (λ l. stands_words net bytes (reverse meant.items) (text bytes l)) o item.0 item.2
