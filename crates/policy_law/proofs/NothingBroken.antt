-- A rule is kept exactly where it lists nothing.
use Rattle.std.proofs.Common.{◌≡◌, ℕ, ◌≤◌, List, [], ◌∷◌, ◌++◌, length, Option, None, Some, Result, Ok, Err, Bool, true, false, ◌||◌, ◌&&◌, is_some, refl, sym, ap, ap₂}
use Rattle.std.proofs.Common.{subst, ◌∙◌, arith, leb-true, le-leb, flat_map, inl, inr, ◌<◌}
use Rattle.std.specs.Prelude.{IsTrue, nat_le}
use Rattle.std.specs.List.{AllByRecursion}
use Rattle.std.proofs.lemmas.Bool.{or_parts, and_parts}
use Rattle.std.proofs.lemmas.List.Concat.{flat_map-append}
use Rattle.std.proofs.lemmas.Bool.{cases_lt}
use Rattle.std.proofs.Math.Nat.{min-le_left, min-eq_left, min-eq_right}
use Rattle.net_base.specs.declared.loc.LocSet.{LocSet}
use Rattle.net_base.specs.declared.place.Place.{Place}
use Rattle.net_base.specs.Prefixes.{PlainPrefix}
use Rattle.net_base.specs.PrefixText.{prefix_spelled, length_number}
use Rattle.net_base.specs.declared.prefix_text.PrefixFault.{PrefixFault}
use Rattle.policy_words.specs.declared.word.CallWord.{CallWord}
use Rattle.policy_words.specs.declared.word.CallWord.TheVariants as word
use Rattle.policy_tokens.specs.declared.fault.PolicyFault.{PolicyFault}
use Rattle.policy_tokens.specs.declared.kind.Kind.{Kind}
use Rattle.policy_tokens.specs.declared.kind.Kind.TheVariants as kind
use Rattle.policy_grammar.specs.declared.lexeme.Lexeme.{Lexeme}
use Rattle.policy_grammar.specs.Raw.{Arg, Arg as arg, RawPattern}
use Rattle.policy_grammar.specs.Raw.RawPattern.{All, Only, UpTo}
use Rattle.policy_rules.specs.Checks.{text}
use Rattle.policy_rules.specs.Counts.{capped}
use Rattle.policy_law.specs.Trees.{Expression, call, above, either, both, negated}
use Rattle.policy_law.specs.Senses.{Sense, unless_some, unknown, unknown_in_set, unknown_in}
use Rattle.policy_law.specs.Figures.{prefix_of, if_err, no_prefix, no_length, wrong_in_pattern, unless_true, unless_within as unless_length}
use Rattle.policy_law.specs.Ranks.{place_of, ranks, ranks_under}
use Rattle.policy_law.specs.Limits.{places_of_call, paths, unless_within, over, too_many}
use Rattle.policy_law.specs.Texts.{IsKnown, AreKnown, IsPrefixText, IsPatternText, is_ranked, IsFine}
use Rattle.policy_law.proofs.Binds.{nil_front, nil_back, both_nil}

-- ---- lists

pub all_kept : {A B : Type 0} (P : A → Type 0) (found : A → List B) → ((x : A) → found x ≡ [] → P x) → (xs : List A) → flat_map found xs ≡ [] → AllByRecursion P xs
all_kept P found kept [] none = tt
all_kept P found kept (x ∷ xs) none = (kept x (nil_front (found x) (flat_map found xs) none), all_kept P found kept xs (nil_back (found x) (flat_map found xs) none))

pub none_found : {A B : Type 0} (P : A → Type 0) (found : A → List B) → ((x : A) → P x → found x ≡ []) → (xs : List A) → AllByRecursion P xs → flat_map found xs ≡ []
none_found P found none [] a = refl
none_found P found none (x ∷ xs) a = both_nil (found x) (flat_map found xs) (none x a.0) (none_found P found none xs a.1)

-- ---- limits

unless_kept : (k : Kind) (n : ℕ) (b : Bool) → unless_within k n b ≡ [] → b ≡ true
unless_kept k n true none = refl
unless_kept k n false none = absurd cc

pub over_kept : (k : Kind) (most n : ℕ) → over k most n ≡ [] → n ≤ most
over_kept k most n none = leb-true n most (unless_kept k n (nat_le n most) none)

pub over_none : (k : Kind) (most n : ℕ) → n ≤ most → over k most n ≡ []
over_none k most n less = rw (le-leb n most less) refl

pub many_none : (k : Kind) (most n : ℕ) → n ≤ most → too_many k most n ≡ []
many_none k most n less = let h = min-le_left n 18446744073709551615 in over_none k most (capped n) (omega (arith, less, h))

-- a count within a limit is so before it is kept at the greatest number of 64 bits
capped_kept : (n most : ℕ) → most < 18446744073709551615 → capped n ≤ most → n ≤ most
capped_kept n most small less = elim (cases_lt 18446744073709551615 n) [
  | inl t ↦ let over_it : 18446744073709551615 ≤ n = omega (arith, t) in absurd (omega (arith, small, subst (λ m. m ≤ most) (min-eq_right over_it) less))
  | inr t ↦ subst (λ m. m ≤ most) (min-eq_left t) less
]

pub many_kept : (k : Kind) (most n : ℕ) → most < 18446744073709551615 → too_many k most n ≡ [] → n ≤ most
many_kept k most n small none = capped_kept n most small (over_kept k most (capped n) none)

-- ---- names

some_kept : (p : Place) (o : Option LocSet) → unless_some p o ≡ [] → IsTrue (is_some o)
some_kept p (Some s) none = refl
some_kept p None none = absurd cc

some_none : (p : Place) (o : Option LocSet) → IsTrue (is_some o) → unless_some p o ≡ []
some_none p (Some s) known = refl
some_none p None known = absurd cc

pub name_kept : (sense : Sense) (l : Lexeme) → unknown sense l ≡ [] → IsKnown sense l
name_kept sense l none = some_kept l.place (sense l) none

pub name_none : (sense : Sense) (l : Lexeme) → IsKnown sense l → unknown sense l ≡ []
name_none sense l known = some_none l.place (sense l) known

pub set_kept : (sense : Sense) (a : Arg) → unknown_in_set sense a ≡ [] → AreKnown sense a
set_kept sense arg.Any none = tt
set_kept sense (arg.Names names) none = all_kept (IsKnown sense) (unknown sense) (name_kept sense) names none

pub set_none : (sense : Sense) (a : Arg) → AreKnown sense a → unknown_in_set sense a ≡ []
set_none sense arg.Any known = refl
set_none sense (arg.Names names) known = none_found (IsKnown sense) (unknown sense) (name_none sense) names known

-- ---- figures

if_err_kept : (p : Place) (r : Result PlainPrefix PrefixFault) → if_err p r ≡ [] → (x : PlainPrefix) × (r ≡ Ok x)
if_err_kept p (Ok x) none = (x, refl)
if_err_kept p (Err e) none = absurd cc

pub prefix_kept : (bytes : List ℕ) (figure : Lexeme) → no_prefix bytes figure ≡ [] → IsPrefixText bytes figure
prefix_kept bytes figure none = if_err_kept figure.place (prefix_spelled (text bytes figure)) none

pub prefix_none : (bytes : List ℕ) (figure : Lexeme) → IsPrefixText bytes figure → no_prefix bytes figure ≡ []
prefix_none bytes figure is = rw is.1 refl

true_kept : (p : Place) (b : Bool) → unless_true p b ≡ [] → b ≡ true
true_kept p true none = refl
true_kept p false none = absurd cc

length_kept : (p : Place) (least : ℕ) (o : Option ℕ) → unless_length p least o ≡ [] → (n : ℕ) × (o ≡ Some n) × (least ≤ n) × (n ≤ 32)
length_kept p least (Some n) none = let h = and_parts (nat_le least n) (nat_le n 32) (true_kept p (nat_le least n && nat_le n 32) none) in (n, refl, leb-true least n h.0, leb-true n 32 h.1)
length_kept p least None none = absurd cc

pub pattern_kept : (bytes : List ℕ) (x : RawPattern) → wrong_in_pattern bytes x ≡ [] → IsPatternText bytes x
pattern_kept bytes All none = tt
pattern_kept bytes (Only figure) none = prefix_kept bytes figure none
pattern_kept bytes (UpTo figure upto) none =
    let base : PlainPrefix = prefix_of bytes figure in
    let l = length_kept upto.place base.len (length_number (text bytes upto)) (nil_back (no_prefix bytes figure) (no_length bytes base upto) none) in
    (prefix_kept bytes figure (nil_front (no_prefix bytes figure) (no_length bytes base upto) none), l.0, l.1, l.2, l.3)

pub pattern_none : (bytes : List ℕ) (x : RawPattern) → IsPatternText bytes x → wrong_in_pattern bytes x ≡ []
pattern_none bytes All is = refl
pattern_none bytes (Only figure) is = prefix_none bytes figure is
pattern_none bytes (UpTo figure upto) is =
    let base : PlainPrefix = prefix_of bytes figure in
    both_nil (no_prefix bytes figure) (no_length bytes base upto) (prefix_none bytes figure is.0)
    (ap (unless_length upto.place base.len) is.2 ∙ ap₂ (λ (a b : Bool). unless_true upto.place (a && b)) (le-leb base.len is.1 is.3) (le-leb is.1 32 is.4))

-- ---- expressions

place_kept : (o : Option Place) → place_of o ≡ [] → is_some o ≡ false
place_kept None none = refl
place_kept (Some p) none = absurd cc

place_none : (o : Option Place) → is_some o ≡ false → place_of o ≡ []
place_none None none = refl
place_none (Some p) none = absurd cc

no_place : {A : Type 0} (x : A) (xs : List A) → x ∷ xs ≡ [] → ⊥
no_place x xs none = cc

neither : (a b : Bool) → a ≡ false → b ≡ false → (a || b) ≡ false
neither a b p q = rw (p, q) refl

ranks_kept : (e : Expression) → ranks e ≡ [] → is_ranked e ≡ false
ranks_kept (call c) none = place_kept c.above none
ranks_kept (above a p b) none = absurd (no_place p (ranks b) (nil_back (ranks a) (p ∷ ranks b) none))
ranks_kept (either a b) none = neither (is_ranked a) (is_ranked b) (ranks_kept a (nil_front (ranks a) (ranks b) none)) (ranks_kept b (nil_back (ranks a) (ranks b) none))
ranks_kept (both a b) none = neither (is_ranked a) (is_ranked b) (ranks_kept a (nil_front (ranks a) (ranks b) none)) (ranks_kept b (nil_back (ranks a) (ranks b) none))
ranks_kept (negated a) none = ranks_kept a none

ranks_none : (e : Expression) → is_ranked e ≡ false → ranks e ≡ []
ranks_none (call c) none = place_none c.above none
ranks_none (above a p b) none = absurd cc
ranks_none (either a b) none = let h = or_parts (is_ranked a) (is_ranked b) none in both_nil (ranks a) (ranks b) (ranks_none a h.0) (ranks_none b h.1)
ranks_none (both a b) none = let h = or_parts (is_ranked a) (is_ranked b) none in both_nil (ranks a) (ranks b) (ranks_none a h.0) (ranks_none b h.1)
ranks_none (negated a) none = ranks_none a none

-- without any `>>` there is none under an operator
under_none : (e : Expression) → ranks e ≡ [] → ranks_under e ≡ []
under_none (call c) none = refl
under_none (above a p b) none = absurd (no_place p (ranks b) (nil_back (ranks a) (p ∷ ranks b) none))
under_none (either a b) none = none
under_none (both a b) none = both_nil (ranks_under a) (ranks_under b) (under_none a (nil_front (ranks a) (ranks b) none)) (under_none b (nil_back (ranks a) (ranks b) none))
under_none (negated a) none = none

abbrev long : List ℕ → List PolicyFault
long ns = flat_map (over kind.Places 256) ns

path_kept : (w : CallWord) (n : ℕ) → long (places_of_call w n) ≡ [] → w ≡ word.Path → n ≤ 256
path_kept w n none is = over_kept kind.Places 256 n (nil_front (over kind.Places 256 n) [] (subst (λ v. long (places_of_call v n) ≡ []) is none))

path_none : (w : CallWord) (n : ℕ) → (w ≡ word.Path → n ≤ 256) → long (places_of_call w n) ≡ []
path_none word.Any n less = refl
path_none word.Drop n less = refl
path_none word.Internal n less = refl
path_none word.Link n less = refl
path_none word.Path n less = both_nil (over kind.Places 256 n) [] (over_none kind.Places 256 n (less refl)) refl
path_none (word.Of c) n less = refl

module _ (sense : Sense) where
  -- what is listed of an expression
  pub record NoneIn (e : Expression) : Type 0 where
    pub unknown : unknown_in sense e ≡ []
    pub ranks : ranks_under e ≡ []
    pub places : long (paths e) ≡ []

  left : (f a b : Expression) → unknown_in sense f ≡ unknown_in sense a ++ unknown_in sense b → ranks_under a ≡ [] → paths f ≡ paths a ++ paths b → NoneIn f → NoneIn a
  left f a b names ranks places n = record {
    unknown = nil_front (unknown_in sense a) (unknown_in sense b) (sym names ∙ n.unknown);
    ranks = ranks;
    places = nil_front (long (paths a)) (long (paths b)) (sym (flat_map-append (over kind.Places 256) (paths a) (paths b)) ∙ ap long (sym places) ∙ n.places);
  }

  right : (f a b : Expression) → unknown_in sense f ≡ unknown_in sense a ++ unknown_in sense b → ranks_under b ≡ [] → paths f ≡ paths a ++ paths b → NoneIn f → NoneIn b
  right f a b names ranks places n = record {
    unknown = nil_back (unknown_in sense a) (unknown_in sense b) (sym names ∙ n.unknown);
    ranks = ranks;
    places = nil_back (long (paths a)) (long (paths b)) (sym (flat_map-append (over kind.Places 256) (paths a) (paths b)) ∙ ap long (sym places) ∙ n.places);
  }

  join : (f a b : Expression) → unknown_in sense f ≡ unknown_in sense a ++ unknown_in sense b → ranks_under f ≡ [] → paths f ≡ paths a ++ paths b → NoneIn a → NoneIn b → NoneIn f
  join f a b names ranks places n m = record {
    unknown = names ∙ both_nil (unknown_in sense a) (unknown_in sense b) n.unknown m.unknown;
    ranks = ranks;
    places = ap long places ∙ flat_map-append (over kind.Places 256) (paths a) (paths b) ∙ both_nil (long (paths a)) (long (paths b)) n.places m.places;
  }

  pub fine_where : (e : Expression) → NoneIn e → IsFine sense e
  fine_where (call c) n = (all_kept (AreKnown sense) (unknown_in_set sense) (set_kept sense) c.args n.unknown, path_kept c.word (length c.args) n.places)
  fine_where (above a p b) n = (
    fine_where a (left (above a p b) a b refl (nil_front (ranks_under a) (ranks_under b) n.ranks) refl n),
    fine_where b (right (above a p b) a b refl (nil_back (ranks_under a) (ranks_under b) n.ranks) refl n),
  )
  fine_where (either a b) n =
      let first : ranks a ≡ [] = nil_front (ranks a) (ranks b) n.ranks in
      let second : ranks b ≡ [] = nil_back (ranks a) (ranks b) n.ranks in
      (fine_where a (left (either a b) a b refl (under_none a first) refl n), fine_where b (right (either a b) a b refl (under_none b second) refl n), ranks_kept a first, ranks_kept b second)
  fine_where (both a b) n = (
    fine_where a (left (both a b) a b refl (nil_front (ranks_under a) (ranks_under b) n.ranks) refl n),
    fine_where b (right (both a b) a b refl (nil_back (ranks_under a) (ranks_under b) n.ranks) refl n),
  )
  fine_where (negated a) n = (fine_where a (record { unknown = n.unknown; ranks = under_none a n.ranks; places = n.places }), ranks_kept a n.ranks)

  pub none_where : (e : Expression) → IsFine sense e → NoneIn e
  none_where (call c) fine = record {
    unknown = none_found (AreKnown sense) (unknown_in_set sense) (set_none sense) c.args fine.0;
    ranks = refl;
    places = path_none c.word (length c.args) fine.1;
  }
  none_where (above a p b) fine =
      let n = none_where a fine.0 in
      let m = none_where b fine.1 in
      join (above a p b) a b refl (both_nil (ranks_under a) (ranks_under b) n.ranks m.ranks) refl n m
  none_where (either a b) fine =
      join (either a b) a b refl (both_nil (ranks a) (ranks b) (ranks_none a fine.2) (ranks_none b fine.3)) refl (none_where a fine.0) (none_where b fine.1)
  none_where (both a b) fine =
      let n = none_where a fine.0 in
      let m = none_where b fine.1 in
      join (both a b) a b refl (both_nil (ranks_under a) (ranks_under b) n.ranks m.ranks) refl n m
  none_where (negated a) fine = let n = none_where a fine.0 in record { unknown = n.unknown; ranks = ranks_none a fine.1; places = n.places }
