-- The names of a set stand for its locations.
use Rattle.std.proofs.Common.{◌≡◌, ℕ, ◌+◌, ◌<◌, ◌≤◌, List, [], ◌∷◌, ◌++◌, length, Bool, true, false, Some, None, Ok, refl, sym, ap, ◌∙◌, subst, arith, append_assoc, length-append, inl, inr}
use Rattle.std.specs.Prelude.{◌||◌, ◌&&◌, ◌==◌, if◌then◌else◌, IsTrue}
use Rattle.std.specs.List.{IsDistinct}
use Rattle.std.specs.Str.{bytes_eq}
use Rattle.std.proofs.lemmas.Bool.{eq-eqb, ne_eqb, cases_eq, cases_lt, false_from_ne_true}
use Rattle.std.proofs.Math.Bool.{or-false}
use Rattle.net_base.specs.declared.loc.LocSet.{LocSet}
use Rattle.net_base.specs.declared.net.Site.{Site}
use Rattle.net_base.specs.Sets.{holds, IsWords}
use Rattle.policy_grammar.specs.declared.lexeme.Lexeme.{Lexeme}
use Rattle.net_base.specs.SetOperations.{no_location, with_location, union_of}
use Rattle.policy_rules.specs.KnownNames.{Names, set_named}
use Rattle.policy_rules.specs.Checks.{text, set_at, joined, set_of_names}
use Rattle.policy_text.specs.PolicyText.{names_from}
use Rattle.policy_text.proofs.ReadSets.{AreNamesOf}
use Rattle.net_base.proofs.SetLaws.{same_sets, IsWords-none, holds-none, IsWords-with, holds-with, IsWords-union, holds-union}
use Rattle.policy_text.proofs.Lookups.{singles, site_names, set_named-there}

-- m is one of the locations of a set that stand at these sites
abbrev is_among : LocSet → ℕ → List Site → ℕ → Bool
is_among s l [] m = false
is_among s l (x ∷ xs) m = (m == l && holds s l) || is_among s (l + 1) xs m

before_all : (s : LocSet) (l : ℕ) (xs : List Site) (m : ℕ) → m < l → is_among s l xs m ≡ false
before_all s l [] m low = refl
before_all s l (x ∷ xs) m low = rw (ne_eqb m l (λ e. omega (arith, e, low)), before_all s (l + 1) xs m (omega (arith, low))) refl

among_inside : (s : LocSet) (l : ℕ) (xs : List Site) (m : ℕ) → l ≤ m → m < l + length xs → is_among s l xs m ≡ holds s m
among_inside s l [] m high low = absurd (omega (arith, high, low))
among_inside s l (x ∷ xs) m high low = elim (cases_eq m l) [
  | inl same ↦ rw (eq-eqb m l same, before_all s (l + 1) xs m (omega (arith, same)), same) (or-false (holds s l))
  | inr other ↦ rw (ne_eqb m l other) (among_inside s (l + 1) xs m (omega (arith, high, other)) (omega (arith, low)))
]

among_past : (s : LocSet) (l : ℕ) (xs : List Site) (m : ℕ) → l + length xs ≤ m → is_among s l xs m ≡ false
among_past s l [] m high = refl
among_past s l (x ∷ xs) m high = rw (ne_eqb m l (λ e. omega (arith, e, high)), among_past s (l + 1) xs m (omega (arith, high))) refl

take_in : (a b w : Bool) → ((a || b) || w) ≡ (a || ((b && true) || w))
take_in true b w = refl
take_in false true w = refl
take_in false false w = refl

leave_out : (a b w : Bool) → (a || w) ≡ (a || ((b && false) || w))
leave_out true b w = refl
leave_out false true w = refl
leave_out false false w = refl

-- so far, and the names of a set at these sites
record IsJoined (bytes : List ℕ) (known : Names) (so_far s : LocSet) (l : ℕ) (xs : List Site) (ls : List Lexeme) : Type 0 where
  all : LocSet
  is : joined bytes known so_far ls ≡ Ok all
  words : IsWords all
  has : (m : ℕ) → m < 768 → holds all m ≡ (holds so_far m || is_among s l xs m)

pub one_set : (l m : ℕ) → l < 768 → m < 768 → holds (with_location no_location l) m ≡ (m == l)
one_set l m low low' = holds-with no_location l m low IsWords-none ∙ ap (λ (b : Bool). b || m == l) (holds-none m low')

pub set_there : (bytes : List ℕ) (known : Names) (l : Lexeme) (n : List ℕ) (s : LocSet) → text bytes l ≡ n → set_named known n ≡ Some s → set_at bytes known l ≡ Ok s
unfolding set_at
set_there bytes known l n s is found = rw (is, found) refl

-- the names of some sites, each for one location
abbrev pub sites_known : List Site → Names
sites_known xs = record { names = site_names xs; sets = singles 0 xs; twice = None }

module _ (bytes : List ℕ) (whole : List Site) (apart : IsDistinct bytes_eq (site_names whole)) (small : length whole ≤ 768) where
  abbrev known : Names
  known = sites_known whole

  pub here : (pre : List Site) (x : Site) (post : List Site) → whole ≡ pre ++ x ∷ post → set_named known x.name ≡ Some (with_location no_location (length pre))
  here pre x post is =
      subst (λ (w : List Site). set_named (record { names = site_names w; sets = singles 0 w; twice = None }) x.name ≡ Some (with_location no_location (length pre))) (sym is)
      (set_named-there pre x post (subst (λ (w : List Site). IsDistinct bytes_eq (site_names w)) is apart))

  -- the rest of the sites, from any set
  abbrev Rest : LocSet → ℕ → List Site → Type 0
  Rest s l xs = (so_far : LocSet) → IsWords so_far → (ls : List Lexeme) → AreNamesOf bytes ls (names_from s l xs) → IsJoined bytes known so_far s l xs ls

  absent : (s : LocSet) (l : ℕ) (x : Site) (xs : List Site) → holds s l ≡ false → Rest s (l + 1) xs → (so_far : LocSet) → IsWords so_far
      → (ls : List Lexeme) → AreNamesOf bytes ls (names_from s (l + 1) xs) → IsJoined bytes known so_far s l (x ∷ xs) ls
  absent s l x xs off rest so_far fine ls are =
      let y = rest so_far fine ls are in
      record {
        all = y.all;
        is = y.is;
        words = y.words;
        has = λ m low. y.has m low ∙ leave_out (holds so_far m) (m == l) (is_among s (l + 1) xs m) ∙ ap (λ (b : Bool). holds so_far m || ((m == l && b) || is_among s (l + 1) xs m)) (sym off);
      }

  joined_more : (so_far t all : LocSet) (k : Lexeme) (ks : List Lexeme) → set_at bytes known k ≡ Ok t → joined bytes known (union_of so_far t) ks ≡ Ok all → joined bytes known so_far (k ∷ ks) ≡ Ok all
  joined_more so_far t all k ks first more = rw (first, more) refl

  present : (s : LocSet) (l : ℕ) (x : Site) (xs : List Site) → l < 768 → set_named known x.name ≡ Some (with_location no_location l)
      → holds s l ≡ true → Rest s (l + 1) xs → (so_far : LocSet) → IsWords so_far → (ls : List Lexeme)
      → AreNamesOf bytes ls (x.name ∷ names_from s (l + 1) xs) → IsJoined bytes known so_far s l (x ∷ xs) ls
  present s l x xs small found on rest so_far fine [] are = absurd are
  present s l x xs small found on rest so_far fine (k ∷ ks) are =
      let t : LocSet = with_location no_location l in
      let words : IsWords t = IsWords-with no_location l small IsWords-none in
      let y = rest (union_of so_far t) (IsWords-union so_far t fine words) ks are.1 in
      record {
        all = y.all;
        is = joined_more so_far t y.all k ks (set_there bytes known k x.name t are.0 found) y.is;
        words = y.words;
        has = λ m low.
            y.has m low ∙ ap (λ (b : Bool). b || is_among s (l + 1) xs m) (holds-union so_far t m low ∙ ap (λ (b : Bool). holds so_far m || b) (one_set l m small low))
            ∙ take_in (holds so_far m) (m == l) (is_among s (l + 1) xs m) ∙ ap (λ (b : Bool). holds so_far m || ((m == l && b) || is_among s (l + 1) xs m)) (sym on);
      }

  by_held : (s : LocSet) (l : ℕ) (x : Site) (xs : List Site) → l < 768 → set_named known x.name ≡ Some (with_location no_location l)
      → Rest s (l + 1) xs → (so_far : LocSet) → IsWords so_far → (ls : List Lexeme) (b : Bool) → holds s l ≡ b
      → AreNamesOf bytes ls (if b then x.name ∷ names_from s (l + 1) xs else names_from s (l + 1) xs) → IsJoined bytes known so_far s l (x ∷ xs) ls
  by_held s l x xs small found rest so_far fine ls true on are = present s l x xs small found on rest so_far fine ls are
  by_held s l x xs small found rest so_far fine ls false off are = absent s l x xs off rest so_far fine ls are

  joins : (s : LocSet) (xs pre : List Site) (l : ℕ) → l ≡ length pre → whole ≡ pre ++ xs → Rest s l xs
  joins s [] pre l at is so_far fine [] are = record { all = so_far; is = refl; words = fine; has = λ m low. sym (or-false (holds so_far m)) }
  joins s [] pre l at is so_far fine (k ∷ ks) are = absurd are
  joins s (x ∷ xs) pre l at is so_far fine ls are =
      let size : length whole ≡ length pre + length (x ∷ xs) = ap (λ (w : List Site). length w) is ∙ length-append pre (x ∷ xs) in
      let place : Some (with_location no_location (length pre)) ≡ Some (with_location no_location l) = ap (λ (n : ℕ). Some (with_location no_location n)) (sym at) in
      by_held s l x xs (omega (arith, at, size, small)) (here pre x xs is ∙ place)
      (joins s xs (pre ++ x ∷ []) (l + 1) (omega (arith, at, length-append pre (x ∷ []))) (is ∙ sym (append_assoc pre (x ∷ []) xs)))
      so_far fine ls (holds s l) refl are

  -- the names of a set stand for it
  pub set_of_names-there : (s : LocSet) → IsWords s → ((l : ℕ) → IsTrue (holds s l) → l < length whole) → (ls : List Lexeme)
      → AreNamesOf bytes ls (names_from s 0 whole) → set_of_names bytes known ls ≡ Ok s
  set_of_names-there s fine within ls are =
      let y = joins s whole [] 0 refl refl no_location IsWords-none ls are in
      y.is ∙ ap Ok (same_sets y.all s y.words fine (λ m low. y.has m low ∙ ap (λ (b : Bool). b || is_among s 0 whole m) (holds-none m low) ∙ held m)) where
        held : (m : ℕ) → is_among s 0 whole m ≡ holds s m
        held m = elim (cases_lt m (length whole)) [
          | inl low ↦ among_inside s 0 whole m (omega arith) (omega (arith, low))
          | inr high ↦ among_past s 0 whole m (omega (arith, high)) ∙ sym (false_from_ne_true (holds s m) (λ on. omega (arith, high, within m on)))
        ]
