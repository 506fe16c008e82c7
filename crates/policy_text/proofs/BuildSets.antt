-- The sets that printed arguments stand for.
use Rattle.std.proofs.Common.{◌≡◌, ℕ, ◌+◌, ◌<◌, ◌≤◌, List, [], ◌∷◌, ◌++◌, length, Bool, true, false, Ok, refl, sym, ap, ◌∙◌, subst, arith, append_assoc, append-nil, length-append, inl, inr}
use Rattle.std.specs.Prelude.{◌⊎◌, nat_lt, if◌then◌else◌, IsTrue}
use Rattle.std.specs.List.{AllByRecursion, IsDistinct}
use Rattle.std.specs.Str.{bytes_eq}
use Rattle.std.proofs.lemmas.Bool.{eqb-true, eq-eqb, lt-ltb, le-ltb, cases_lt, ltb-true, false_from_ne_true}
use Rattle.net_base.specs.declared.loc.LocSet.{LocSet}
use Rattle.net_base.specs.declared.net.Site.{Site}
use Rattle.net_base.specs.Sets.{holds, IsWords}
use Rattle.net_base.specs.Network.{PlainNet, sites, is_location}
use Rattle.net_base.proofs.StepLemmas.{bind_ok}
use Rattle.policy_grammar.specs.declared.lexeme.Lexeme.{Lexeme}
use Rattle.policy_grammar.specs.Raw.{Arg, Arg as arg}
use Rattle.net_base.specs.NetSets.{locations}
use Rattle.net_base.specs.SetOperations.{no_location, union_of}
use Rattle.policy_rules.specs.KnownNames.{Names}
use Rattle.policy_rules.specs.Checks.{set_at, joined, set_of_names, each, name_known, arg_known}
use Rattle.policy_values.specs.Built.{set_of_arg, sets_of}
use Rattle.policy_text.specs.PolicyText.{names_from, names_in, are_all}
use Rattle.policy_text.specs.Printable.{HoldsOnly, HoldsSome}
use Rattle.policy_text.proofs.Readings.{Pairs}
use Rattle.policy_text.proofs.ReadSets.{AreNamesOf, AreFilled}
use Rattle.policy_text.proofs.ReadCalls.{IsSetArg, IsFilled}
use Rattle.policy_text.proofs.ReadItems.{IsNamed}
use Rattle.net_base.proofs.SetLaws.{same_sets, IsWords-set_of}
use Rattle.net_base.proofs.SetOf.{holds-set_of}
use Rattle.policy_text.proofs.Lookups.{site_names}
use Rattle.policy_text.proofs.Unions.{sites_known, set_of_names-there}

-- the names where a site has one, and where it hasn't
abbrev with_or_without : Bool → List ℕ → List (List ℕ) → List (List ℕ)
with_or_without b n ns = if b then n ∷ ns else ns

one_more : (b : Bool) (n : List ℕ) (ns : List (List ℕ)) (most : ℕ) → length ns ≤ most → length (with_or_without b n ns) ≤ most + 1
one_more true n ns most few = omega (arith, few)
one_more false n ns most few = omega (arith, few)

-- no more names than sites
names_within : (s : LocSet) (l : ℕ) (xs : List Site) → length (names_from s l xs) ≤ length xs
names_within s l [] = omega arith
names_within s l (x ∷ xs) = omega (arith, one_more (holds s l) x.name (names_from s (l + 1) xs) (length xs) (names_within s (l + 1) xs))

full_here : (b : Bool) (n : List ℕ) (ns : List (List ℕ)) (most : ℕ) → length ns ≤ most → length (with_or_without b n ns) ≡ most + 1 → (b ≡ true) × (length ns ≡ most)
full_here true n ns most few full = (refl, omega (arith, full))
full_here false n ns most few full = absurd (omega (arith, few, full))

-- a set with a name for each site holds them all
held_all : (s : LocSet) (l : ℕ) (xs : List Site) → length (names_from s l xs) ≡ length xs → (m : ℕ) → l ≤ m → m < l + length xs → holds s m ≡ true
held_all s l [] full m high low = absurd (omega (arith, high, low))
held_all s l (x ∷ xs) full m high low =
    let next : length (x ∷ xs) ≡ length xs + 1 = omega arith in
    let h = full_here (holds s l) x.name (names_from s (l + 1) xs) (length xs) (names_within s (l + 1) xs) (full ∙ next) in
    elim (cases_lt l m) [
      | inl more ↦ held_all s (l + 1) xs h.1 m (omega (arith, more)) (omega (arith, low))
      | inr here ↦ let same : m ≡ l = omega (arith, high, here) in ap (holds s) same ∙ h.0
    ]

-- the list has a first item
abbrev HasFirst : List (List ℕ) → Type 0
HasFirst names = (n : List ℕ) × (ns : List (List ℕ)) × (names ≡ n ∷ ns)

first_or_later : (b : Bool) (n : List ℕ) (ns : List (List ℕ)) → (b ≡ false → HasFirst ns) → HasFirst (with_or_without b n ns)
first_or_later true n ns later = (n, ns, refl)
first_or_later false n ns later = later refl

-- a set with a location has a name
some_name : (s : LocSet) (l : ℕ) (xs : List Site) (m : ℕ) → holds s m ≡ true → l ≤ m → m < l + length xs → HasFirst (names_from s l xs)
some_name s l [] m on high low = absurd (omega (arith, high, low))
some_name s l (x ∷ xs) m on high low = first_or_later (holds s l) x.name (names_from s (l + 1) xs) (λ off. elim (cases_lt l m) [
  | inl more ↦ some_name s (l + 1) xs m on (omega (arith, more)) (omega (arith, low))
  | inr last ↦ absurd (let same : m ≡ l = omega (arith, high, last) in let e : true ≡ false = sym on ∙ ap (holds s) same ∙ off in cc)
])

no_names : (s : LocSet) (l : ℕ) (xs : List Site) → length xs ≡ 0 → names_from s l xs ≡ []
no_names s l [] none = refl
no_names s l (x ∷ xs) none = absurd (omega (arith, none))

-- what was joined is known
each_known : (bytes : List ℕ) (known : Names) (so_far t : LocSet) (ls : List Lexeme) → joined bytes known so_far ls ≡ Ok t → each (name_known bytes known) ls ≡ Ok tt
each_known bytes known so_far t [] h = refl
each_known bytes known so_far t (l ∷ ls) h =
    let b = bind_ok (set_at bytes known l) (λ s. joined bytes known (union_of so_far s) ls) t h in
    rw (b.1, each_known bytes known (union_of so_far b.0) t ls b.2) refl

module _ (bytes : List ℕ) (net : PlainNet) (apart : IsDistinct bytes_eq (site_names (sites net))) (small : length (sites net) ≤ 768) where
  abbrev pub known : Names
  known = sites_known (sites net)

  count : length (sites net) ≡ length net.routers + length net.peers
  count = length-append net.routers net.peers

  -- twelve words, and locations of the net alone
  pub record IsSet (s : LocSet) : Type 0 where
    pub words : IsWords s
    pub within : HoldsOnly (is_location net) s

  inside : (s : LocSet) → IsSet s → (l : ℕ) → IsTrue (holds s l) → l < length (sites net)
  inside s fine l on = omega (arith, count, ltb-true l (length net.routers + length net.peers) (fine.within l on))

  pub names_stand : (s : LocSet) → IsSet s → (ls : List Lexeme) → AreNamesOf bytes ls (names_in net s) → set_of_names bytes known ls ≡ Ok s
  names_stand s fine ls are = set_of_names-there bytes (sites net) apart small s fine.words (inside s fine) ls are

  pub names_known : (s : LocSet) → IsSet s → (ls : List Lexeme) → AreNamesOf bytes ls (names_in net s) → each (name_known bytes known) ls ≡ Ok tt
  names_known s fine ls are = each_known bytes known no_location s ls (names_stand s fine ls are)

  -- a set of all locations is that of `any`
  all_stand : (s : LocSet) → IsSet s → are_all net (names_in net s) ≡ true → locations net ≡ s
  all_stand s fine all =
      let n : ℕ = length net.routers + length net.peers in
      let full : length (names_from s 0 (sites net)) ≡ length (sites net) = eqb-true _ n all ∙ sym count in
      same_sets (locations net) s (IsWords-set_of (is_location net)) fine.words (λ l small'. holds-set_of (is_location net) l small' ∙ held l full) where
        held : (l : ℕ) → length (names_from s 0 (sites net)) ≡ length (sites net) → nat_lt l (length net.routers + length net.peers) ≡ holds s l
        held l full = elim (cases_lt l (length net.routers + length net.peers)) [
          | inl low ↦ lt-ltb l (length net.routers + length net.peers) low ∙ sym (held_all s 0 (sites net) full l (omega arith) (omega (arith, low, count)))
          | inr high ↦ le-ltb l (length net.routers + length net.peers) high ∙ sym (false_from_ne_true (holds s l) (λ on. omega (arith, high, count, inside s fine l on)))
        ]

  pub arg_stands : (a : Arg) (s : LocSet) → IsSet s → IsSetArg bytes net a s → set_of_arg bytes net known a ≡ Ok s
  arg_stands arg.Any s fine all = ap Ok (all_stand s fine all)
  arg_stands (arg.Names ls) s fine are = names_stand s fine ls are

  pub arg_is_known : (a : Arg) (s : LocSet) → IsSet s → IsSetArg bytes net a s → arg_known bytes known a ≡ Ok tt
  arg_is_known arg.Any s fine all = refl
  arg_is_known (arg.Names ls) s fine are = names_known s fine ls are

  sets_more : (so_far sets : List LocSet) (s : LocSet) (a : Arg) (args : List Arg) → set_of_arg bytes net known a ≡ Ok s
      → sets_of bytes net known (so_far ++ s ∷ []) args ≡ Ok sets → sets_of bytes net known so_far (a ∷ args) ≡ Ok sets
  sets_more so_far sets s a args first more = rw (first, more) refl

  pub sets_stand : (args : List Arg) (sets so_far : List LocSet) → AllByRecursion IsSet sets → Pairs (IsSetArg bytes net) args sets → sets_of bytes net known so_far args ≡ Ok (so_far ++ sets)
  sets_stand [] [] so_far fine are = ap Ok (sym (append-nil so_far))
  sets_stand [] (s ∷ sets) so_far fine are = absurd are
  sets_stand (a ∷ args) [] so_far fine are = absurd are
  sets_stand (a ∷ args) (s ∷ sets) so_far fine are =
      sets_more so_far (so_far ++ s ∷ sets) s a args (arg_stands a s fine.0 are.0) (sets_stand args sets (so_far ++ s ∷ []) fine.1 are.1 ∙ ap Ok (append_assoc so_far (s ∷ []) sets))

  pub args_are_known : (args : List Arg) (sets : List LocSet) → AllByRecursion IsSet sets → Pairs (IsSetArg bytes net) args sets → each (arg_known bytes known) args ≡ Ok tt
  args_are_known [] [] fine are = refl
  args_are_known [] (s ∷ sets) fine are = absurd are
  args_are_known (a ∷ args) [] fine are = absurd are
  args_are_known (a ∷ args) (s ∷ sets) fine are = rw (arg_is_known a s fine.0 are.0, args_are_known args sets fine.1 are.1) refl

  -- a set that holds something has a name
  pub named : (s : LocSet) → IsSet s → HoldsSome s → IsNamed net s
  named s fine some = let x = some_name s 0 (sites net) some.0 some.1 (omega arith) (omega (arith, inside s fine some.0 some.1)) in (x.0, x.1, x.2)

  pub filled : (s : LocSet) → IsSet s → (HoldsSome s ⊎ (length net.routers + length net.peers ≡ 0)) → IsFilled net s
  filled s fine (inl some) = let x = named s fine some in subst (λ (ns : List (List ℕ)). AreFilled net ns) (sym x.2) tt
  filled s fine (inr none) = subst (λ (ns : List (List ℕ)). AreFilled net ns) (sym (no_names s 0 (sites net) (count ∙ none))) (eq-eqb 0 (length net.routers + length net.peers) (sym none))
