-- The test `member` says what `Member` says.
use Rattle.std.proofs.Common.{zero, suc, ◌≤◌, length, length-append, arith, ◌≡◌, ◌↔◌, inl, inr, ⊎_elim, ℕ, List, [], ◌∷◌, ◌++◌, true, ◌&&◌, refl, sym, ap, ◌∙◌, subst}
use Rattle.std.proofs.lemmas.Bool.{and_parts, and_from, or_cases, or_left, or_right, not-true, not_from_false, false_from_ne_true, both_ways}
use Rattle.path_exprs.specs.Expression.{Expression, never, empty, set, seq, either, both, complement, star, Expressions, none, more}
use Rattle.path_exprs.specs.Language.{Language, nothing, one_of, divides, repeats}
use Rattle.net_base.specs.declared.loc.LocSet.{LocSet}
use Rattle.net_base.specs.Sets.{holds}
use Rattle.path_exprs.specs.Membership.{Member, SomeMember, EachMember, Pieces, no_piece, next_piece, member, some_member, each_member}
use Rattle.path_law.proofs.Languages.{goes_on-divides}

-- a cut, where the language divides the list
divides-cut : (p q : Language) (xs : List ℕ) → divides p q xs ≡ true → (ys zs : List ℕ) × (xs ≡ ys ++ zs) × (p ys ≡ true) × (q zs ≡ true)
divides-cut p q [] h = let parts = and_parts (p []) (q []) h in ([], [], refl, parts.0, parts.1)
divides-cut p q (x ∷ xs) h =
    ⊎_elim
    (λ here. let parts = and_parts (p []) (q (x ∷ xs)) here in ([], x ∷ xs, refl, parts.0, parts.1))
    (λ later. let cut = divides-cut (λ ys. p (x ∷ ys)) q xs later in (x ∷ cut.0, cut.1, ap (λ l. x ∷ l) cut.2, cut.3, cut.4))
    (or_cases (p [] && q (x ∷ xs)) (divides (λ ys. p (x ∷ ys)) q xs) h)

divides-at : (p q : Language) (ys zs : List ℕ) → p ys ≡ true → q zs ≡ true → divides p q (ys ++ zs) ≡ true
divides-at p q [] [] h k = and_from (p []) (q []) h k
divides-at p q [] (z ∷ zs) h k = or_left (p [] && q (z ∷ zs)) (divides (λ ys. p (z ∷ ys)) q zs) (and_from (p []) (q (z ∷ zs)) h k)
divides-at p q (y ∷ ys) zs h k = or_right (p [] && q (y ∷ (ys ++ zs))) (divides (λ l. p (y ∷ l)) q (ys ++ zs)) (divides-at (λ l. p (y ∷ l)) q ys zs h k)

nothing-empty : (xs : List ℕ) → nothing xs ≡ true → xs ≡ []
nothing-empty [] h = refl
nothing-empty (x ∷ xs) h = cc

-- pieces of a language given by facts
pieces-repeats : (P : List ℕ → Type 0) (p : Language) → ((xs : List ℕ) → P xs → p xs ≡ true) → (xs : List ℕ) → Pieces P xs → repeats p xs ≡ true
pieces-repeats P p each _ no_piece = refl
pieces-repeats P p each _ (next_piece x xs rest h others) =
    goes_on-divides p (λ ys. p (x ∷ ys)) (xs ++ rest)
    ∙ divides-at (λ ys. p (x ∷ ys)) (repeats p) xs rest (each (x ∷ xs) h) (pieces-repeats P p each rest others)

repeats-pieces_up_to : (n : ℕ) (P : List ℕ → Type 0) (p : Language) → ((xs : List ℕ) → p xs ≡ true → P xs) → (xs : List ℕ) → length xs ≤ n → repeats p xs ≡ true → Pieces P xs
repeats-pieces_up_to n P p each [] k h = no_piece
repeats-pieces_up_to zero P p each (x ∷ xs) k h = absurd (omega arith)
repeats-pieces_up_to (suc n) P p each (x ∷ xs) k h =
    let cut = divides-cut (λ ys. p (x ∷ ys)) (repeats p) xs (sym (goes_on-divides p (λ ys. p (x ∷ ys)) xs) ∙ h) in
    let rest = repeats-pieces_up_to n P p each cut.1 (omega (arith, ap length cut.2, length-append cut.0 cut.1)) cut.4 in
    subst (λ l. Pieces P (x ∷ l)) (sym cut.2) (next_piece x cut.0 cut.1 (each (x ∷ cut.0) cut.3) rest)

repeats-pieces : (P : List ℕ → Type 0) (p : Language) → ((xs : List ℕ) → p xs ≡ true → P xs) → (xs : List ℕ) → repeats p xs ≡ true → Pieces P xs
repeats-pieces P p each xs h = repeats-pieces_up_to (length xs) P p each xs (omega arith) h

one_of-holds : (s : LocSet) (xs : List ℕ) → one_of s xs ≡ true → (x : ℕ) × (holds s x ≡ true) × (xs ≡ x ∷ [])
one_of-holds s [] h = cc
one_of-holds s (x ∷ xs) h =
    let parts = and_parts (holds s x) (nothing xs) h in
    (x, parts.0, ap (λ l. x ∷ l) (nothing-empty xs parts.1))

mutual
  pub to-Member : (e : Expression) (xs : List ℕ) → member e xs ≡ true → Member e xs
  to-Member never xs h = cc
  to-Member empty xs h = nothing-empty xs h
  to-Member (set s) xs h = one_of-holds s xs h
  to-Member (seq a b) xs h =
      let cut = divides-cut (member a) (member b) xs h in
      (cut.0, cut.1, cut.2, to-Member a cut.0 cut.3, to-Member b cut.1 cut.4)
  to-Member (either es) xs h = to-SomeMember es xs h
  to-Member (both es) xs h = to-EachMember es xs h
  to-Member (complement a) xs h = λ m. both_ways (member a xs) (not-true (member a xs) h) (from-Member a xs m)
  to-Member (star a) xs h = repeats-pieces (Member a) (member a) (to-Member a) xs h

  pub from-Member : (e : Expression) (xs : List ℕ) → Member e xs → member e xs ≡ true
  from-Member never xs m = absurd m
  from-Member empty xs m = ap nothing m
  from-Member (set s) xs m = ap (one_of s) m.2 ∙ ap (λ b. b && true) m.1
  from-Member (seq a b) xs m =
      ap (divides (member a) (member b)) m.2
      ∙ divides-at (member a) (member b) m.0 m.1 (from-Member a m.0 m.3) (from-Member b m.1 m.4)
  from-Member (either es) xs m = from-SomeMember es xs m
  from-Member (both es) xs m = from-EachMember es xs m
  from-Member (complement a) xs m = not_from_false (member a xs) (false_from_ne_true (member a xs) (λ h. m (to-Member a xs h)))
  from-Member (star a) xs m = pieces-repeats (Member a) (member a) (from-Member a) xs m

  to-SomeMember : (es : Expressions) (xs : List ℕ) → some_member es xs ≡ true → SomeMember es xs
  to-SomeMember none xs h = cc
  to-SomeMember (more e es) xs h = ⊎_elim (λ k. inl (to-Member e xs k)) (λ k. inr (to-SomeMember es xs k)) (or_cases (member e xs) (some_member es xs) h)

  to-EachMember : (es : Expressions) (xs : List ℕ) → each_member es xs ≡ true → EachMember es xs
  to-EachMember none xs h = tt
  to-EachMember (more e es) xs h =
      let parts = and_parts (member e xs) (each_member es xs) h in
      (to-Member e xs parts.0, to-EachMember es xs parts.1)

  from-SomeMember : (es : Expressions) (xs : List ℕ) → SomeMember es xs → some_member es xs ≡ true
  from-SomeMember none xs m = absurd m
  from-SomeMember (more e es) xs m =
      ⊎_elim (λ k. or_left (member e xs) (some_member es xs) (from-Member e xs k)) (λ k. or_right (member e xs) (some_member es xs) (from-SomeMember es xs k)) m

  from-EachMember : (es : Expressions) (xs : List ℕ) → EachMember es xs → each_member es xs ≡ true
  from-EachMember none xs m = refl
  from-EachMember (more e es) xs m = and_from (member e xs) (each_member es xs) (from-Member e xs m.0) (from-EachMember es xs m.1)

pub member-Member : (e : Expression) (xs : List ℕ) → (member e xs ≡ true) ↔ Member e xs
member-Member e xs = (to-Member e xs, from-Member e xs)
