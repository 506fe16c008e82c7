-- The reversed expression holds a list where the expression holds the reversed list.
use Rattle.std.proofs.Common.{◌≡◌, ℕ, zero, suc, ◌≤◌, List, [], ◌∷◌, ◌++◌, length, reverse, Bool, true, false, not, ◌&&◌, ◌||◌, refl, sym, ap, ◌∙◌, arith}
use Rattle.std.proofs.lemmas.List.{reverse-append}
use Rattle.std.proofs.Math.Bool.{and-false, or_comm, or_assoc}
use Rattle.path_exprs.specs.Expression.{Expression, never, empty, set, seq, either, both, complement, star, Expressions, none, more}
use Rattle.path_exprs.specs.Language.{Language, nothing, one_of, divides, goes_on, repeats}
use Rattle.net_base.specs.declared.loc.LocSet.{LocSet}
use Rattle.net_base.specs.Sets.{holds}
use Rattle.path_exprs.specs.Membership.{member, some_member, each_member}
use Rattle.path_exprs.specs.Normal.{reversed, reversed_each}
use Rattle.path_law.proofs.Languages.{Same, divides_same, divides-or, divides-and, goes_on-divides}

-- `reverse` by recursion
abbrev backwards : List ℕ → List ℕ
backwards [] = []
backwards (x ∷ xs) = backwards xs ++ x ∷ []

reverse-backwards : (xs : List ℕ) → reverse xs ≡ backwards xs
reverse-backwards [] = refl
reverse-backwards (x ∷ xs) = reverse-append (x ∷ []) xs ∙ ap (λ ys. ys ++ x ∷ []) (reverse-backwards xs)

-- the cut behind the last location, and the cuts before it
pub divides-snoc : (p q : Language) (xs : List ℕ) (x : ℕ) →
    divides p q (xs ++ x ∷ []) ≡ (divides p (λ ys. q (ys ++ x ∷ [])) xs || (p (xs ++ x ∷ []) && q []))
divides-snoc p q [] x = refl
divides-snoc p q (y ∷ ys) x =
    ap (λ b. (p [] && q (y ∷ (ys ++ x ∷ []))) || b) (divides-snoc (λ zs. p (y ∷ zs)) q ys x)
    ∙ sym (or_assoc (p [] && q (y ∷ (ys ++ x ∷ []))) (divides (λ zs. p (y ∷ zs)) (λ zs. q (zs ++ x ∷ [])) ys) (p (y ∷ (ys ++ x ∷ [])) && q []))

flip : (a b c : Bool) → (c || (a && b)) ≡ ((b && a) || c)
flip true true true = refl
flip true true false = refl
flip true false true = refl
flip true false false = refl
flip false true true = refl
flip false true false = refl
flip false false true = refl
flip false false false = refl

pub divides-backwards : (p q : Language) (xs : List ℕ) → divides p q (backwards xs) ≡ divides (λ ys. q (backwards ys)) (λ ys. p (backwards ys)) xs
divides-backwards p q [] = flip (p []) (q []) false ∙ or_comm (q [] && p []) false
divides-backwards p q (x ∷ xs) =
    divides-snoc p q (backwards xs) x
    ∙ ap (λ b. b || (p (backwards xs ++ x ∷ []) && q [])) (divides-backwards p (λ ys. q (ys ++ x ∷ [])) xs)
    ∙ flip (p (backwards xs ++ x ∷ [])) (q []) (divides (λ ys. q (backwards ys ++ x ∷ [])) (λ ys. p (backwards ys)) xs)

-- the last piece, with the last location in it
last_piece : (a b c d e f : Bool) → ((a && (b || c)) || (d || e)) ≡ (d || ((a && b) || ((a && c) || e)))
last_piece true true c true e f = refl
last_piece true true c false e f = refl
last_piece true false true true e f = refl
last_piece true false true false e f = refl
last_piece true false false d e f = refl
last_piece false b c true e f = refl
last_piece false b c false e f = refl

goes_on-snoc : (p q : Language) (xs : List ℕ) (x : ℕ) →
    goes_on p q (xs ++ x ∷ []) ≡ (q (xs ++ x ∷ []) || divides (goes_on p q) (λ ys. p (ys ++ x ∷ [])) xs)
goes_on-snoc p q [] x = or_comm (q [] && p (x ∷ [])) (q (x ∷ []))
goes_on-snoc p q (y ∷ ys) x =
    let py : Language = λ zs. p (y ∷ zs) in
    let qy : Language = λ zs. q (y ∷ zs) in
    let ends : Language = λ zs. p (zs ++ x ∷ []) in
    ap (λ b. (q [] && b) || goes_on p qy (ys ++ x ∷ [])) (goes_on-snoc p py ys x)
    ∙ ap (λ b. (q [] && (py (ys ++ x ∷ []) || divides (goes_on p py) ends ys)) || b) (goes_on-snoc p qy ys x)
    ∙ last_piece (q []) (py (ys ++ x ∷ [])) (divides (goes_on p py) ends ys) (qy (ys ++ x ∷ [])) (divides (goes_on p qy) ends ys) true
    ∙ ap (λ b. qy (ys ++ x ∷ []) || ((q [] && py (ys ++ x ∷ [])) || b))
    (sym (divides-or (λ zs. q [] && goes_on p py zs) (goes_on p qy) ends ys ∙ ap (λ b. b || divides (goes_on p qy) ends ys) (divides-and (q []) (goes_on p py) ends ys)))

repeats-snoc : (p : Language) (xs : List ℕ) (x : ℕ) → repeats p (xs ++ x ∷ []) ≡ divides (repeats p) (λ ys. p (ys ++ x ∷ [])) xs
repeats-snoc p [] x = refl
repeats-snoc p (y ∷ ys) x = goes_on-snoc p (λ zs. p (y ∷ zs)) ys x

divides_up_to : (p q r : Language) (xs : List ℕ) → ((ys : List ℕ) → length ys ≤ length xs → q ys ≡ r ys) → divides p q xs ≡ divides p r xs
divides_up_to p q r [] h = ap (λ b. p [] && b) (h [] (omega arith))
divides_up_to p q r (x ∷ xs) h =
    ap (λ b. (p [] && b) || divides (λ ys. p (x ∷ ys)) q xs) (h (x ∷ xs) (omega arith))
    ∙ ap (λ b. (p [] && r (x ∷ xs)) || b) (divides_up_to (λ ys. p (x ∷ ys)) q r xs (λ ys k. h ys (omega arith)))

repeats-backwards-up_to : (n : ℕ) (p : Language) (xs : List ℕ) → length xs ≤ n → repeats p (backwards xs) ≡ repeats (λ ys. p (backwards ys)) xs
repeats-backwards-up_to n p [] k = refl
repeats-backwards-up_to zero p (x ∷ xs) k = absurd (omega arith)
repeats-backwards-up_to (suc n) p (x ∷ xs) k =
    repeats-snoc p (backwards xs) x
    ∙ divides-backwards (repeats p) (λ ys. p (ys ++ x ∷ [])) xs
    ∙ divides_up_to (λ ys. p (backwards ys ++ x ∷ [])) (λ ys. repeats p (backwards ys)) (repeats (λ ys. p (backwards ys))) xs
    (λ ys j. repeats-backwards-up_to n p ys (omega arith))
    ∙ sym (goes_on-divides (λ ys. p (backwards ys)) (λ ys. p (backwards ys ++ x ∷ [])) xs)

pub repeats-backwards : (p : Language) (xs : List ℕ) → repeats p (backwards xs) ≡ repeats (λ ys. p (backwards ys)) xs
repeats-backwards p xs = repeats-backwards-up_to (length xs) p xs (omega arith)

repeats_same : (p q : Language) → Same p q → Same (repeats p) (repeats q)
repeats_same p q h xs = let e : p ≡ q = λ i. λ ys. h ys i in ap (λ r. repeats r xs) e

nothing-snoc : (xs : List ℕ) (x : ℕ) → nothing (xs ++ x ∷ []) ≡ false
nothing-snoc [] x = refl
nothing-snoc (y ∷ ys) x = refl

nothing-backwards : (xs : List ℕ) → nothing xs ≡ nothing (backwards xs)
nothing-backwards [] = refl
nothing-backwards (x ∷ xs) = sym (nothing-snoc (backwards xs) x)

one_of-long : (s : LocSet) (xs : List ℕ) (y x : ℕ) → one_of s ((xs ++ y ∷ []) ++ x ∷ []) ≡ false
one_of-long s [] y x = and-false (holds s y)
one_of-long s (z ∷ zs) y x = ap (λ b. holds s z && b) (nothing-snoc (zs ++ y ∷ []) x) ∙ and-false (holds s z)

one_of-backwards : (s : LocSet) (xs : List ℕ) → one_of s xs ≡ one_of s (backwards xs)
one_of-backwards s [] = refl
one_of-backwards s (x ∷ []) = refl
one_of-backwards s (x ∷ y ∷ zs) = and-false (holds s x) ∙ sym (one_of-long s (backwards zs) y x)

mutual
  member-backwards : (e : Expression) (xs : List ℕ) → member (reversed e) xs ≡ member e (backwards xs)
  member-backwards never xs = refl
  member-backwards empty xs = nothing-backwards xs
  member-backwards (set s) xs = one_of-backwards s xs
  member-backwards (seq a b) xs =
      divides_same (member (reversed b)) (λ ys. member b (backwards ys)) (member (reversed a)) (λ ys. member a (backwards ys)) (member-backwards b) (member-backwards a) xs
      ∙ sym (divides-backwards (member a) (member b) xs)
  member-backwards (either es) xs = some_member-backwards es xs
  member-backwards (both es) xs = each_member-backwards es xs
  member-backwards (complement a) xs = ap not (member-backwards a xs)
  member-backwards (star a) xs =
      repeats_same (member (reversed a)) (λ ys. member a (backwards ys)) (member-backwards a) xs ∙ sym (repeats-backwards (member a) xs)

  some_member-backwards : (es : Expressions) (xs : List ℕ) → some_member (reversed_each es) xs ≡ some_member es (backwards xs)
  some_member-backwards none xs = refl
  some_member-backwards (more e es) xs =
      ap (λ t. t || some_member (reversed_each es) xs) (member-backwards e xs) ∙ ap (λ t. member e (backwards xs) || t) (some_member-backwards es xs)

  each_member-backwards : (es : Expressions) (xs : List ℕ) → each_member (reversed_each es) xs ≡ each_member es (backwards xs)
  each_member-backwards none xs = refl
  each_member-backwards (more e es) xs =
      ap (λ t. t && each_member (reversed_each es) xs) (member-backwards e xs) ∙ ap (λ t. member e (backwards xs) && t) (each_member-backwards es xs)

pub member-reversed : (e : Expression) (xs : List ℕ) → member (reversed e) xs ≡ member e (reverse xs)
member-reversed e xs = member-backwards e xs ∙ ap (member e) (sym (reverse-backwards xs))
