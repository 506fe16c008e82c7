-- The place at which a test is first passed.
use Rattle.std.proofs.Common.{◌++◌, ◌+◌, ◌<◌, ◌∙◌, ◌∷◌, ◌≡◌, Bool, List, None, Option, Some, [], ap, arith, cond, false, get_or, length, length-append, lt-ltb, ltb-false}
use Rattle.std.proofs.Common.{ltb-true, map, refl, sym, take, true, ℕ}
use Rattle.std.specs.List.{find, list_all, list_any, position, position_or_len, prefix_len}
use Rattle.std.specs.Prelude.{nat_lt, not, slice_get}
use Rattle.std.proofs.lemmas.Bool.{and_parts, or_parts}
use Rattle.std.proofs.lemmas.List.{get_or-map, get_or-take, length-map, length-take-le}
use Rattle.std.proofs.lemmas.List.Folds.{find_at, list_any_at}
use Rattle.std.proofs.lemmas.List.Quantifiers.{position-Some}
use Rattle.std.proofs.lemmas.Option.{cond_some, slice_get-get_or, slice_get_past}
use Rattle.list_law.proofs.Numbers.{nat_lt-zero}
use Rattle.list_law.proofs.Tests.{list_any-not_found}
use Rattle.list_law.proofs.Truth.{same_tests}

pub prefix_len-map : {A B : Type 0} (p : B → Bool) (f : A → B) (xs : List A) → prefix_len p (map f xs) ≡ prefix_len (λ x. p (f x)) xs
prefix_len-map p f [] = refl
prefix_len-map p f (x ∷ xs) = rw (prefix_len-map p f xs) refl

pub position-map : {A B : Type 0} (p : B → Bool) (f : A → B) (xs : List A) → position p (map f xs) ≡ position (λ x. p (f x)) xs
position-map p f xs = rw (prefix_len-map (λ y. not (p y)) f xs, length-map) refl

pub prefix_len-append_all : {A : Type 0} (p : A → Bool) (bs t : List A) → list_all p bs ≡ true → prefix_len p t ≡ 0 → prefix_len p (bs ++ t) ≡ length bs
prefix_len-append_all p [] t all stop = stop
prefix_len-append_all p (b ∷ bs) t all stop =
    let h = and_parts (p b) (list_all p bs) all in
    rw (h.0, prefix_len-append_all p bs t h.1 stop) (omega arith)

pub position_or_len-there : {A : Type 0} (p : A → Bool) (pre : List A) (x : A) (post : List A) → list_any p pre ≡ false → p x ≡ true → prefix_len (λ y. not (p y)) (pre ++ x ∷ post) ≡ length pre
position_or_len-there p [] x post none here = rw here refl
position_or_len-there p (y ∷ pre) x post none here =
    let h = or_parts (p y) (list_any p pre) none in
    rw (h.0, position_or_len-there p pre x post h.1 here) (omega arith)

-- the first that passes is found at its place
pub position-there : {A : Type 0} (p : A → Bool) (pre : List A) (x : A) (post : List A) → list_any p pre ≡ false → p x ≡ true → position p (pre ++ x ∷ post) ≡ Some (length pre)
position-there p pre x post none here = rw (position_or_len-there p pre x post none here, lt-ltb (length pre) (length (pre ++ x ∷ post)) (omega (arith, length-append pre (x ∷ post)))) refl

pub position_or_len-first : {X : Type 0} (p : X → Bool) (x : X) (xs : List X) → p x ≡ true → position_or_len p (x ∷ xs) ≡ 0
position_or_len-first p x xs is = ap (λ b. cond (not b) (1 + position_or_len p xs) 0) is

pub position_or_len-next : {X : Type 0} (p : X → Bool) (x : X) (xs : List X) → p x ≡ false → position_or_len p (x ∷ xs) ≡ 1 + position_or_len p xs
position_or_len-next p x xs is = ap (λ b. cond (not b) (1 + position_or_len p xs) 0) is

pub find-position : {A : Type 0} (p : A → Bool) (xs : List A) (i : ℕ) → position p xs ≡ Some i → find p xs ≡ slice_get xs i
find-position p xs i h = find_at p xs ∙ ap (slice_get xs) (cond_some (nat_lt (position_or_len p xs) (length xs)) _ _ h).1

position_none : (b : Bool) (n : ℕ) → cond b (Some n) None ≡ (let r : Option ℕ = None in r) → b ≡ false
position_none true n h = absurd cc
position_none false n h = refl

pub find-no_position : {A : Type 0} (p : A → Bool) (xs : List A) → position p xs ≡ None → find p xs ≡ None
find-no_position p xs h =
    find_at p xs
    ∙ slice_get_past xs (position_or_len p xs)
    (omega (arith, ltb-false (position_or_len p xs) (length xs) (position_none (nat_lt (position_or_len p xs) (length xs)) _ h)))

pub list_any-no_position : {A : Type 0} (p : A → Bool) (xs : List A) → position p xs ≡ None → list_any p xs ≡ false
list_any-no_position p xs h = list_any-not_found p xs (find-no_position p xs h)

-- an item is among the first ones exactly where its place is before theirs end
pub list_any-position : {A : Type 0} (p : A → Bool) (ns ms : List A) → position_or_len p (ns ++ ms) < length (ns ++ ms) → list_any p ns ≡ nat_lt (position_or_len p (ns ++ ms)) (length ns)
list_any-position p [] ms within = sym (nat_lt-zero (position_or_len p ms))
list_any-position p (n ∷ ns) ms within = by (p n) refl (list_any-position p ns ms)
  where
    place : ℕ
    place = position_or_len p (ns ++ ms)

    by : (b : Bool) → p n ≡ b → (place < length (ns ++ ms) → list_any p ns ≡ nat_lt place (length ns)) → list_any p (n ∷ ns) ≡ nat_lt (position_or_len p (n ∷ ns ++ ms)) (length (n ∷ ns))
    by true e later = rw e (sym (lt-ltb 0 (length (n ∷ ns)) (omega arith)))
    by false e later = rw e (later (let w : 1 + place < length (n ∷ ns ++ ms) = rw e at within in omega (arith, w)) ∙ one_more place (length ns) ∙ ap (nat_lt (1 + place)) (omega arith))
      where
        one_more : (a b : ℕ) → nat_lt a b ≡ nat_lt (1 + a) (1 + b)
        one_more a b = same_tests _ _ (λ h. lt-ltb (1 + a) (1 + b) (omega (arith, ltb-true a b h))) (λ h. lt-ltb a b (omega (arith, ltb-true (1 + a) (1 + b) h)))

-- what has a place passes
pub list_any-at_position : {A : Type 0} (p : A → Bool) (xs : List A) (i : ℕ) → position p xs ≡ Some i → list_any p xs ≡ true
list_any-at_position p [] i h = absurd cc
list_any-at_position p (x ∷ xs) i h = let found = position-Some p (x ∷ xs) i x h in list_any_at p (x ∷ xs) i x found.0 found.1

-- the item at a place among the first n that passes first
pub find-earlier : {V A B : Type 0} (p : B → Bool) (key : A → B) (view : V → A) (vs : List V) (n i : ℕ) (y : V)
    → position p (map key (map view (take n vs))) ≡ Some i → n < length vs → y ≡ get_or vs i y
    → find (λ a. p (key a)) (map view (take n vs)) ≡ Some (view y)
find-earlier p key view vs n i y placed some is =
    let at = sym (position-map p key (map view (take n vs))) ∙ placed in
    let within = (position-Some (λ a. p (key a)) (map view (take n vs)) i (view y) at).0 in
    let inside : i < length (take n vs) = rw (length-map (take n vs) view) at within in
    find-position (λ a. p (key a)) (map view (take n vs)) i at
    ∙ slice_get-get_or (map view (take n vs)) i (view y) within
    ∙ ap Some (get_or-map view (take n vs) i y (view y) inside ∙ ap view (get_or-take n vs i y (omega (arith, inside, length-take-le n vs (omega (arith, some)))) ∙ sym is))
