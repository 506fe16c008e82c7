-- The items of a list by their places.
use Rattle.std.proofs.Common.{◌++◌, ◌+◌, ◌-◌, Bool, Option, drop-cons, ◌<◌, ◌∙◌, ◌∷◌, ◌≡◌, ◌≤◌, ◌⊎◌, List, None, Some, [], ap, arith, drop, get_or, inl, inr, length, refl}
use Rattle.std.proofs.Common.{replicate, set, suc, sym, zero, ℕ}
use Rattle.std.specs.Option.{option_and_then}
use Rattle.std.specs.List.{AllByRecursion}
use Rattle.std.specs.Prelude.{slice_get, slice_index}
use Rattle.std.proofs.lemmas.List.{drop_more}
use Rattle.std.proofs.lemmas.Option.{get_or_from_slice_get, same_Some, slice_get_cases, slice_get_within}

pub slice_get_inside : {A : Type 0} (xs : List A) (i : ℕ) → i < length xs → (x : A) × (slice_get xs i ≡ Some x)
slice_get_inside xs i within = elim (slice_get_cases xs i).1 [ inl t ↦ (t.0, t.2) | inr t ↦ absurd (omega arith) ]

-- two items at one place are one
pub same_item : {A : Type 0} (xs : List A) (i j : ℕ) (x y : A) → slice_get xs i ≡ Some x → slice_get xs j ≡ Some y → i ≡ j → x ≡ y
same_item xs i j x y at_i at_j same = let both : Some x ≡ Some y = sym at_i ∙ ap (slice_get xs) same ∙ at_j in cc

-- lists with the same items at the same places are one
pub same_by_places : {A : Type 0} (xs ys : List A) → length xs ≡ length ys → ((i : ℕ) (x y : A) → slice_get xs i ≡ Some x → slice_get ys i ≡ Some y → x ≡ y) → xs ≡ ys
same_by_places [] [] long each = refl
same_by_places [] (y ∷ ys) long each = absurd (omega (arith, long))
same_by_places (x ∷ xs) [] long each = absurd (omega (arith, long))
same_by_places (x ∷ xs) (y ∷ ys) long each =
    let first = each 0 x y refl refl in
    let later = same_by_places xs ys (omega (arith, long)) (λ i v w at there. each (suc i) v w at there) in
    λ i. first i ∷ later i

pub slice_get-append_left : {A : Type 0} → (xs more : List A) (k : ℕ) → k < length xs → slice_get (xs ++ more) k ≡ slice_get xs k
slice_get-append_left [] more k h = absurd (omega arith)
slice_get-append_left (x ∷ xs) more zero h = refl
slice_get-append_left (x ∷ xs) more (suc k) h = slice_get-append_left xs more k (omega arith)

pub slice_get_in_front : {A : Type 0} (xs ys : List A) (i : ℕ) (x : A) → slice_get xs i ≡ Some x → slice_get (xs ++ ys) i ≡ Some x
slice_get_in_front [] ys i x at = absurd cc
slice_get_in_front (y ∷ xs) ys zero x at = at
slice_get_in_front (y ∷ xs) ys (suc i) x at = slice_get_in_front xs ys i x at

pub slice_get_behind : {A : Type 0} (xs ys : List A) (i : ℕ) (x : A) → slice_get ys i ≡ Some x → slice_get (xs ++ ys) (length xs + i) ≡ Some x
slice_get_behind [] ys i x h = let same : 0 + i ≡ i = omega arith in ap (slice_get ys) same ∙ h
slice_get_behind (y ∷ xs) ys i x h = let same : length (y ∷ xs) + i ≡ suc (length xs + i) = omega arith in ap (slice_get (y ∷ xs ++ ys)) same ∙ slice_get_behind xs ys i x h

pub from_front : {A : Type 0} (xs ys : List A) (i : ℕ) (x : A) → slice_get (xs ++ ys) i ≡ Some x → i < length xs → slice_get xs i ≡ Some x
from_front [] ys i x at within = absurd (omega (arith, within))
from_front (y ∷ xs) ys zero x at within = at
from_front (y ∷ xs) ys (suc i) x at within = from_front xs ys i x at (omega (arith, within))

pub from_behind : {A : Type 0} (xs ys : List A) (i : ℕ) (x : A) → slice_get (xs ++ ys) i ≡ Some x → length xs ≤ i → (j : ℕ) × (slice_get ys j ≡ Some x)
from_behind [] ys i x at past = (i, at)
from_behind (y ∷ xs) ys zero x at past = absurd (omega (arith, past))
from_behind (y ∷ xs) ys (suc i) x at past = from_behind xs ys i x at (omega (arith, past))

pub slice_get-there : {A : Type 0} (pre : List A) (x : A) (post : List A) → slice_get (pre ++ x ∷ post) (length pre) ≡ Some x
slice_get-there [] x post = refl
slice_get-there (y ∷ pre) x post = slice_get-there pre x post

pub drop_from : {A : Type 0} (xs : List A) (i : ℕ) (x : A) → slice_get xs i ≡ Some x → drop i xs ≡ x ∷ drop (i + 1) xs
drop_from xs i x at = drop_more xs i x (slice_get_within xs i x at) ∙ ap (λ y. y ∷ drop (i + 1) xs) (get_or_from_slice_get xs i x x at)

-- where all items are the default, a place past them has it too
pub get_or-replicate_same : {A : Type 0} (n i : ℕ) (x : A) → get_or (replicate n x) i x ≡ x
get_or-replicate_same zero i x = refl
get_or-replicate_same (suc n) zero x = refl
get_or-replicate_same (suc n) (suc i) x = get_or-replicate_same n i x

-- lists of options that give the same at each place, whether there is an item or not
pub same_options : {A : Type 0} (a b : List (Option A)) → length a ≡ length b
    → ((i : ℕ) → i < length a → option_and_then (λ (o : Option A). o) (slice_get a i) ≡ option_and_then (λ (o : Option A). o) (slice_get b i)) → a ≡ b
same_options [] [] size each = refl
same_options [] (y ∷ b) size each = absurd (cc)
same_options (x ∷ a) [] size each = absurd (cc)
same_options (x ∷ a) (y ∷ b) size each =
    let head : x ≡ y = each 0 (omega arith) in
    let less : length a ≡ length b = omega (arith, size) in
    let tail = same_options a b less (λ i h. each (suc i) (omega (arith, h))) in
    λ i. head i ∷ tail i

-- a test of each place beside the next one, which goes on where two of them answer `go`
pub pairs_next : (F : List ℕ → Bool) (p : ℕ → ℕ → Bool) (go : Bool) → ((x y : ℕ) (ys : List ℕ) → p x y ≡ go → F (x ∷ y ∷ ys) ≡ F (y ∷ ys))
    → (xs : List ℕ) (i k l : ℕ) → 1 ≤ i → i < length xs → k ≡ get_or xs (i - 1) k → l ≡ get_or xs i l → p k l ≡ go
    → F xs ≡ F (drop (i - 1) xs) → F xs ≡ F (drop (i + 1 - 1) xs)
pairs_next F p go step xs zero k l some within first second passed before = absurd (omega arith)
pairs_next F p go step xs (suc i) k l some within first second passed before =
    let here : suc i - 1 ≡ i = omega arith in
    let there : suc i + 1 - 1 ≡ suc i = omega arith in
    let at_k : k ≡ get_or xs i k = first ∙ ap (λ n. get_or xs n k) here in
    before ∙ ap (λ n. F (drop n xs)) here
    ∙ ap F (drop-cons xs i k (omega arith) ∙ ap (λ x. x ∷ drop (suc i) xs) (sym at_k) ∙ ap (λ ys. k ∷ ys) (drop-cons xs (suc i) l within ∙ ap (λ x. x ∷ drop (suc (suc i)) xs) (sym second)))
    ∙ step k l (drop (suc (suc i)) xs) passed
    ∙ ap F (ap (λ x. x ∷ drop (suc (suc i)) xs) second ∙ sym (drop-cons xs (suc i) l within))
    ∙ ap (λ n. F (drop n xs)) (sym there)

-- where one item of a list is set, what stands at a place is that item or what stood there
pub set_item : {A : Type 0} (xs : List A) (k : ℕ) (x : A) (i : ℕ) (y : A) → slice_get (set xs k x) i ≡ Some y → (y ≡ x) ⊎ (slice_get xs i ≡ Some y)
set_item [] k x i y at = inr at
set_item (z ∷ xs) zero x zero y at = inl (sym (same_Some x y at))
set_item (z ∷ xs) zero x (suc i) y at = inr at
set_item (z ∷ xs) (suc k) x zero y at = inr at
set_item (z ∷ xs) (suc k) x (suc i) y at = set_item xs k x i y at

-- a list of nothing has nothing
pub none_there : {A : Type 0} (n i : ℕ) (x : A) → slice_get (replicate n None) i ≡ Some (Some x) → ⊥
none_there zero i x at = absurd cc
none_there (suc n) zero x at = absurd cc
none_there (suc n) (suc i) x at = none_there n i x at

-- numbers that are below one at each place are all below it
pub all_below : (m : ℕ) (xs : List ℕ) → ((i : ℕ) → slice_index xs i < m) → AllByRecursion (λ x. x < m) xs
all_below m [] low = tt
all_below m (x ∷ xs) low = (low 0, all_below m xs (λ i. low (suc i)))
