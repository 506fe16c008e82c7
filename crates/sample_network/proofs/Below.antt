-- What is made of the numbers below another.
use Rattle.std.proofs.Common.{◌≡◌, ℕ, ◌<◌, Bool, true, false, List, [], ◌∷◌, ◌++◌, map}
use Rattle.std.specs.List.{AllByRecursion, IsDistinct, flat_map, list_all}
use Rattle.list_law.proofs.Each.{AllByRecursion-append, AllByRecursion-from_list_all, AllByRecursion-map, AllByRecursion-weaker, AllByRecursion_at}
use Rattle.list_law.proofs.Keys.{IsDistinct-sorted_keys}
use Rattle.net_base.specs.Locations.{numbers_below}
use Rattle.net_base.proofs.NumbersBelow.{numbers-below, slice_get-numbers_below, sorted_numbers}

-- what holds of each
pub each_below : {A : Type 0} (P : A → Type 0) (f : ℕ → A) (n : ℕ) → ((k : ℕ) → k < n → P (f k)) → AllByRecursion P (map f (numbers_below n))
each_below P f n one = AllByRecursion-map f P (numbers_below n) (AllByRecursion-weaker (λ k. k < n) (λ k. P (f k)) (numbers_below n) one (numbers-below n))

-- a test of each number is run
pub tested_below : (p : ℕ → Bool) (n k : ℕ) → list_all p (numbers_below n) ≡ true → k < n → p k ≡ true
tested_below p n k all low =
    AllByRecursion_at (λ (k : ℕ). p k ≡ true) (numbers_below n) k k
    (AllByRecursion-from_list_all (λ (k : ℕ). p k ≡ true) p (λ k h. h) (numbers_below n) all) (slice_get-numbers_below n k low)

-- those that differ are distinct
pub distinct_below : {K : Type 0} (e : K → K → Bool) (f : ℕ → K) (n : ℕ) → ((i j : ℕ) → i < j → j < n → e (f i) (f j) ≡ false) → IsDistinct e (map f (numbers_below n))
distinct_below e f n apart = IsDistinct-sorted_keys e f n (numbers_below n) (sorted_numbers n) (numbers-below n) apart

pub distinct_append : {K : Type 0} (e : K → K → Bool) (xs ys : List K) → IsDistinct e xs → IsDistinct e ys → AllByRecursion (λ x. AllByRecursion (λ y. e x y ≡ false) ys) xs → IsDistinct e (xs ++ ys)
unfolding IsDistinct
distinct_append e [] ys a b c = b
distinct_append e (x ∷ xs) ys a b c = (AllByRecursion-append (λ y. e x y ≡ false) xs ys a.0 c.0, distinct_append e xs ys a.1 b c.1)

-- each of some differs from each of others
pub across_below : {K : Type 0} (e : K → K → Bool) (f g : ℕ → K) (n m : ℕ) → ((i j : ℕ) → i < n → j < m → e (f i) (g j) ≡ false)
    → AllByRecursion (λ x. AllByRecursion (λ y. e x y ≡ false) (map g (numbers_below m))) (map f (numbers_below n))
across_below e f g n m apart = each_below (λ x. AllByRecursion (λ y. e x y ≡ false) (map g (numbers_below m))) f n (λ i low. each_below (λ y. e (f i) y ≡ false) g m (λ j small. apart i j low small))

pub all_flat : {A B : Type 0} (P : B → Type 0) (f : A → List B) (xs : List A) → AllByRecursion (λ x. AllByRecursion P (f x)) xs → AllByRecursion P (flat_map f xs)
all_flat P f [] h = tt
all_flat P f (x ∷ xs) h = AllByRecursion-append P (f x) (flat_map f xs) h.0 (all_flat P f xs h.1)
