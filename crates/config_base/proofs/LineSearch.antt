-- A binary search among lines that ascend finds the line of a key.
use Rattle.std.proofs.Common.{◌≡◌, ℕ, zero, suc, ◌<◌, Bool, true, false, List, [], ◌∷◌, length, map, get_or, Option, Some, None, refl, ap, ◌∙◌, arith, Bor}
use Rattle.std.specs.Prelude.{◌&&◌, ◌||◌, ◌==◌, nat_lt, is_some, slice_get, if◌then◌else◌}
use Rattle.std.specs.List.{find, list_any, AllByRecursion}
use Rattle.std.specs.List.Sorted.{IsPartitionedBy, IsPartitionPoint}
use Rattle.std.specs.Fn.{Mut, Called, ComputesKey}
use Rattle.std.proofs.lemmas.List.Sorted.{IsPartitionPoint-from_clause}
use Rattle.std.proofs.lemmas.Bool.Decides.{nat_tests}
use Rattle.list_law.proofs.Tests.{list_any-find}
use Rattle.config_base.specs.Configs.{Key, IsBelow, Ascend}

-- the first key stands above the second
abbrev pub above : Key → Key → Bool
above a b = nat_lt a.first b.first || (a.first == b.first && (nat_lt a.second b.second || (a.second == b.second && nat_lt a.third b.third)))

abbrev pub same_key : Key → Key → Bool
same_key a b = a.first == b.first && (a.second == b.second && a.third == b.third)

above_later : (a b k : Key) → IsBelow a b → above b k ≡ true → above a k ≡ true
above_later a b k below h = grind (arith, nat_tests)

above_differs : (a k : Key) → above a k ≡ true → same_key a k ≡ false
above_differs a k h = grind (arith, nat_tests)

later_differs : (a b k : Key) → IsBelow a b → above a k ≡ false → same_key b k ≡ false
later_differs a b k below h = grind (arith, nat_tests)

-- an element that has the key, where there is one
abbrev pub kept : {X : Type 0} → (X → Bool) → Option X → Option X
kept p None = None
kept p (Some x) = if p x then Some x else None

abbrev pub passes : {X : Type 0} → (X → Bool) → Option X → Bool
passes p None = false
passes p (Some x) = p x

is_some-kept : {X : Type 0} (p : X → Bool) (o : Option X) → is_some (kept p o) ≡ passes p o
is_some-kept p None = refl
is_some-kept p (Some x) = at_first (p x) refl
  where
    at_first : (b : Bool) → p x ≡ b → is_some (kept p (Some x)) ≡ p x
    at_first true is = rw is refl
    at_first false is = rw is refl

module _ {X : Type 0} (key : X → Key) where
  below_at : (k : Key) (xs : List X) → AllByRecursion (IsBelow k) (map key xs) → (j : ℕ) (d : X) → j < length xs → IsBelow k (key (get_or xs j d))
  below_at k [] all j d within = absurd (omega arith)
  below_at k (x ∷ xs) all zero d within = all.0
  below_at k (x ∷ xs) all (suc j) d within = below_at k xs all.1 j d (omega arith)

  parted : (k : Key) (xs : List X) → Ascend (map key xs) → IsPartitionedBy (λ x. above (key x) k) xs
  parted k [] up i j d le within h = absurd (omega arith)
  parted k (x ∷ xs) up zero zero d le within h = h
  parted k (x ∷ xs) up zero (suc j) d le within h = above_later _ _ k (below_at (key x) xs up.0 j d (omega arith)) h
  parted k (x ∷ xs) up (suc i) zero d le within h = absurd (omega arith)
  parted k (x ∷ xs) up (suc i) (suc j) d le within h = parted k xs up.1 i j d (omega arith) (omega arith) h

  none_later : (a k : Key) (xs : List X) → AllByRecursion (IsBelow a) (map key xs) → above a k ≡ false → find (λ x. same_key (key x) k) xs ≡ None
  none_later a k [] all h = refl
  none_later a k (x ∷ xs) all h = rw (later_differs a (key x) k all.0 h) (none_later a k xs all.1 h)

  found : (k : Key) (xs : List X) (i : ℕ) → Ascend (map key xs) → IsPartitionPoint (λ x. above (key x) k ≡ true) (λ x. above (key x) k ≡ false) xs i
      → find (λ x. same_key (key x) k) xs ≡ kept (λ x. same_key (key x) k) (slice_get xs i)
  found k [] i up point = refl
  found k (x ∷ xs) zero up point = at_first (same_key (key x) k) refl
    where
      at_first : (b : Bool) → same_key (key x) k ≡ b → find (λ x. same_key (key x) k) (x ∷ xs) ≡ (if same_key (key x) k then Some x else None)
      at_first true is = rw is refl
      at_first false is = rw is (none_later (key x) k xs up.0 (point.1 0 x (omega arith) (omega arith)))
  found k (x ∷ xs) (suc i) up point =
      rw (above_differs (key x) k (point.0 0 x (omega arith) (omega arith)))
      (found k xs i up.1 (λ j d low within. point.0 (suc j) d (omega arith) (omega arith), λ j d low within. point.1 (suc j) d (omega arith) (omega arith)))

  -- What a search by `partition_point` finds, where its closure tells which lines stand above the key.
  pub searched : {F : Type 0} {g : Mut F (Bor X × Unit {0}) Bool} {f : F} (k : Key) (xs : List X) (i : ℕ) → Ascend (map key xs)
      → ((q : X → Bool) → ComputesKey g q f → IsPartitionedBy q xs → IsPartitionPoint (λ y. q y ≡ true) (λ y. q y ≡ false) xs i)
      → ((a : Bor X × Unit {0}) (r : Bool) (f' : F) → Called g f a r f' → (r ≡ above (key a.0.now) k) × (f' ≡ f))
      → find (λ x. same_key (key x) k) xs ≡ kept (λ x. same_key (key x) k) (slice_get xs i)
  searched k xs i up clause tells = found k xs i up (IsPartitionPoint-from_clause (λ x. above (key x) k) xs i clause (parted k xs up) tells)

  pub searched_any : {F : Type 0} {g : Mut F (Bor X × Unit {0}) Bool} {f : F} (k : Key) (xs : List X) (i : ℕ) → Ascend (map key xs)
      → ((q : X → Bool) → ComputesKey g q f → IsPartitionedBy q xs → IsPartitionPoint (λ y. q y ≡ true) (λ y. q y ≡ false) xs i)
      → ((a : Bor X × Unit {0}) (r : Bool) (f' : F) → Called g f a r f' → (r ≡ above (key a.0.now) k) × (f' ≡ f))
      → list_any (λ x. same_key (key x) k) xs ≡ passes (λ x. same_key (key x) k) (slice_get xs i)
  searched_any k xs i up clause tells =
      list_any-find (λ x. same_key (key x) k) xs ∙ ap is_some (searched k xs i up clause tells) ∙ is_some-kept (λ x. same_key (key x) k) (slice_get xs i)
