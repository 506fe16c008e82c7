-- Counts so far.
use Rattle.std.proofs.Common.{◌≡◌, ℕ, ◌||◌, Bool, List, [], ◌∷◌, length, refl, ap, ap₂, ◌∙◌}
use Rattle.std.specs.Prelude.{nat_eq}
use Rattle.std.specs.Ordering.{eq_by_cmp, nat_cmp}
use Rattle.std.specs.BTreeSet.{BTreeSet, btree_set_len, IsFromIterResult}
use Rattle.std.specs.Cmp.{unsigned_tied}
use Rattle.std.specs.Set.{distinct_count, is_member, unique_keys}
use Rattle.std.proofs.lemmas.Cmp.{nat_cmp_total}
use Rattle.std.proofs.lemmas.Map.Views.{btree_set_len-from_list}

module _ {K : Type 0} (e f : K → K → Bool) (same : (x y : K) → e x y ≡ f x y) where
  same_member : (xs : List K) (q : K) → is_member e xs q ≡ is_member f xs q
  same_member [] q = refl
  same_member (x ∷ xs) q = ap₂ (λ (a b : Bool). a || b) (same q x) (same_member xs q)

  same_keys : (xs : List K) → unique_keys e xs ≡ unique_keys f xs
  same_keys [] = refl
  same_keys (x ∷ xs) = rw (same_member xs x, same_keys xs) refl

-- a set of numbers has as many as there are different ones in the list that it is made of
pub numbers_apart : (xs : List ℕ) (set : BTreeSet ℕ) → IsFromIterResult nat_cmp xs set → btree_set_len set ≡ distinct_count nat_eq xs
numbers_apart xs set is = btree_set_len-from_list nat_cmp_total xs set is ∙ ap length (same_keys (eq_by_cmp nat_cmp) nat_eq (λ x y. unsigned_tied x y) xs)
