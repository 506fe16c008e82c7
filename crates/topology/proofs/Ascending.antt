-- Links that are put into their places.
use Rattle.std.proofs.Common.{◌≡◌, ℕ, ◌+◌, ◌<◌, List, [], ◌∷◌, length, take, get_or, Bool, true, false, ◌||◌, ◌&&◌, cond, refl, sym, ◌∙◌, add-one, Ordering, Less, Equal, Greater}
use Rattle.std.specs.Prelude.{nat_lt, ◌==◌, fold, if◌then◌else◌}
use Rattle.std.specs.Ordering.{is_eq, ordering_then, match_ordering, nat_cmp}
use Rattle.std.specs.BTreeSet.{insert_key}
use Rattle.std.specs.List.{list_any}
use Rattle.std.proofs.Math.Seq.{take-suc}
use Rattle.std.proofs.lemmas.List.Sums.{fold-append}
use Rattle.std.proofs.Math.Bool.{or-false}
use Rattle.std.proofs.lemmas.Bool.{or_parts}
use Rattle.list_law.proofs.Truth.{or_left_comm}
use Rattle.net_base.specs.Network.{is_before}
use Rattle.topology.specs.Rules.{put, ascending}

-- how the tree compares two links
abbrev pub link_cmp : ℕ × ℕ → ℕ × ℕ → Ordering
link_cmp a b = ordering_then (nat_cmp a.0 b.0) (nat_cmp a.1 b.1)

by_order : {A : Type 0} (less same less2 same2 : Bool) (before equal after : A)
    → is_eq (ordering_then (cond less Less (cond same Equal Greater)) (cond less2 Less (cond same2 Equal Greater))) ≡ false
    → match_ordering (ordering_then (cond less Less (cond same Equal Greater)) (cond less2 Less (cond same2 Equal Greater))) before equal after ≡ (if less || (same && less2) then before else after)
by_order true same less2 same2 before equal after apart = refl
by_order false true true same2 before equal after apart = refl
by_order false true false true before equal after apart = absurd cc
by_order false true false false before equal after apart = refl
by_order false false less2 same2 before equal after apart = refl

-- where a link is not there, the tree puts it into its place
pub insert_key-put : (ks : List (ℕ × ℕ)) (link : ℕ × ℕ) → list_any (λ k. is_eq (link_cmp link k)) ks ≡ false → insert_key link_cmp ks link ≡ put ks link
insert_key-put [] link h = refl
insert_key-put (x ∷ xs) link h =
    let p = or_parts (is_eq (link_cmp link x)) (list_any (λ k. is_eq (link_cmp link k)) xs) h in
    rw (insert_key-put xs link p.1) (by_order (nat_lt link.0 x.0) (link.0 == x.0) (nat_lt link.1 x.1) (link.1 == x.1) _ _ _ p.0)

or_assoc_swap : (a b c : Bool) → ((a || b) || c) ≡ (b || (a || c))
or_assoc_swap true true c = refl
or_assoc_swap true false c = refl
or_assoc_swap false b c = refl

pub list_any-put : (p : ℕ × ℕ → Bool) (xs : List (ℕ × ℕ)) (link : ℕ × ℕ) → list_any p (put xs link) ≡ (p link || list_any p xs)
list_any-put p [] link = refl
list_any-put p (x ∷ xs) link = by (is_before link x) (list_any-put p xs link)
  where
    by : (b : Bool) → list_any p (put xs link) ≡ (p link || list_any p xs) → list_any p (if b then link ∷ x ∷ xs else x ∷ put xs link) ≡ (p link || list_any p (x ∷ xs))
    by true later = refl
    by false later = rw later (or_left_comm (p x) (p link) (list_any p xs))

list_any-fold : (p : ℕ × ℕ → Bool) (xs links : List (ℕ × ℕ)) → list_any p (fold put xs links) ≡ (list_any p xs || list_any p links)
list_any-fold p xs [] = sym (or-false (list_any p xs))
list_any-fold p xs (l ∷ ls) = list_any-fold p (put xs l) ls ∙ rw (list_any-put p xs l) (or_assoc_swap (p l) (list_any p xs) (list_any p ls))

-- the same links pass a test
pub list_any-ascending : (p : ℕ × ℕ → Bool) (links : List (ℕ × ℕ)) → list_any p (ascending links) ≡ list_any p links
list_any-ascending p links = list_any-fold p [] links

pub ascending-next : (links : List (ℕ × ℕ)) (i : ℕ) (x : ℕ × ℕ) → i < length links → x ≡ get_or links i x → ascending (take (i + 1) links) ≡ put (ascending (take i links)) x
ascending-next links i x within is = rw (add-one, take-suc links i x within, ← is) (fold-append put [] (take i links) (x ∷ []))
