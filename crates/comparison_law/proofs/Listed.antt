-- The rows of a place are a list: not to have one is impossible, since there are finitely many ranks.
use Rattle.std.proofs.Common.{◌≡◌, ℕ, zero, suc, ◌+◌, ◌<◌, ◌≤◌, List, [], ◌∷◌, ◌++◌, Option, Some, None, refl, sym, ap, subst, arith, inl, inr, ◌↔◌}
use Rattle.std.specs.Prelude.{slice_get}
use Rattle.std.proofs.lemmas.Bool.{cases_lt}
use Rattle.std.proofs.lemmas.Option.{same_Some}
use Rattle.list_law.specs.Members.{IsIn}
use Rattle.list_law.proofs.Members.{IsIn-append_cases, IsIn-append_left, IsIn-append_right, IsIn-nil}
use Rattle.compare_base.specs.declared.rows.Row.{Row}
use Rattle.compare_base.specs.Order.{IsLess}
use Rattle.pair_rows.specs.Rows.{IsEarlier}

-- ---- in order

-- each item comes before the later ones
abbrev Ascend : {A : Type 0} → (A → A → Type 0) → List A → Type 0
Ascend {A} Less [] = Unit {0}
Ascend {A} Less (x ∷ xs) = ((y : A) → IsIn xs y → Less x y) × Ascend Less xs

ascend_append : {A : Type 0} (Less : A → A → Type 0) (xs ys : List A) → Ascend Less xs → Ascend Less ys → ((x y : A) → IsIn xs x → IsIn ys y → Less x y) → Ascend Less (xs ++ ys)
ascend_append Less [] ys one other across = other
ascend_append {A} Less (x ∷ xs) ys one other across = (before, ascend_append Less xs ys one.1 other (λ y z at there. across y z (suc at.0, at.1) there))
  where
    before : (y : A) → IsIn (xs ++ ys) y → Less x y
    before y at = elim (IsIn-append_cases xs ys y at) [
      | inl here ↦ one.0 y here
      | inr there ↦ across x y (0, refl) there
    ]

pub in_order : (rows : List Row) → Ascend IsEarlier rows → (i j : ℕ) (a b : Row) → i < j → slice_get rows i ≡ Some a → slice_get rows j ≡ Some b → IsEarlier a b
in_order [] ascend i j a b less at_a at_b = absurd cc
in_order (x ∷ xs) ascend i zero a b less at_a at_b = absurd (omega (arith, less))
in_order (x ∷ xs) ascend zero (suc j) a b less at_a at_b = subst (λ (row : Row). IsEarlier row b) (same_Some x a at_a) (ascend.0 b (j, at_b))
in_order (x ∷ xs) ascend (suc i) (suc j) a b less at_a at_b = in_order xs ascend.1 i j a b (omega (arith, less)) at_a at_b

-- ---- all rows of some ranks

-- so many ranks from k, and none
abbrev ranks_from : ℕ → ℕ → List (Option ℕ)
ranks_from k zero = None ∷ []
ranks_from k (suc n) = Some k ∷ ranks_from (k + 1) n

past : (k n j : ℕ) (rank : Option ℕ) → j < k → IsIn (ranks_from k n) rank → IsLess (Some j) rank
past k n j None less at = tt
past k zero j (Some i) less (zero, at) = absurd cc
past k zero j (Some i) less (suc m, at) = absurd cc
past k (suc n) j (Some i) less (zero, at) = let same : k ≡ i = cc in omega (arith, less, same)
past k (suc n) j (Some i) less (suc m, at) = past (k + 1) n j (Some i) (omega (arith, less)) (m, at)

ranks_ascend : (k n : ℕ) → Ascend IsLess (ranks_from k n)
ranks_ascend k zero = (λ rank at. absurd (IsIn-nil rank at), tt)
ranks_ascend k (suc n) = (λ rank at. past (k + 1) n k rank (omega arith) at, ranks_ascend (k + 1) n)

none_among : (k n : ℕ) → IsIn (ranks_from k n) None
none_among k zero = (0, refl)
none_among k (suc n) = let rest = none_among (k + 1) n in (suc rest.0, rest.1)

rank_among : (k n i : ℕ) → k ≤ i → i < k + n → IsIn (ranks_from k n) (Some i)
rank_among k zero i from below = absurd (omega (arith, from, below))
rank_among k (suc n) i from below = elim (cases_lt k i) [
  | inl less ↦ let rest = rank_among (k + 1) n i (omega (arith, less)) (omega (arith, below)) in (suc rest.0, rest.1)
  | inr le ↦ let same : k ≡ i = omega (arith, from, le) in (0, ap (λ (m : ℕ). Some (Some m)) same)
]

-- the rows of a rank in the old policy
abbrev rows_of : Option ℕ → List (Option ℕ) → List Row
rows_of a [] = []
rows_of a (b ∷ bs) = record { old = a; new = b } ∷ rows_of a bs

row_among : (a b : Option ℕ) (bs : List (Option ℕ)) → IsIn bs b → IsIn (rows_of a bs) (record { old = a; new = b })
row_among a b [] at = absurd (IsIn-nil b at)
row_among a b (c ∷ bs) (zero, at) = (0, ap (λ (rank : Option ℕ). let row : Row = record { old = a; new = rank } in Some row) (same_Some c b at))
row_among a b (c ∷ bs) (suc i, at) = let rest = row_among a b bs (i, at) in (suc rest.0, rest.1)

row_parts : (a : Option ℕ) (bs : List (Option ℕ)) (row : Row) → IsIn (rows_of a bs) row → (row.old ≡ a) × IsIn bs row.new
row_parts a [] row at = absurd (IsIn-nil row at)
row_parts a (b ∷ bs) row (zero, at) =
    let same = same_Some (let first : Row = record { old = a; new = b } in first) row at in
    (sym (ap (λ (r : Row). r.old) same), (0, ap (λ (r : Row). Some r.new) same))
row_parts a (b ∷ bs) row (suc i, at) = let rest = row_parts a bs row (i, at) in (rest.0, (suc rest.1.0, rest.1.1))

rows_ascend : (a : Option ℕ) (bs : List (Option ℕ)) → Ascend IsLess bs → Ascend IsEarlier (rows_of a bs)
rows_ascend a [] ascend = tt
rows_ascend a (b ∷ bs) ascend = (λ row at. let parts = row_parts a bs row at in inr (sym parts.0, ascend.0 row.new parts.1), rows_ascend a bs ascend.1)

abbrev table : List (Option ℕ) → List (Option ℕ) → List Row
table [] bs = []
table (a ∷ ranks) bs = rows_of a bs ++ table ranks bs

table_among : (ranks bs : List (Option ℕ)) (row : Row) → IsIn ranks row.old → IsIn bs row.new → IsIn (table ranks bs) row
table_among [] bs row at there = absurd (IsIn-nil row.old at)
table_among (a ∷ ranks) bs row (zero, at) there =
    let same = same_Some a row.old at in
    let here : IsIn (rows_of a bs) row = subst (λ (rank : Option ℕ). IsIn (rows_of rank bs) row) (sym same) (row_among row.old row.new bs there) in
    IsIn-append_left (rows_of a bs) (table ranks bs) row here
table_among (a ∷ ranks) bs row (suc i, at) there = IsIn-append_right (rows_of a bs) (table ranks bs) row (table_among ranks bs row (i, at) there)

table_parts : (ranks bs : List (Option ℕ)) (row : Row) → IsIn (table ranks bs) row → IsIn ranks row.old
table_parts [] bs row at = absurd (IsIn-nil row at)
table_parts (a ∷ ranks) bs row at = elim (IsIn-append_cases (rows_of a bs) (table ranks bs) row at) [
  | inl here ↦ (0, ap Some (sym (row_parts a bs row here).0))
  | inr there ↦ let rest = table_parts ranks bs row there in (suc rest.0, rest.1)
]

table_ascends : (ranks bs : List (Option ℕ)) → Ascend IsLess ranks → Ascend IsLess bs → Ascend IsEarlier (table ranks bs)
table_ascends [] bs one other = tt
table_ascends (a ∷ ranks) bs one other =
    ascend_append IsEarlier (rows_of a bs) (table ranks bs) (rows_ascend a bs other) (table_ascends ranks bs one.1 other)
    (λ x y at there. inl (subst (λ (rank : Option ℕ). IsLess rank y.old) (sym (row_parts a bs x at).0) (one.0 y.old (table_parts ranks bs y there))))

-- ---- those of which something is so

module _ (Has : Row → Type 0) where
  pub record AreThose (all rows : List Row) : Type 0 where
    pub those : (row : Row) → IsIn rows row ↔ (IsIn all row × Has row)
    pub order : Ascend IsEarlier rows

  with_first : (x : Row) (all rows : List Row) → Has x → ((row : Row) → IsIn all row → IsEarlier x row) → AreThose all rows → AreThose (x ∷ all) (x ∷ rows)
  with_first x all rows has before are = record {
    those = λ row. (to row, λ both. from row both.0 both.1);
    order = (λ row at. before row ((are.those row).0 at).0, are.order);
  }
    where
      to : (row : Row) → IsIn (x ∷ rows) row → IsIn (x ∷ all) row × Has row
      to row (zero, at) = ((0, at), subst Has (same_Some x row at) has)
      to row (suc i, at) = let found = (are.those row).0 (i, at) in ((suc found.0.0, found.0.1), found.1)

      from : (row : Row) → IsIn (x ∷ all) row → Has row → IsIn (x ∷ rows) row
      from row (zero, at) is = (0, at)
      from row (suc i, at) is = let found = (are.those row).1 ((i, at), is) in (suc found.0, found.1)

  without_first : (x : Row) (all rows : List Row) → ¬ Has x → AreThose all rows → AreThose (x ∷ all) rows
  without_first x all rows has_not are = record {
    those = λ row. (λ at. let found = (are.those row).0 at in ((suc found.0.0, found.0.1), found.1), λ both. from row both.0 both.1);
    order = are.order;
  }
    where
      from : (row : Row) → IsIn (x ∷ all) row → Has row → IsIn rows row
      from row (zero, at) is = absurd (has_not (subst Has (sym (same_Some x row at)) is))
      from row (suc i, at) is = (are.those row).1 ((i, at), is)

  pub listed : (all : List Row) → Ascend IsEarlier all → ¬ ((rows : List Row) × AreThose all rows) → ⊥
  listed [] ascend never = never ([], record { those = λ row. (λ at. absurd (IsIn-nil row at), λ both. absurd (IsIn-nil row both.0)); order = tt })
  listed (x ∷ xs) ascend never =
      listed xs ascend.1 (λ found. never (found.0, without_first x xs found.0 (λ has. never (x ∷ found.0, with_first x xs found.0 has ascend.0 found.1)) found.1))

-- ---- up to some ranks

abbrev pub some_rows : ℕ → ℕ → List Row
some_rows m n = table (ranks_from 0 m) (ranks_from 0 n)

pub some_rows_ascend : (m n : ℕ) → Ascend IsEarlier (some_rows m n)
some_rows_ascend m n = table_ascends (ranks_from 0 m) (ranks_from 0 n) (ranks_ascend 0 m) (ranks_ascend 0 n)

-- the rank is less than that, if there is one
abbrev pub IsBelow : ℕ → Option ℕ → Type 0
IsBelow m None = Unit {0}
IsBelow m (Some i) = i < m

below_among : (m : ℕ) (rank : Option ℕ) → IsBelow m rank → IsIn (ranks_from 0 m) rank
below_among m None below = none_among 0 m
below_among m (Some i) below = rank_among 0 m i (omega arith) (omega (arith, below))

pub among_some : (m n : ℕ) (row : Row) → IsBelow m row.old → IsBelow n row.new → IsIn (some_rows m n) row
among_some m n row old new = table_among (ranks_from 0 m) (ranks_from 0 n) row (below_among m row.old old) (below_among n row.new new)
