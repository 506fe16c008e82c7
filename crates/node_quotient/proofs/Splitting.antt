-- A class that is split into the nodes that are marked as its least node is, and the others.
use Rattle.std.proofs.Common.{◌≡◌, ◌⊎◌, ℕ, ◌<◌, ◌≤◌, Bool, true, false, not, List, [], ◌∷◌, filter, length, set, refl, sym, ap, ◌∙◌, subst, inl, inr, arith}
use Rattle.std.specs.Prelude.{All, if◌then◌else◌, slice_index_or}
use Rattle.std.proofs.lemmas.Bool.{both_ways, cases_Bool, cases_eq, cond-true, cond-false, false_from_ne_true, not-true, not_from_false}
use Rattle.std.proofs.lemmas.List.{get_or_default, get_or-set_same, get_or-set_other, length-set}
use Rattle.reach_prune.specs.Searches.{is_among, is_listed, is_marked}
use Rattle.node_quotient.specs.Alike.{Ascends, class_in, list_of}
use Rattle.node_quotient.specs.Splits.{AreGroups, AreNamed, AreSplit, has_mark}
use Rattle.node_quotient.specs.Partitions.{IsPartition}
use Rattle.node_quotient.specs.declared.partition.Partition.{Partition}
use Rattle.node_quotient.proofs.Ascending.{among-filter, among-filter_parts, ascends-filter, first_least}
use Rattle.node_quotient.proofs.Groups.{group_below}
use Rattle.node_quotient.proofs.Turns.{among_get, read}

-- the first of an ascending list is the least
pub least_first : (xs : List ℕ) (d n : ℕ) → Ascends xs → is_among xs n ≡ true → slice_index_or xs 0 d ≤ n
least_first [] d n asc h = absurd (cc)
least_first (x ∷ xs) d n asc h = first_least x n xs asc h

own_side : (b : Bool) → (if b then b else not b) ≡ true
own_side true = refl
own_side false = refl

module _ (marks : List Bool) where
  one_side : (s : Bool) (n : ℕ) → (has_mark marks s n ≡ true) ⊎ (has_mark marks (not s) n ≡ true)
  one_side true n = elim (cases_Bool (is_marked marks n)) [
    | inl t ↦ inl t
    | inr f ↦ inr (not_from_false (is_marked marks n) f)
  ]
  one_side false n = elim (cases_Bool (is_marked marks n)) [
    | inl t ↦ inr t
    | inr f ↦ inl (not_from_false (is_marked marks n) f)
  ]

  not_both : (s : Bool) (n : ℕ) → has_mark marks s n ≡ true → has_mark marks (not s) n ≡ true → ⊥
  not_both true n h k = both_ways (is_marked marks n) (not-true (is_marked marks n) k) h
  not_both false n h k = both_ways (is_marked marks n) (not-true (is_marked marks n) h) k

module _ (size : ℕ) (classes : List ℕ) (members : List (List ℕ)) (marks : List Bool) (c : ℕ)
    (len : length classes ≡ size) (rows : length members ≡ size) (named : AreNamed classes) (groups : AreGroups size classes members) (inside : c < size) where
  abbrev side : Bool
  side = is_marked marks c

  abbrev part : List ℕ
  part = filter (has_mark marks (not side)) (list_of members c)

  abbrev rest : List ℕ
  rest = filter (has_mark marks side) (list_of members c)

  chosen_parts : (s : Bool) (n : ℕ) → is_among (filter (has_mark marks s) (list_of members c)) n ≡ true → (n < size) × (class_in classes n ≡ c) × (has_mark marks s n ≡ true)
  chosen_parts s n h =
      let p = among-filter_parts (has_mark marks s) (list_of members c) n h in
      let q = groups.only c n p.0 in
      (q.0, q.1, p.1)

  chosen_in : (s : Bool) (n : ℕ) → n < size → class_in classes n ≡ c → has_mark marks s n ≡ true → is_among (filter (has_mark marks s) (list_of members c)) n ≡ true
  chosen_in s n lt is m = among-filter (has_mark marks s) (list_of members c) n (subst (λ k. is_listed members k n ≡ true) is (groups.listed n lt)) m

  pub part_ascends : Ascends part
  part_ascends = ascends-filter (has_mark marks (not side)) (list_of members c) (groups.ascend c)

  -- under the name of its least node the part that hasn't the least node of the class becomes a class
  module _ (name : ℕ) (at : is_among part name ≡ true) (least : (n : ℕ) → is_among part n ≡ true → name ≤ n)
      (new : List ℕ) (new_len : length new ≡ length classes) (puts : (n : ℕ) → class_in new n ≡ (if is_among part n then name else class_in classes n)) where
    name_below : name < size
    name_below = (chosen_parts (not side) name at).0

    name_class : class_in classes name ≡ c
    name_class = (chosen_parts (not side) name at).1

    c_stays : is_among part c ≡ true → ⊥
    c_stays h = not_both marks side c (own_side (is_marked marks c)) (chosen_parts (not side) c h).2

    apart : name ≡ c → ⊥
    apart e = c_stays (subst (λ k. is_among part k ≡ true) e at)

    not_named : (n : ℕ) → n < size → class_in classes n ≡ name → ⊥
    not_named n lt e = apart (sym (ap (class_in classes) (sym e) ∙ named.idle n (omega (arith, lt, len)) ∙ e) ∙ name_class)

    inside_new : (n : ℕ) → is_among part n ≡ true → class_in new n ≡ name
    inside_new n h = puts n ∙ cond-true (is_among part n) name (class_in classes n) h

    outside_new : (n : ℕ) → is_among part n ≡ false → class_in new n ≡ class_in classes n
    outside_new n h = puts n ∙ cond-false (is_among part n) name (class_in classes n) h

    pub new_named : AreNamed new
    new_named = record {
      le = λ n l. elim (cases_Bool (is_among part n)) [
        | inl t ↦ let e = inside_new n t in let le = least n t in omega (arith, e, le)
        | inr f ↦ let e = outside_new n f in let le = named.le n (omega (arith, l, new_len)) in omega (arith, e, le)
      ];
      idle = λ n l. elim (cases_Bool (is_among part n)) [
        | inl t ↦ let e = inside_new n t in ap (class_in new) e ∙ inside_new name at ∙ sym e
        | inr f ↦
            let e = outside_new n f in
            let same = named.idle n (omega (arith, l, new_len)) in
            elim (cases_Bool (is_among part (class_in classes n))) [
              | inl t ↦ absurd (c_stays (subst (λ k. is_among part k ≡ true) (sym same ∙ (chosen_parts (not side) (class_in classes n) t).1) t))
              | inr g ↦ ap (class_in new) e ∙ outside_new (class_in classes n) g ∙ same ∙ sym e
            ]
      ];
    }

    pub new_split : AreSplit (is_marked marks) classes new
    new_split = record {
      finer = λ m n lm ln h. elim (cases_Bool (is_among part m)) [
        | inl s ↦ elim (cases_Bool (is_among part n)) [
          | inl t ↦ (chosen_parts (not side) m s).1 ∙ sym (chosen_parts (not side) n t).1
          | inr f ↦ absurd (not_named n (omega (arith, ln, len)) (sym (outside_new n f) ∙ sym h ∙ inside_new m s))
        ]
        | inr g ↦ elim (cases_Bool (is_among part n)) [
          | inl t ↦ absurd (not_named m (omega (arith, lm, len)) (sym (outside_new m g) ∙ h ∙ inside_new n t))
          | inr f ↦ sym (outside_new m g) ∙ h ∙ outside_new n f
        ]
      ];
      alike = λ m n lm ln e same. elim (cases_Bool (is_among part m)) [
        | inl s ↦ inside_new m s ∙ sym (inside_new n (goes m n (omega (arith, ln, len)) e same s))
        | inr g ↦ elim (cases_Bool (is_among part n)) [
          | inl t ↦ absurd (both_ways _ g (goes n m (omega (arith, lm, len)) (sym e) (sym same) t))
          | inr f ↦ outside_new m g ∙ e ∙ sym (outside_new n f)
        ]
      ];
    }
      where
        goes : (m n : ℕ) → n < size → class_in classes m ≡ class_in classes n → is_marked marks m ≡ is_marked marks n → is_among part m ≡ true → is_among part n ≡ true
        goes m n ln e same s =
            let p = chosen_parts (not side) m s in
            chosen_in (not side) n ln (sym e ∙ p.1) (ap (λ b. if not side then b else not b) (sym same) ∙ p.2)

    abbrev after : List (List ℕ)
    after = set (set members c rest) name part

    row_name : list_of after name ≡ part
    row_name = let l = length-set members c rest in get_or-set_same (set members c rest) name part [] (omega (arith, l, rows, name_below))

    row_c : list_of after c ≡ rest
    row_c = get_or-set_other (set members c rest) name c part [] (λ e. apart (sym e)) ∙ get_or-set_same members c rest [] (omega (arith, rows, inside))

    row_other : (k : ℕ) → (k ≡ name → ⊥) → (k ≡ c → ⊥) → list_of after k ≡ list_of members k
    row_other k a b = get_or-set_other (set members c rest) name k part [] a ∙ get_or-set_other members c k rest [] b

    -- where the rows are known
    at_row : (k n : ℕ) (row : List ℕ) → list_of after k ≡ row → is_listed after k n ≡ is_among row n
    at_row k n row e = ap (λ xs. is_among xs n) e

    pub new_groups : AreGroups size new (set (set members c rest) name part)
    new_groups = record {
      listed = λ n l. elim (cases_Bool (is_among part n)) [
        | inl t ↦ ap (λ k. is_listed after k n) (inside_new n t) ∙ at_row name n part row_name ∙ t
        | inr f ↦ ap (λ k. is_listed after k n) (outside_new n f) ∙ (elim (cases_eq (class_in classes n) c) [
          | inl e ↦ ap (λ k. is_listed after k n) e ∙ at_row c n rest row_c ∙ (elim (one_side marks side n) [
            | inl m ↦ chosen_in side n l e m
            | inr m ↦ absurd (both_ways _ f (chosen_in (not side) n l e m))
          ])
          | inr a ↦ at_row (class_in classes n) n (list_of members (class_in classes n)) (row_other (class_in classes n) (not_named n l) a) ∙ groups.listed n l
        ])
      ];
      only = λ k n h. elim (cases_eq k name) [
        | inl e ↦
            let t : is_among part n ≡ true = sym (at_row name n part row_name) ∙ ap (λ j. is_listed after j n) (sym e) ∙ h in
            ((chosen_parts (not side) n t).0, inside_new n t ∙ sym e)
        | inr a ↦ elim (cases_eq k c) [
          | inl e ↦
              let p = chosen_parts side n (sym (at_row c n rest row_c) ∙ ap (λ j. is_listed after j n) (sym e) ∙ h) in
              let f = false_from_ne_true (is_among part n) (λ t. not_both marks side n p.2 (chosen_parts (not side) n t).2) in
              (p.0, outside_new n f ∙ p.1 ∙ sym e)
          | inr b ↦
              let p = groups.only k n (sym (at_row k n (list_of members k) (row_other k a b)) ∙ h) in
              let f = false_from_ne_true (is_among part n) (λ t. b (sym p.1 ∙ (chosen_parts (not side) n t).1)) in
              (p.0, outside_new n f ∙ p.1)
        ]
      ];
      ascend = λ k. elim (cases_eq k name) [
        | inl e ↦ subst (λ j. Ascends (list_of after j)) (sym e) (subst Ascends (sym row_name) part_ascends)
        | inr a ↦ elim (cases_eq k c) [
          | inl e ↦ subst (λ j. Ascends (list_of after j)) (sym e) (subst Ascends (sym row_c) (ascends-filter (has_mark marks side) (list_of members c) (groups.ascend c)))
          | inr b ↦ subst Ascends (sym (row_other k a b)) (groups.ascend k)
        ]
      ];
    }

-- the same, as the code comes to it: of the members of a class the part without its least node, and the rest
pub split_off : (p : Partition) (count : ℕ) (marks : List Bool) (c : ℕ) (is : IsPartition count p) (inside : c < count) (all part rest front list new : List ℕ) → all ≡ list_of p.members.items c →
    part ≡ filter (has_mark marks (not (is_marked marks c))) all → rest ≡ filter (has_mark marks (is_marked marks c)) all → front ≡ part → list ≡ part
    → 0 < length part → length new ≡ length p.classes.items →
    ((n : ℕ) → class_in new n ≡ (if is_among list n then slice_index_or front 0 0 else class_in p.classes.items n)) →
    AreNamed new × AreSplit (is_marked marks) p.classes.items new × AreGroups count new (set (set p.members.items c rest) (slice_index_or front 0 0) part)
split_off p count marks c is inside all part rest front list new all_is part_is rest_is front_is list_is filled new_len puts =
    let members = p.members.items in
    let classes = p.classes.items in
    let P = filter (has_mark marks (not (is_marked marks c))) (list_of members c) in
    let R = filter (has_mark marks (is_marked marks c)) (list_of members c) in
    let part_here : part ≡ P = part_is ∙ ap (filter (has_mark marks (not (is_marked marks c)))) all_is in
    let rest_here : rest ≡ R = rest_is ∙ ap (filter (has_mark marks (is_marked marks c))) all_is in
    let name = slice_index_or front 0 0 in
    let name_is : name ≡ slice_index_or P 0 0 = ap (λ xs. slice_index_or xs 0 0) (front_is ∙ part_here) in
    let long : length part ≡ length P = ap length part_here in
    let at : is_among P name ≡ true = ap (is_among P) name_is ∙ among_get P 0 0 (omega (arith, long, filled)) in
    let least : (n : ℕ) → is_among P n ≡ true
    → name ≤ n = λ n h. let le = least_first P 0 n (part_ascends count classes members marks c is.size is.rows is.named is.groups inside) h in
    omega (arith, le, name_is) in
    let puts_here : (n : ℕ)
    → class_in new n ≡ (if is_among P n then name else class_in classes n) =
    λ n. puts n ∙ ap (λ xs. if is_among xs n then name else class_in classes n) (list_is ∙ part_here) in (
      new_named count classes members marks c is.size is.rows is.named is.groups inside name at least new new_len puts_here,
      new_split count classes members marks c is.size is.rows is.named is.groups inside name at least new new_len puts_here,
      subst (λ xs. AreGroups count new (set (set members c rest) name xs)) (sym part_here) (subst (λ xs. AreGroups count new (set (set members c xs) name P)) (sym rest_here)
          (new_groups count classes members marks c is.size is.rows is.named is.groups inside name at least new new_len puts_here)),
    )

pub part_inside : (p : Partition) (count : ℕ) (marks : List Bool) (c : ℕ) (is : IsPartition count p) (inside : c < count) (s : Bool) (all part list : List ℕ) → all ≡ list_of p.members.items c →
    part ≡ filter (has_mark marks s) all → list ≡ part → All (λ n. n < count) list
part_inside p count marks c is inside s all part list all_is part_is list_is k d lt =
    let here : list ≡ filter (has_mark marks s) (list_of p.members.items c) = list_is ∙ part_is ∙ ap (filter (has_mark marks s)) all_is in
    (chosen_parts count p.classes.items p.members.items marks c is.size is.rows is.named is.groups inside s (slice_index_or list k d)
    (ap (λ xs. is_among xs (slice_index_or list k d)) (sym here) ∙ among_get list k d lt)).0

-- the first of a part, under whose name it comes
pub name_inside : (p : Partition) (count : ℕ) (marks : List Bool) (c : ℕ) (is : IsPartition count p) (inside : c < count) (s : Bool) (all part front : List ℕ) → all ≡ list_of p.members.items c →
    part ≡ filter (has_mark marks s) all → front ≡ part → 0 < length part → slice_index_or front 0 0 < count
name_inside p count marks c is inside s all part front all_is part_is front_is filled =
    let len = ap length front_is in
    part_inside p count marks c is inside s all part front all_is part_is front_is 0 0 (omega (arith, len, filled))

-- what is read is the list of the class
pub members_read : (p : Partition) (count c : ℕ) (all got : List ℕ) → IsPartition count p → c < count → all ≡ got → got ≡ slice_index_or p.members.items c got → all ≡ list_of p.members.items c
members_read p count c all got is lt a b = let r = is.rows in read p.members.items c all got (omega (arith, r, lt)) a b

pub members_below : (p : Partition) (count c : ℕ) (all got : List ℕ) → IsPartition count p → c < count → all ≡ got → got ≡ slice_index_or p.members.items c got → All (λ n. n < count) all
members_below p count c all got is lt a b = group_below count p.classes.items p.members.items c all is.groups (members_read p count c all got is lt a b)

-- what is read of a node is its class, which is a node
pub class_below : (p : Partition) (count n got : ℕ) → IsPartition count p → n < count → got ≡ slice_index_or p.classes.items n got → got < count
class_below p count n got is lt e =
    let size = is.size in
    let inside : n < length p.classes.items = omega (arith, lt, size) in
    let le = is.named.le n inside in
    let at = e ∙ get_or_default p.classes.items n got 0 inside in
    omega (arith, le, at, lt)

-- nothing is split
pub split_none : (marked : ℕ → Bool) (classes : List ℕ) → AreSplit marked classes classes
split_none marked classes = record { finer = λ m n lm ln h. h; alike = λ m n lm ln h s. h }

pub split_more : (marked : ℕ → Bool) (one two three : List ℕ) → length two ≡ length one → AreSplit marked one two → AreSplit marked two three → AreSplit marked one three
split_more marked one two three len a b = record {
  finer = λ m n lm ln h. a.finer m n lm ln (b.finer m n (omega (arith, len, lm)) (omega (arith, len, ln)) h);
  alike = λ m n lm ln h s. b.alike m n (omega (arith, len, lm)) (omega (arith, len, ln)) (a.alike m n lm ln h s) s;
}

-- other words for the marks
pub split_same : (marked also : ℕ → Bool) (old new : List ℕ) → ((n : ℕ) → marked n ≡ also n) → AreSplit marked old new → AreSplit also old new
split_same marked also old new same h = record {
  finer = h.finer;
  alike = λ m n lm ln e s. h.alike m n lm ln e (same m ∙ s ∙ sym (same n));
}
