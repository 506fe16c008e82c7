-- What the test of two nodes says.
use Rattle.std.proofs.Common.{◌≡◌, ℕ, ◌+◌, ◌<◌, suc, true, false, not, ◌&&◌, ◌==◌, List, [], ◌∷◌, drop, get_or, length, refl, sym, ap, ◌∙◌, inl, inr}
use Rattle.std.specs.List.{list_any}
use Rattle.std.proofs.lemmas.Bool.{and_parts, and_from, cases_Bool, or_cases, or_left, or_right, not-true, not_from_false, both_ways, eq-eqb, eqb-true, false_from_ne_true}
use Rattle.std.proofs.lemmas.List.{drop_more}
use Rattle.reach_prune.specs.Searches.{is_among}
use Rattle.reach_prune.proofs.Among.{member_passes, passing_member}
use Rattle.node_quotient.specs.Alike.{class_in, list_of, has_class, lacks_class, are_alike, are_in_step}

-- of one class, and each steps to the classes to which the other does
pub record Like (lists : List (List ℕ)) (least : List ℕ) (m n : ℕ) : Type 0 where
  pub class : class_in least m ≡ class_in least n
  pub forth : (a : ℕ) → is_among (list_of lists m) a ≡ true → (b : ℕ) × (is_among (list_of lists n) b ≡ true) × (class_in least a ≡ class_in least b)
  pub back : (b : ℕ) → is_among (list_of lists n) b ≡ true → (a : ℕ) × (is_among (list_of lists m) a ≡ true) × (class_in least a ≡ class_in least b)

none_lacked : (least xs ys : List ℕ) → lacks_class least xs ys ≡ false → (a : ℕ) → is_among xs a ≡ true → (b : ℕ) × (is_among ys b ≡ true) × (class_in least a ≡ class_in least b)
none_lacked least xs ys h a there = elim (cases_Bool (has_class least ys (class_in least a))) [
  | inl t ↦ let r = passing_member (λ n. class_in least n == class_in least a) ys t in (r.0, r.1, sym (eqb-true _ _ r.2))
  | inr f ↦ absurd (both_ways _ h (member_passes (λ n. not (has_class least ys (class_in least n))) xs a there (not_from_false _ f)))
]

lacked_none : (least xs ys : List ℕ) → ((a : ℕ) → is_among xs a ≡ true → (b : ℕ) × (is_among ys b ≡ true) × (class_in least a ≡ class_in least b)) → lacks_class least xs ys ≡ false
lacked_none least xs ys h = false_from_ne_true _ (λ t.
    let r = passing_member (λ n. not (has_class least ys (class_in least n))) xs t in
    let b = h r.0 r.1 in
    both_ways _ (not-true _ r.2) (member_passes (λ n. class_in least n == class_in least r.0) ys b.0 b.1 (eq-eqb _ _ (sym b.2))))

pub like_from : (lists : List (List ℕ)) (least : List ℕ) (m n : ℕ) → are_alike lists least m n ≡ true → Like lists least m n
like_from lists least m n h =
    let p = and_parts (class_in least m == class_in least n) _ h in
    let q = and_parts (not (lacks_class least (list_of lists m) (list_of lists n))) _ p.1 in
    record {
      class = eqb-true _ _ p.0;
      forth = none_lacked least (list_of lists m) (list_of lists n) (not-true _ q.0);
      back = λ b there. let r = none_lacked least (list_of lists n) (list_of lists m) (not-true _ q.1) b there in (r.0, r.1, sym r.2);
    }

pub like_to : (lists : List (List ℕ)) (least : List ℕ) (m n : ℕ) → Like lists least m n → are_alike lists least m n ≡ true
like_to lists least m n h =
    and_from (class_in least m == class_in least n) _ (eq-eqb _ _ h.class)
    (and_from (not (lacks_class least (list_of lists m) (list_of lists n))) _ (not_from_false _ (lacked_none least (list_of lists m) (list_of lists n) h.forth))
    (not_from_false _ (lacked_none least (list_of lists n) (list_of lists m) (λ b there. let r = h.back b there in (r.0, r.1, sym r.2)))))

pub like_trans : (lists : List (List ℕ)) (least : List ℕ) (a b c : ℕ) → Like lists least a b → Like lists least b c → Like lists least a c
like_trans lists least a b c h k = record {
  class = h.class ∙ k.class;
  forth = λ x st. let f = h.forth x st in let e = k.forth f.0 f.1 in (e.0, e.1, f.2 ∙ e.2);
  back = λ x st. let f = k.back x st in let e = h.back f.0 f.1 in (e.0, e.1, e.2 ∙ f.2);
}

pub alike_trans : (lists : List (List ℕ)) (least : List ℕ) (a b c : ℕ) → are_alike lists least a b ≡ true → are_alike lists least b c ≡ true → are_alike lists least a c ≡ true
alike_trans lists least a b c h k = like_to lists least a c (like_trans lists least a b c (like_from lists least a b h) (like_from lists least b c k))

pub alike_refl : (lists : List (List ℕ)) (least : List ℕ) (n : ℕ) → are_alike lists least n n ≡ true
alike_refl lists least n = like_to lists least n n (record { class = refl; forth = λ x st. (x, st, refl); back = λ x st. (x, st, refl) })

in_step_length : (least ms ns : List ℕ) → are_in_step least ms ns ≡ true → length ms ≡ length ns
in_step_length least [] [] h = refl
in_step_length least [] (n ∷ ns) h = absurd (cc)
in_step_length least (m ∷ ms) [] h = absurd (cc)
in_step_length least (m ∷ ms) (n ∷ ns) h = ap suc (in_step_length least ms ns (and_parts (class_in least m == class_in least n) _ h).1)

pub lengths_apart : (least ms ns : List ℕ) → (length ms ≡ length ns → ⊥) → are_in_step least ms ns ≡ false
lengths_apart least ms ns h = false_from_ne_true _ (λ t. h (in_step_length least ms ns t))

-- what is left of two lists, one node on
pub in_step_more : (least ms ns : List ℕ) (i : ℕ) → i < length ms → i < length ns → are_in_step least (drop i ms) (drop i ns)
    ≡ (class_in least (get_or ms i 0) == class_in least (get_or ns i 0) && are_in_step least (drop (i + 1) ms) (drop (i + 1) ns))
in_step_more least ms ns i within others = rw (drop_more ms i 0 within, drop_more ns i 0 others) refl

in_step_forth : (least ms ns : List ℕ) → are_in_step least ms ns ≡ true → (a : ℕ) → is_among ms a ≡ true → (b : ℕ) × (is_among ns b ≡ true) × (class_in least a ≡ class_in least b)
in_step_forth least [] ns h a there = absurd (cc)
in_step_forth least (m ∷ ms) [] h a there = absurd (cc)
in_step_forth least (m ∷ ms) (n ∷ ns) h a there =
    let p = and_parts (class_in least m == class_in least n) _ h in
    elim (or_cases (m == a) (list_any (λ z. z == a) ms) there) [
      | inl e ↦ (n, or_left (n == n) (list_any (λ z. z == n) ns) (eq-eqb n n refl), ap (class_in least) (sym (eqb-true m a e)) ∙ eqb-true _ _ p.0)
      | inr r ↦ let f = in_step_forth least ms ns p.1 a r in (f.0, or_right (n == f.0) (list_any (λ z. z == f.0) ns) f.1, f.2)
    ]

in_step_sym : (least ms ns : List ℕ) → are_in_step least ms ns ≡ true → are_in_step least ns ms ≡ true
in_step_sym least [] [] h = refl
in_step_sym least [] (n ∷ ns) h = absurd (cc)
in_step_sym least (m ∷ ms) [] h = absurd (cc)
in_step_sym least (m ∷ ms) (n ∷ ns) h =
    let p = and_parts (class_in least m == class_in least n) _ h in
    and_from (class_in least n == class_in least m) _ (eq-eqb _ _ (sym (eqb-true _ _ p.0))) (in_step_sym least ms ns p.1)

-- the nodes of lists that are in step are of the same classes
pub in_step_alike : (least ms ns : List ℕ) → are_in_step least ms ns ≡ true → (not (lacks_class least ms ns) && not (lacks_class least ns ms)) ≡ true
in_step_alike least ms ns h = and_from (not (lacks_class least ms ns)) _
    (not_from_false _ (lacked_none least ms ns (in_step_forth least ms ns h)))
    (not_from_false _ (lacked_none least ns ms (in_step_forth least ns ms (in_step_sym least ms ns h))))
