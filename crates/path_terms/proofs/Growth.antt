-- The expressions of terms as further terms come.
use Rattle.std.proofs.Common.{◌≡◌, ℕ, zero, suc, ◌<◌, ◌≤◌, ◌+◌, Bool, true, false, cond, List, [], ◌∷◌, ◌++◌, ◌⊎◌, inl, inr, ⊎_elim, map, length, get_or, Some, None, refl}
use Rattle.std.proofs.Common.{sym, ap, subst, ◌∙◌, arith, append_assoc}
use Rattle.std.specs.Prelude.{◌==◌, nat_lt, slice_get, Result, Ok, Err}
use Rattle.std.specs.List.{list_all, list_any}
use Rattle.std.proofs.lemmas.Bool.{and_parts, and_from, eqb-true, eq-eqb, lt-ltb, false≢true, ltb-true}
use Rattle.std.proofs.lemmas.List.{append-nil}
use Rattle.std.proofs.lemmas.Option.{slice_get-get_or}
use Rattle.std.specs.Str.{bytes_eq}
use Rattle.std.proofs.lemmas.Map.Keys.{any_passes_from_place}
use Rattle.path_exprs.specs.Expression.{Expression, set, seq, either, both, complement, star, expressions_of, list_of}
use Rattle.path_exprs.specs.Normal.{sorted}
use Rattle.path_exprs.proofs.Lists.{list_of-expressions_of}
use Rattle.path_exprs.proofs.Numbers.{at-extends, at-last, at-left, length-push}
use Rattle.std.specs.Result.{IfOk, OnErr}
use Rattle.path_law.proofs.Sorting.{In}
use Rattle.indexmap.specs.IndexSet.{insert_key}
use Rattle.path_terms.specs.declared.term.Term.{Term}
use Rattle.path_terms.specs.declared.term.Term.TheVariants.{Never, Empty, Set, Seq, Either, Both, Not, Star}
use Rattle.path_terms.specs.Terms.{at, node, grow, expressions, ascending, are_members, is_sound, each_sound, AreApart, Extends, Among}
use Rattle.std.proofs.lemmas.Slice.Eq.{bytes_eq-Decides}
use Rattle.list_law.proofs.Texts.{bytes_eq_self}
use Rattle.path_terms.proofs.Same.{same, itself}
use Rattle.path_terms.proofs.Numbers.{among-all, same_numbers, In-map, map-In, In-sorted, sorted-In}

pub grow-append : (es : List Expression) (ts us : List Term) → grow es (ts ++ us) ≡ grow (grow es ts) us
grow-append es [] us = refl
grow-append es (t ∷ ts) us = grow-append (es ++ node es t ∷ []) ts us

pub grow-extends : (es : List Expression) (ts : List Term) → Extends es (grow es ts)
grow-extends es [] = ([], sym (append-nil es))
grow-extends es (t ∷ ts) =
    let r = grow-extends (es ++ node es t ∷ []) ts in
    (node es t ∷ r.0, r.1 ∙ append_assoc es (node es t ∷ []) r.0)

pub length-grow : (es : List Expression) (ts : List Term) → length (grow es ts) ≡ length es + length ts
length-grow es [] = omega arith
length-grow es (t ∷ ts) = let r = length-grow (es ++ node es t ∷ []) ts in let s = length-push es (node es t) in omega (arith, r, s)

-- what children stand for stays

pub map-kept : (es more : List Expression) (k : ℕ) (ns : List ℕ) → k ≤ length es → list_all (λ n. nat_lt n k) ns ≡ true → map (at (es ++ more)) ns ≡ map (at es) ns
map-kept es more k [] le h = refl
map-kept es more k (n ∷ ns) le h =
    let u = and_parts (nat_lt n k) (list_all (λ n. nat_lt n k) ns) h in
    let lt = ltb-true n k u.0 in
    ap (λ l. at (es ++ more) n ∷ l) (map-kept es more k ns le u.1) ∙ ap (λ e. e ∷ map (at es) ns) (at-left es more n (omega (arith, lt, le)))

child-kept : (es more : List Expression) (k n : ℕ) → k ≤ length es → nat_lt n k ≡ true → at (es ++ more) n ≡ at es n
child-kept es more k n le h = let lt = ltb-true n k h in at-left es more n (omega (arith, lt, le))

pub node-kept : (es more : List Expression) (k : ℕ) (t : Term) → k ≤ length es → is_sound k t ≡ true → node (es ++ more) t ≡ node es t
node-kept es more k Never le h = refl
node-kept es more k Empty le h = refl
node-kept es more k (Set s) le h = refl
node-kept es more k (Seq a b) le h =
    let u = and_parts (nat_lt a k) (nat_lt b k) h in
    ap (λ x. seq (at (es ++ more) a) x) (child-kept es more k b le u.1) ∙ ap (λ x. seq x (at es b)) (child-kept es more k a le u.0)
node-kept es more k (Either v) le h =
    ap (λ l. either (expressions_of (sorted l))) (map-kept es more k v.items le (and_parts (list_all (λ n. nat_lt n k) v.items) (ascending v.items) h).0)
node-kept es more k (Both v) le h =
    ap (λ l. both (expressions_of (sorted l))) (map-kept es more k v.items le (and_parts (list_all (λ n. nat_lt n k) v.items) (ascending v.items) h).0)
node-kept es more k (Not a) le h = ap complement (child-kept es more k a le h)
node-kept es more k (Star a) le h = ap star (child-kept es more k a le h)

pub node-extends : (old new : List Expression) (t : Term) → Extends old new → is_sound (length old) t ≡ true → node new t ≡ node old t
node-extends old new t x h = ap (λ l. node l t) x.1 ∙ node-kept old x.0 (length old) t (omega arith) h

below-more : (k m : ℕ) (ns : List ℕ) → k ≤ m → list_all (λ n. nat_lt n k) ns ≡ true → list_all (λ n. nat_lt n m) ns ≡ true
below-more k m [] le h = refl
below-more k m (n ∷ ns) le h =
    let u = and_parts (nat_lt n k) (list_all (λ n. nat_lt n k) ns) h in
    and_from (nat_lt n m) (list_all (λ n. nat_lt n m) ns) (one-more k m n le u.0) (below-more k m ns le u.1)
  where
    one-more : (k m n : ℕ) → k ≤ m → nat_lt n k ≡ true → nat_lt n m ≡ true
    one-more k m n le h = let lt = ltb-true n k h in lt-ltb n m (omega (arith, lt, le))

child-more : (k m n : ℕ) → k ≤ m → nat_lt n k ≡ true → nat_lt n m ≡ true
child-more k m n le h = let lt = ltb-true n k h in lt-ltb n m (omega (arith, lt, le))

pub sound-more : (k m : ℕ) (t : Term) → k ≤ m → is_sound k t ≡ true → is_sound m t ≡ true
sound-more k m Never le h = refl
sound-more k m Empty le h = refl
sound-more k m (Set s) le h = refl
sound-more k m (Seq a b) le h = let u = and_parts (nat_lt a k) (nat_lt b k) h in and_from (nat_lt a m) (nat_lt b m) (child-more k m a le u.0) (child-more k m b le u.1)
sound-more k m (Either v) le h =
    let u = and_parts (list_all (λ n. nat_lt n k) v.items) (ascending v.items) h in
    and_from (list_all (λ n. nat_lt n m) v.items) (ascending v.items) (below-more k m v.items le u.0) u.1
sound-more k m (Both v) le h =
    let u = and_parts (list_all (λ n. nat_lt n k) v.items) (ascending v.items) h in
    and_from (list_all (λ n. nat_lt n m) v.items) (ascending v.items) (below-more k m v.items le u.0) u.1
sound-more k m (Not a) le h = child-more k m a le h
sound-more k m (Star a) le h = child-more k m a le h

pub sound-at : (k : ℕ) (ts : List Term) (i : ℕ) (t : Term) → each_sound k ts ≡ true → slice_get ts i ≡ Some t → is_sound (k + i) t ≡ true
sound-at k [] zero t h q = cc
sound-at k [] (suc i) t h q = cc
sound-at k (s ∷ ts) zero t h q =
    let u = and_parts (is_sound k s) (each_sound (suc k) ts) h in
    let is : s ≡ t = cc in
    let at0 : k ≡ k + 0 = omega arith in
    subst (λ x. is_sound (k + 0) x ≡ true) is (subst (λ m. is_sound m s ≡ true) at0 u.0)
sound-at k (s ∷ ts) (suc i) t h q =
    let u = and_parts (is_sound k s) (each_sound (suc k) ts) h in
    let shift : suc k + i ≡ k + suc i = omega arith in
    subst (λ m. is_sound m t ≡ true) shift (sound-at (suc k) ts i t u.1 q)

-- the expression at a place is that of the term there
pub node-at : (es : List Expression) (ts : List Term) (i : ℕ) (t : Term) → each_sound (length es) ts ≡ true → slice_get ts i ≡ Some t
    → at (grow es ts) (length es + i) ≡ node (grow es ts) t
node-at es [] zero t h q = cc
node-at es [] (suc i) t h q = cc
node-at es (s ∷ ts) zero t h q =
    let u = and_parts (is_sound (length es) s) (each_sound (suc (length es)) ts) h in
    let is : s ≡ t = cc in
    let long : length es < length (es ++ node es s ∷ []) = (let l = length-push es (node es s) in omega (arith, l)) in
    let x = grow-extends (es ++ node es s ∷ []) ts in
    let here : length es + 0 ≡ length es = omega arith in
    ap (at (grow es (s ∷ ts))) here
    ∙ at-extends (es ++ node es s ∷ []) (grow es (s ∷ ts)) (length es) x long
    ∙ at-last es (node es s)
    ∙ sym (node-extends es (grow es (s ∷ ts)) s (grow-extends es (s ∷ ts)) u.0)
    ∙ ap (node (grow es (s ∷ ts))) is
node-at es (s ∷ ts) (suc i) t h q =
    let u = and_parts (is_sound (length es) s) (each_sound (suc (length es)) ts) h in
    let l = length-push es (node es s) in
    let sound = subst (λ m. each_sound m ts ≡ true) (sym l) u.1 in
    let shift : length es + suc i ≡ length (es ++ node es s ∷ []) + i = omega (arith, l) in
    ap (at (grow es (s ∷ ts))) shift ∙ node-at (es ++ node es s ∷ []) ts i t sound q

-- different terms over expressions that are apart stand for different expressions

abbrev lists : Expression → List Expression
lists (either es) = list_of es
lists (both es) = list_of es
lists e = []

members-to : (es : List Expression) (ns ms : List ℕ) → AreApart es → list_all (λ n. nat_lt n (length es)) ns ≡ true → list_all (λ n. nat_lt n (length es)) ms ≡ true
    → sorted (map (at es) ns) ≡ sorted (map (at es) ms) → (k : ℕ) → Among k ns → Among k ms
members-to es ns ms apart bn bm q k i =
    let there : In (at es k) (sorted (map (at es) ms)) = subst (In (at es k)) q (In-sorted (at es k) (map (at es) ns) (In-map es k ns i)) in
    let r = map-In es (at es k) ms (sorted-In (at es k) (map (at es) ms) there) in
    let lk = ltb-true k (length es) (among-all (λ n. nat_lt n (length es)) k ns bn i) in
    let lr = ltb-true r.0 (length es) (among-all (λ n. nat_lt n (length es)) r.0 ms bm r.1) in
    subst (λ n. Among n ms) (sym (apart k r.0 lk lr r.2)) r.1

members-same : (es : List Expression) (ns ms : List ℕ) → AreApart es → are_members (length es) ns ≡ true → are_members (length es) ms ≡ true
    → sorted (map (at es) ns) ≡ sorted (map (at es) ms) → ns ≡ ms
members-same es ns ms apart hn hm q =
    let u = and_parts (list_all (λ n. nat_lt n (length es)) ns) (ascending ns) hn in
    let v = and_parts (list_all (λ n. nat_lt n (length es)) ms) (ascending ms) hm in
    same_numbers ns ms u.1 v.1 (members-to es ns ms apart u.0 v.0 q) (members-to es ms ns apart v.0 u.0 (sym q))

one : (es : List Expression) (a b : ℕ) → AreApart es → nat_lt a (length es) ≡ true → nat_lt b (length es) ≡ true → at es a ≡ at es b → (a == b) ≡ true
one es a b apart ha hb q = eq-eqb a b (apart a b (ltb-true a (length es) ha) (ltb-true b (length es) hb) q)

abbrev first : Expression → Expression
first (seq a b) = a
first (complement a) = a
first (star a) = a
first e = e

abbrev second : Expression → Expression
second (seq a b) = b
second e = e

pub node-same : (es : List Expression) (s t : Term) → AreApart es → is_sound (length es) s ≡ true → is_sound (length es) t ≡ true → node es s ≡ node es t → same s t ≡ true
node-same es Never Never apart hs ht q = refl
node-same es Empty Empty apart hs ht q = refl
node-same es (Set s) (Set t) apart hs ht q = let is : s ≡ t = cc in subst (λ x. same (Set s) (Set x) ≡ true) is (itself (Set s))
node-same es (Seq a b) (Seq c d) apart hs ht q =
    let u = and_parts (nat_lt a (length es)) (nat_lt b (length es)) hs in
    let v = and_parts (nat_lt c (length es)) (nat_lt d (length es)) ht in
    and_from (a == c) (b == d) (one es a c apart u.0 v.0 (ap first q)) (one es b d apart u.1 v.1 (ap second q))
node-same es (Either v) (Either w) apart hs ht q =
    let is = members-same es v.items w.items apart hs ht (sym (list_of-expressions_of (sorted (map (at es) v.items))) ∙ ap lists q ∙ list_of-expressions_of (sorted (map (at es) w.items))) in
    subst (λ l. bytes_eq v.items l ≡ true) is (bytes_eq_self v.items)
node-same es (Both v) (Both w) apart hs ht q =
    let is = members-same es v.items w.items apart hs ht (sym (list_of-expressions_of (sorted (map (at es) v.items))) ∙ ap lists q ∙ list_of-expressions_of (sorted (map (at es) w.items))) in
    subst (λ l. bytes_eq v.items l ≡ true) is (bytes_eq_self v.items)
node-same es (Not a) (Not b) apart hs ht q = one es a b apart hs ht (ap first q)
node-same es (Star a) (Star b) apart hs ht q = one es a b apart hs ht (ap first q)
node-same es s t apart hs ht q = cc

-- equal terms stand for equal expressions
pub same-node : (es : List Expression) (s t : Term) → same s t ≡ true → node es s ≡ node es t
same-node es Never Never h = refl
same-node es Empty Empty h = refl
same-node es (Set s) (Set t) h = ap (λ ws. set (record { words = ws })) ((bytes_eq-Decides s.words t.words).0 h)
same-node es (Seq a b) (Seq c d) h =
    let u = and_parts (a == c) (b == d) h in
    ap (λ x. seq (at es a) (at es x)) (eqb-true b d u.1) ∙ ap (λ x. seq (at es x) (at es d)) (eqb-true a c u.0)
same-node es (Either v) (Either w) h = ap (λ l. either (expressions_of (sorted (map (at es) l)))) ((bytes_eq-Decides v.items w.items).0 h)
same-node es (Both v) (Both w) h = ap (λ l. both (expressions_of (sorted (map (at es) l)))) ((bytes_eq-Decides v.items w.items).0 h)
same-node es (Not a) (Not b) h = ap (λ x. complement (at es x)) (eqb-true a b h)
same-node es (Star a) (Star b) h = ap (λ x. star (at es x)) (eqb-true a b h)
same-node es s t h = absurd (false≢true h)

-- one more term

pub each_sound-push : (k : ℕ) (ts : List Term) (t : Term) → each_sound k ts ≡ true → is_sound (k + length ts) t ≡ true → each_sound k (ts ++ t ∷ []) ≡ true
each_sound-push k [] t h g = let here : k + 0 ≡ k = omega arith in and_from (is_sound k t) true (subst (λ m. is_sound m t ≡ true) here g) refl
each_sound-push k (s ∷ ts) t h g =
    let u = and_parts (is_sound k s) (each_sound (suc k) ts) h in
    let shift : k + length (s ∷ ts) ≡ suc k + length ts = omega arith in
    and_from (is_sound k s) (each_sound (suc k) (ts ++ t ∷ [])) u.0 (each_sound-push (suc k) ts t u.1 (subst (λ m. is_sound m t ≡ true) shift g))

-- a place before the end, or the end
place : (es : List Expression) (e : Expression) (i : ℕ) → i < length (es ++ e ∷ []) → (i < length es) ⊎ (i ≡ length es)
place es e i lt = let l = length-push es e in ⊎_elim (λ c. inl c) (λ c. inr c) (below (length es) i (omega (arith, lt, l)))
  where
    below : (n j : ℕ) → j < suc n → (j < n) ⊎ (j ≡ n)
    below zero zero b = inr refl
    below zero (suc j) b = absurd (omega (arith, b))
    below (suc n) zero b = inl (omega arith)
    below (suc n) (suc j) b = ⊎_elim (λ c. inl (omega (arith, c))) (λ c. inr (ap suc c)) (below n j (omega (arith, b)))

pub apart-push : (es : List Expression) (e : Expression) → AreApart es → ((i : ℕ) → i < length es → at es i ≡ e → ⊥) → AreApart (es ++ e ∷ [])
apart-push es e apart new i j li lj q =
    ⊎_elim
    (λ ci. ⊎_elim
    (λ cj. apart i j ci cj (sym (at-left es (e ∷ []) i ci) ∙ q ∙ at-left es (e ∷ []) j cj))
    (λ cj. absurd (new i ci (sym (at-left es (e ∷ []) i ci) ∙ q ∙ ap (at (es ++ e ∷ [])) cj ∙ at-last es e)))
    (place es e j lj))
    (λ ci. ⊎_elim
    (λ cj. absurd (new j cj (sym (at-left es (e ∷ []) j cj) ∙ sym q ∙ ap (at (es ++ e ∷ [])) ci ∙ at-last es e)))
    (λ cj. ci ∙ sym cj)
    (place es e j lj))
    (place es e i li)

-- a term that isn't among them stands for an expression that isn't among theirs
pub new-expression : (ts : List Term) (t : Term) → each_sound 0 ts ≡ true → AreApart (expressions ts) → is_sound (length (expressions ts)) t ≡ true → list_any (same t) ts ≡ false
    → (i : ℕ) → i < length (expressions ts) → at (expressions ts) i ≡ node (expressions ts) t → ⊥
new-expression ts t sound apart ht none i lt q =
    let l = length-grow [] ts in
    let here = slice_get-get_or ts i t (omega (arith, lt, l)) in
    let s = get_or ts i t in
    let from_zero : 0 + i ≡ i = omega arith in
    let is = subst (λ m. at (expressions ts) m ≡ node (expressions ts) s) from_zero (node-at [] ts i s sound here) in
    let sound-s = subst (λ m. is_sound m s ≡ true) from_zero (sound-at 0 ts i s sound here) in
    let both = node-same (expressions ts) t s apart ht (sound-more i (length (expressions ts)) s (omega (arith, lt)) sound-s) (sym q ∙ is) in
    false≢true (sym none ∙ any_passes_from_place (same t) ts i s here both)

-- the terms after `insert_full`

pub expressions-push : (ts : List Term) (t : Term) → expressions (ts ++ t ∷ []) ≡ expressions ts ++ node (expressions ts) t ∷ []
expressions-push ts t = grow-append [] ts (t ∷ [])

pub insert-cases : (ts new : List Term) (t : Term) (P : List Term → Type 0) → new ≡ insert_key same ts t → (list_any (same t) ts ≡ true → P ts)
    → (list_any (same t) ts ≡ false → P (ts ++ t ∷ [])) → P new
insert-cases ts new t P e there none = at_bool (list_any (same t) ts) refl e
  where
    at_bool : (b : Bool) → list_any (same t) ts ≡ b → new ≡ cond b ts (ts ++ t ∷ []) → P new
    at_bool true h e = subst P (sym e) (there h)
    at_bool false h e = subst P (sym e) (none h)

pub insert-sound : (ts new : List Term) (t : Term) → each_sound 0 ts ≡ true → is_sound (length (expressions ts)) t ≡ true → new ≡ insert_key same ts t → each_sound 0 new ≡ true
insert-sound ts new t h g e =
    let l : length (expressions ts) ≡ 0 + length ts = length-grow [] ts in
    insert-cases ts new t (λ us. each_sound 0 us ≡ true) e (λ b. h) (λ b. each_sound-push 0 ts t h (subst (λ m. is_sound m t ≡ true) l g))

pub insert-extends : (ts new : List Term) (t : Term) → new ≡ insert_key same ts t → Extends (expressions ts) (expressions new)
insert-extends ts new t e =
    insert-cases ts new t (λ us. Extends (expressions ts) (expressions us)) e
    (λ b. ([], sym (append-nil (expressions ts))))
    (λ b. (node (expressions ts) t ∷ [], expressions-push ts t))

pub insert-apart : (ts new : List Term) (t : Term) → each_sound 0 ts ≡ true → AreApart (expressions ts) → is_sound (length (expressions ts)) t ≡ true
    → new ≡ insert_key same ts t → AreApart (expressions new)
insert-apart ts new t h apart g e =
    insert-cases ts new t (λ us. AreApart (expressions us)) e (λ b. apart)
    (λ b. subst AreApart (sym (expressions-push ts t)) (apart-push (expressions ts) (node (expressions ts) t) apart (new-expression ts t h apart g b)))

pub insert-made : (ts new : List Term) (t k : Term) (n : ℕ) → each_sound 0 ts ≡ true → is_sound (length (expressions ts)) t ≡ true → new ≡ insert_key same ts t
    → slice_get new n ≡ Some k → same t k ≡ true → at (expressions new) n ≡ node (expressions ts) t
insert-made ts new t k n h g e q b =
    let from_zero : 0 + n ≡ n = omega arith in
    subst (λ m. at (expressions new) m ≡ node (expressions new) k) from_zero (node-at [] new n k (insert-sound ts new t h g e) q)
    ∙ sym (same-node (expressions new) t k b)
    ∙ node-extends (expressions ts) (expressions new) t (insert-extends ts new t e) g

pub length-expressions : (ts : List Term) → length (expressions ts) ≡ length ts
length-expressions ts = let l = length-grow [] ts in omega (arith, l)

pub on_either : {T E : Type 0} (r : Result T E) (P : T → Type 0) (Q C : Type 0) → IfOk r P → OnErr r Q → ((x : T) → P x → C) → (Q → C) → C
on_either (Ok x) P Q C ok err f g = f x ok
on_either (Err e) P Q C ok err f g = g err

-- the term of a number

pub read-node : (ts : List Term) (n : ℕ) (t : Term) → each_sound 0 ts ≡ true → slice_get ts n ≡ Some t → at (expressions ts) n ≡ node (expressions ts) t
read-node ts n t h q =
    let from_zero : 0 + n ≡ n = omega arith in
    subst (λ m. at (expressions ts) m ≡ node (expressions ts) t) from_zero (node-at [] ts n t h q)

pub read-sound : (ts : List Term) (n : ℕ) (t : Term) → each_sound 0 ts ≡ true → slice_get ts n ≡ Some t → is_sound n t ≡ true
read-sound ts n t h q =
    let from_zero : 0 + n ≡ n = omega arith in
    subst (λ m. is_sound m t ≡ true) from_zero (sound-at 0 ts n t h q)

pub none-past : (ts : List Term) (n : ℕ) → n < length (expressions ts) → slice_get ts n ≡ None → ⊥
none-past ts n lt q =
    let l = length-expressions ts in
    let here = slice_get-get_or ts n Never (omega (arith, lt, l)) in
    let clash : Some (get_or ts n Never) ≡ None = sym here ∙ q in cc
