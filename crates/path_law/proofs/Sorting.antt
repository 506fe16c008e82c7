-- A strictly ascending list is determined by its members, so sorting and removing repeats gives what inserting one by one gives.
use Rattle.std.proofs.Common.{◌≡◌, ℕ, zero, suc, ◌<◌, List, [], ◌∷◌, ◌⊎◌, inl, inr, ⊎_elim, length, get_or, refl, sym, ap, subst, ◌∙◌, arith}
use Rattle.std.specs.List.{Contains, AllByRecursion, dedup}
use Rattle.std.specs.List.Sorted.{IsStrictlySortedBy, IsPermutation}
use Rattle.std.specs.Ordering.{match_ordering, ordering_reverse, on, eq_by_cmp}
use Rattle.std.specs.declared.cmp.Ordering.{Ordering}
use Rattle.std.specs.declared.cmp.Ordering.TheVariants.{Less, Equal, Greater}
use Rattle.std.proofs.lemmas.List.Kept.{Any-dedup}
use Rattle.std.proofs.lemmas.List.Sorted.{Contains-permutation}
use Rattle.path_exprs.specs.declared.expr.Expr.{Expr}
use Rattle.path_exprs.specs.Expression.{Expression}
use Rattle.path_exprs.specs.Order.{compare, Ascends}
use Rattle.path_exprs.specs.Ordered.{compare-equal}
use Rattle.path_exprs.specs.Total.{compare_total, compare_itself}
use Rattle.path_exprs.specs.Alike.{value_equivalence, equal_views}
use Rattle.path_exprs.specs.Normal.{insert, insert_each, sorted}
use Rattle.path_exprs.specs.View.{view, views}

abbrev pub In : Expression → List Expression → Type 0
In e [] = ⊥
In e (f ∷ fs) = (e ≡ f) ⊎ In e fs

abbrev Below : Expression → List Expression → Type 0
Below e fs = AllByRecursion (λ f. compare e f ≡ Less) fs

below-In : (e f : Expression) (fs : List Expression) → Below e fs → In f fs → compare e f ≡ Less
below-In e f [] b i = absurd i
below-In e f (g ∷ gs) b i = ⊎_elim (λ q. ap (compare e) q ∙ b.0) (λ j. below-In e f gs b.1 j) i

below-trans : (e f : Expression) (fs : List Expression) → compare e f ≡ Less → Below f fs → Below e fs
below-trans e f [] l b = tt
below-trans e f (g ∷ gs) l b = (compare_total.trans e f g l b.0, below-trans e f gs l b.1)

not_less_itself : (e : Expression) → compare e e ≡ Less → ⊥
not_less_itself e h = let k = sym (compare_itself e) ∙ h in cc

-- inserting

below-insert : (e f : Expression) (fs : List Expression) → compare e f ≡ Less → Below e fs → Below e (insert f fs)
below-insert e f [] l b = (l, tt)
below-insert e f (g ∷ gs) l b = at (compare f g) (below-insert e f gs l b.1)
  where
    at : (o : Ordering) → Below e (insert f gs) → Below e (match_ordering o (f ∷ g ∷ gs) (g ∷ gs) (g ∷ insert f gs))
    at Less ih = (l, b)
    at Equal ih = b
    at Greater ih = (b.0, ih)

greater-less : (e f : Expression) → compare e f ≡ Greater → compare f e ≡ Less
greater-less e f h = compare_total.antisymm f e ∙ ap ordering_reverse h

ascends-insert : (e : Expression) (fs : List Expression) → Ascends fs → Ascends (insert e fs)
ascends-insert e [] s = (tt, tt)
ascends-insert e (f ∷ fs) s = at (compare e f) refl (ascends-insert e fs s.1)
  where
    at : (o : Ordering) → compare e f ≡ o → Ascends (insert e fs) → Ascends (match_ordering o (e ∷ f ∷ fs) (f ∷ fs) (f ∷ insert e fs))
    at Less h ih = ((h, below-trans e f fs h s.0), s)
    at Equal h ih = s
    at Greater h ih = (below-insert f e fs (greater-less e f h) s.0, ih)

pub ascends-insert_each : (es fs : List Expression) → Ascends fs → Ascends (insert_each es fs)
ascends-insert_each [] fs s = s
ascends-insert_each (e ∷ es) fs s = ascends-insert_each es (insert e fs) (ascends-insert e fs s)

In-insert-at : (g e f : Expression) (fs : List Expression) (o : Ordering) → compare e f ≡ o → (In g (insert e fs) → (g ≡ e) ⊎ In g fs) →
    In g (match_ordering o (e ∷ f ∷ fs) (f ∷ fs) (f ∷ insert e fs)) → (g ≡ e) ⊎ ((g ≡ f) ⊎ In g fs)
In-insert-at g e f fs Less h ih i = i
In-insert-at g e f fs Equal h ih i = inr i
In-insert-at g e f fs Greater h ih i = ⊎_elim (λ q. inr (inl q)) (λ j. ⊎_elim inl (λ k. inr (inr k)) (ih j)) i

In-insert : (g e : Expression) (fs : List Expression) → In g (insert e fs) → (g ≡ e) ⊎ In g fs
In-insert g e [] i = i
In-insert g e (f ∷ fs) i = In-insert-at g e f fs (compare e f) refl (In-insert g e fs) i

insert-In-at : (g e f : Expression) (fs : List Expression) (o : Ordering) → compare e f ≡ o → ((g ≡ e) ⊎ In g fs → In g (insert e fs)) →
    (g ≡ e) ⊎ ((g ≡ f) ⊎ In g fs) → In g (match_ordering o (e ∷ f ∷ fs) (f ∷ fs) (f ∷ insert e fs))
insert-In-at g e f fs Less h ih i = i
insert-In-at g e f fs Equal h ih i = ⊎_elim (λ q. inl (q ∙ compare-equal e f h)) (λ j. j) i
insert-In-at g e f fs Greater h ih i = ⊎_elim (λ q. inr (ih (inl q))) (λ j. ⊎_elim inl (λ k. inr (ih (inr k))) j) i

insert-In : (g e : Expression) (fs : List Expression) → (g ≡ e) ⊎ In g fs → In g (insert e fs)
insert-In g e [] i = i
insert-In g e (f ∷ fs) i = insert-In-at g e f fs (compare e f) refl (insert-In g e fs) i

pub In-insert_each : (g : Expression) (es fs : List Expression) → In g (insert_each es fs) → In g es ⊎ In g fs
In-insert_each g [] fs i = inr i
In-insert_each g (e ∷ es) fs i =
    ⊎_elim (λ j. inl (inr j)) (λ j. ⊎_elim (λ q. inl (inl q)) inr (In-insert g e fs j)) (In-insert_each g es (insert e fs) i)

pub insert_each-In : (g : Expression) (es fs : List Expression) → In g es ⊎ In g fs → In g (insert_each es fs)
insert_each-In g [] fs i = ⊎_elim (λ j. absurd j) (λ j. j) i
insert_each-In g (e ∷ es) fs i =
    insert_each-In g es (insert e fs)
    (⊎_elim (λ j. ⊎_elim (λ q. inr (insert-In g e fs (inl q))) inl j) (λ j. inr (insert-In g e fs (inr j))) i)

-- one list for its members

head-least : (e f : Expression) (es fs : List Expression) → Ascends (e ∷ es) → Ascends (f ∷ fs) →
    ((g : Expression) → In g (e ∷ es) → In g (f ∷ fs)) → ((g : Expression) → In g (f ∷ fs) → In g (e ∷ es)) → e ≡ f
head-least e f es fs s t to from =
    ⊎_elim (λ q. q)
    (λ i. ⊎_elim sym
    (λ j. absurd (not_less_itself e (compare_total.trans e f e (below-In e f es s.0 j) (below-In f e fs t.0 i))))
    (from f (inl refl)))
    (to e (inl refl))

tail-to : (e : Expression) (es fs : List Expression) → Below e es → ((g : Expression) → In g (e ∷ es) → In g (e ∷ fs)) → (g : Expression) → In g es → In g fs
tail-to e es fs b to g i =
    ⊎_elim (λ q. absurd (not_less_itself e (ap (compare e) (sym q) ∙ below-In e g es b i))) (λ j. j) (to g (inr i))

pub same_members : (es fs : List Expression) → Ascends es → Ascends fs → ((g : Expression) → In g es → In g fs) → ((g : Expression) → In g fs → In g es) → es ≡ fs
same_members [] [] s t to from = refl
same_members [] (f ∷ fs) s t to from = absurd (from f (inl refl))
same_members (e ∷ es) [] s t to from = absurd (to e (inl refl))
same_members (e ∷ es) (f ∷ fs) s t to from =
    let q = head-least e f es fs s t to from in
    let to' : (g : Expression) → In g (e ∷ es) → In g (e ∷ fs) = subst (λ x. (g : Expression) → In g (e ∷ es) → In g (x ∷ fs)) (sym q) to in
    let from' : (g : Expression) → In g (e ∷ fs) → In g (e ∷ es) = subst (λ x. (g : Expression) → In g (x ∷ fs) → In g (e ∷ es)) (sym q) from in
    let b : Below e fs = subst (λ x. Below x fs) (sym q) t.0 in
    ap (λ l. e ∷ l) (same_members es fs s.1 t.1 (tail-to e es fs s.0 to') (tail-to e fs es b from')) ∙ ap (λ x. x ∷ fs) q

pub ascends-sorted : (es : List Expression) → Ascends (sorted es)
ascends-sorted es = ascends-insert_each es [] tt

-- values, sorted and without repeats

at_least_one : (x : Expr) (xs : List Expr) (k : ℕ) → k < length xs → get_or xs k x ≡ x → In (view x) (views xs)
at_least_one x [] k p q = absurd (omega arith)
at_least_one x (y ∷ ys) zero p q = inl (ap view (sym q))
at_least_one x (y ∷ ys) (suc k) p q = inr (at_least_one x ys k (omega arith) q)

In-views : (xs : List Expr) (x : Expr) → Contains xs x → In (view x) (views xs)
In-views xs x c = at_least_one x xs c.0 c.1 c.2

views-In : (g : Expression) (xs : List Expr) → In g (views xs) → (x : Expr) × Contains xs x × (view x ≡ g)
views-In g [] i = absurd i
views-In g (y ∷ ys) i =
    ⊎_elim (λ q. (y, (0, omega arith, refl), sym q))
    (λ j. let r = views-In g ys j in (r.0, (suc r.1.0, omega (arith, r.1.1), r.1.2), r.2)) i

ascends-views : (xs : List Expr) → IsStrictlySortedBy (on view compare) xs → Ascends (views xs)
unfolding IsStrictlySortedBy
ascends-views [] s = tt
ascends-views (x ∷ xs) s = (below xs s.0, ascends-views xs s.1)
  where
    below : (ys : List Expr) → AllByRecursion (λ y. on view compare x y ≡ Less) ys → Below (view x) (views ys)
    below [] b = tt
    below (y ∷ ys) b = (b.0, below ys b.1)

kept : (g : Expression) (xs ys : List Expr) → IsPermutation xs ys → (x : Expr) → Contains xs x → view x ≡ g → In g (views (dedup (eq_by_cmp (on view compare)) ys))
kept g xs ys p x c q =
    let other = Any-dedup value_equivalence ys x (Contains-permutation xs ys x p c) in
    let same = equal_views x other.1 other.4 in
    subst (λ e. In e (views (dedup (eq_by_cmp (on view compare)) ys))) (sym same ∙ q)
    (In-views (dedup (eq_by_cmp (on view compare)) ys) other.1 (other.0, other.2, other.3))
