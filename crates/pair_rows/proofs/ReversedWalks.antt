-- Walks that come before one another, from their last places.
use Rattle.std.proofs.Common.{◌≡◌, ◌⊎◌, ℕ, ◌<◌, ◌≤◌, List, [], ◌∷◌, ◌++◌, length, reverse, refl, sym, ap, subst, subst₂, arith, inl, inr}
use Rattle.std.proofs.lemmas.List.{reverse-append}
use Rattle.pair_graph.specs.Order.{ComesBefore, IsLesser}
use Rattle.compare_base.specs.Ranks.{IsNoLater}

-- the first place at which the lists differ is in both, and lesser in the first
abbrev IsBefore : List ℕ → List ℕ → Type 0
IsBefore [] ys = ⊥
IsBefore (x ∷ xs) [] = ⊥
IsBefore (x ∷ xs) (y ∷ ys) = (x < y) ⊎ ((x ≡ y) × IsBefore xs ys)

before-append : (xs ys us vs : List ℕ) → IsBefore xs ys → IsBefore (xs ++ us) (ys ++ vs)
before-append [] ys us vs is = absurd is
before-append (x ∷ xs) [] us vs is = absurd is
before-append (x ∷ xs) (y ∷ ys) us vs (inl less) = inl less
before-append (x ∷ xs) (y ∷ ys) us vs (inr rest) = inr (rest.0, before-append xs ys us vs rest.1)

before_at_end : (xs ys : List ℕ) (x y : ℕ) → xs ≡ ys → x < y → IsBefore (xs ++ x ∷ []) (ys ++ y ∷ [])
before_at_end xs ys x y same less = subst (λ zs. IsBefore (xs ++ x ∷ []) (zs ++ y ∷ [])) same (itself xs)
  where
    itself : (zs : List ℕ) → IsBefore (zs ++ x ∷ []) (zs ++ y ∷ [])
    itself [] = inl less
    itself (z ∷ zs) = inr (refl, itself zs)

reversed : (x : ℕ) (xs : List ℕ) → reverse (x ∷ xs) ≡ reverse xs ++ x ∷ []
reversed x xs = reverse-append (x ∷ []) xs

lesser_reversed : (walk other : List ℕ) → IsLesser walk other → IsBefore (reverse walk) (reverse other)
lesser_reversed [] other is = absurd is
lesser_reversed (l ∷ ls) [] is = absurd is
lesser_reversed (l ∷ ls) (k ∷ ks) (inl later) =
    subst₂ IsBefore (sym (reversed l ls)) (sym (reversed k ks)) (before-append (reverse ls) (reverse ks) (l ∷ []) (k ∷ []) (lesser_reversed ls ks later))
lesser_reversed (l ∷ ls) (k ∷ ks) (inr here) =
    subst₂ IsBefore (sym (reversed l ls)) (sym (reversed k ks)) (before_at_end (reverse ls) (reverse ks) l k (ap reverse here.0) here.1)

no_later : (xs ys : List ℕ) → IsBefore xs ys → IsNoLater xs ys
no_later [] ys is = absurd is
no_later (x ∷ xs) [] is = absurd is
no_later (x ∷ xs) (y ∷ ys) (inl less) = (omega (arith, less), λ same. absurd (omega (arith, less, same)))
no_later (x ∷ xs) (y ∷ ys) (inr rest) = (omega (arith, rest.0), λ same. no_later xs ys rest.1)

no_later_itself : (xs : List ℕ) → IsNoLater xs xs
no_later_itself [] = tt
no_later_itself (x ∷ xs) = (omega arith, λ same. no_later_itself xs)

-- it's no longer, and if it's as long no later from its end
abbrev pub ComesFirst : List ℕ → List ℕ → Type 0
ComesFirst walk other = (length walk ≤ length other) × (length walk ≡ length other → IsNoLater (reverse walk) (reverse other))

lesser_long : (walk other : List ℕ) → IsLesser walk other → length walk ≡ length other
lesser_long [] other is = absurd is
lesser_long (l ∷ ls) [] is = absurd is
lesser_long (l ∷ ls) (k ∷ ks) (inl later) = let rest = lesser_long ls ks later in omega (arith, rest)
lesser_long (l ∷ ls) (k ∷ ks) (inr here) = let rest : length ls ≡ length ks = ap length here.0 in omega (arith, rest)

pub comes_first : (walk other : List ℕ) → (walk ≡ other) ⊎ ComesBefore walk other → ComesFirst walk other
comes_first walk other (inl same) = subst (ComesFirst walk) same (omega arith, λ long. no_later_itself (reverse walk))
comes_first walk other (inr (inl shorter)) = (omega (arith, shorter), λ long. absurd (omega (arith, shorter, long)))
comes_first walk other (inr (inr lesser)) =
    let long = lesser_long walk other lesser in
    (omega (arith, long), λ same. no_later (reverse walk) (reverse other) (lesser_reversed walk other lesser))

-- also with a place in front of both
pub comes_first_from : (peer : ℕ) (walk other : List ℕ) → (walk ≡ other) ⊎ ComesBefore walk other → ComesFirst (peer ∷ walk) (peer ∷ other)
comes_first_from peer walk other (inl same) = comes_first (peer ∷ walk) (peer ∷ other) (inl (ap (λ ls. peer ∷ ls) same))
comes_first_from peer walk other (inr (inl shorter)) = comes_first (peer ∷ walk) (peer ∷ other) (inr (inl (omega (arith, shorter))))
comes_first_from peer walk other (inr (inr lesser)) = comes_first (peer ∷ walk) (peer ∷ other) (inr (inr (inl lesser)))
