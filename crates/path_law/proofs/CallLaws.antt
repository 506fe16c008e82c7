-- The expression of each call holds the lists that meet the call.
use Rattle.std.proofs.Common.{◌≡◌, ℕ, List, [], ◌∷◌, Bool, true, false, not, ◌&&◌, ◌||◌, refl, ap, ◌∙◌}
use Rattle.std.specs.List.{list_all, list_any}
use Rattle.std.proofs.Math.Bool.{and-false, and-true, or-false}
use Rattle.std.proofs.lemmas.Bool.{and_parts}
use Rattle.list_law.proofs.Truth.{not_and_not}
use Rattle.net_base.specs.declared.loc.LocSet.{LocSet}
use Rattle.net_base.specs.Network.{PlainNet, IsNet, is_location}
use Rattle.net_base.specs.Sets.{holds}
use Rattle.policy_base.specs.declared.call.Call.{Call}
use Rattle.policy_base.specs.declared.call.Call.TheVariants.{Any, Drop, Internal, Link, Path, Of}
use Rattle.policy_words.specs.declared.word.SetCall.{SetCall}
use Rattle.policy_words.specs.declared.word.SetCall.TheVariants.{Avoid, Through, NoTransit, Start, End, Exit, Enter}
use Rattle.policy_base.specs.Meaning.{at_first, at_last, front, some_step, each_in, meets, meets_set}
use Rattle.path_exprs.specs.Language.{Language, nothing, one_of, divides, repeats}
use Rattle.path_exprs.specs.Membership.{member}
use Rattle.net_base.specs.NetSets.{locations, peers}
use Rattle.path_law.proofs.Languages.{divides_same, divides-and, divides-nothing_left, goes_on-divides}
use Rattle.net_base.proofs.NetSetLaws.{holds-peers, all_held}
use Rattle.path_law.proofs.Repeats.{goes_on-and}
use Rattle.net_base.specs.SetOperations.{common, outside}
use Rattle.path_exprs.specs.Forward.{forward, forward_set, in_turn}
use Rattle.net_base.proofs.CommonSets.{holds-common, holds-outside}

abbrev anything : Language
anything xs = true

divides-one_of : (s : LocSet) (q : Language) (x : ℕ) (xs : List ℕ) → divides (one_of s) q (x ∷ xs) ≡ (holds s x && q xs)
divides-one_of s q x xs = divides-and (holds s x) nothing q xs ∙ ap (λ b. holds s x && b) (divides-nothing_left q xs)

starts : (s : LocSet) (xs : List ℕ) → divides (one_of s) anything xs ≡ at_first (holds s) xs
starts s [] = refl
starts s (x ∷ xs) = divides-one_of s anything x xs ∙ and-true (holds s x)

ends : (s : LocSet) (xs : List ℕ) → divides anything (one_of s) xs ≡ at_last (holds s) xs
ends s [] = refl
ends s (x ∷ []) = or-false (holds s x && true) ∙ and-true (holds s x)
ends s (x ∷ y ∷ ys) = ap (λ b. b || divides anything (one_of s) (y ∷ ys)) (and-false (holds s x)) ∙ ends s (y ∷ ys)

some_first : (s : LocSet) (xs : List ℕ) → divides anything (at_first (holds s)) xs ≡ list_any (holds s) xs
some_first s [] = refl
some_first s (x ∷ xs) = ap (λ b. holds s x || b) (some_first s xs)

passes : (s : LocSet) (xs : List ℕ) → divides anything (divides (one_of s) anything) xs ≡ list_any (holds s) xs
passes s xs = divides_same anything anything (divides (one_of s) anything) (at_first (holds s)) (λ ys. refl) (starts s) xs ∙ some_first s xs

-- a list of locations of the set
repeats-cons : (s : LocSet) (x : ℕ) (xs : List ℕ) → repeats (one_of s) (x ∷ xs) ≡ (holds s x && repeats (one_of s) xs)
repeats-cons s x xs =
    goes_on-and (holds s x) (one_of s) nothing xs
    ∙ ap (λ b. holds s x && b) (goes_on-divides (one_of s) nothing xs ∙ divides-nothing_left (repeats (one_of s)) xs)

repeats-set : (s : LocSet) (xs : List ℕ) → repeats (one_of s) xs ≡ list_all (holds s) xs
repeats-set s [] = refl
repeats-set s (x ∷ xs) = repeats-cons s x xs ∙ ap (λ b. holds s x && b) (repeats-set s xs)

keeps_out : (full s : LocSet) (xs : List ℕ) → list_all (holds full) xs ≡ true → list_all (holds (outside full s)) xs ≡ not (list_any (holds s) xs)
keeps_out full s [] h = refl
keeps_out full s (x ∷ xs) h =
    let parts = and_parts (holds full x) (list_all (holds full) xs) h in
    ap (λ b. b && list_all (holds (outside full s)) xs) (holds-outside full s x ∙ ap (λ b. b && not (holds s x)) parts.0)
    ∙ ap (λ b. not (holds s x) && b) (keeps_out full s xs parts.1)
    ∙ not_and_not (holds s x) (list_any (holds s) xs)

avoids : (full s : LocSet) (xs : List ℕ) → list_all (holds full) xs ≡ true → repeats (one_of (outside full s)) xs ≡ not (list_any (holds s) xs)
avoids full s xs h = repeats-set (outside full s) xs ∙ keeps_out full s xs h

-- locations outside the set, and a last one
outside_till_last : (full s : LocSet) (xs : List ℕ) → list_all (holds full) xs ≡ true → (x : ℕ) → holds full x ≡ true →
    divides (repeats (one_of (outside full s))) (one_of full) (x ∷ xs) ≡ not (list_any (holds s) (front (x ∷ xs)))
outside_till_last full s [] h x k =
    ap (λ b. (b && true) || divides (λ ys. repeats (one_of (outside full s)) (x ∷ ys)) (one_of full) []) k
outside_till_last full s (y ∷ ys) h x k =
    let o : LocSet = outside full s in
    let parts = and_parts (holds full y) (list_all (holds full) ys) h in
    let step : (λ zs. repeats (one_of o) (x ∷ zs)) ≡ (λ zs. holds o x && repeats (one_of o) zs) = λ i. λ zs. repeats-cons o x zs i in
    ap (λ p. (holds full x && false) || divides p (one_of full) (y ∷ ys)) step
    ∙ ap (λ b. (holds full x && false) || b)
    (divides-and (holds o x) (repeats (one_of o)) (one_of full) (y ∷ ys)
    ∙ ap (λ b. b && divides (repeats (one_of o)) (one_of full) (y ∷ ys)) (holds-outside full s x ∙ ap (λ b. b && not (holds s x)) k)
    ∙ ap (λ b. not (holds s x) && b) (outside_till_last full s ys parts.1 y parts.0))
    ∙ none_first (holds full x) (not (holds s x) && not (list_any (holds s) (front (y ∷ ys))))
    ∙ not_and_not (holds s x) (list_any (holds s) (front (y ∷ ys)))
  where
    none_first : (a b : Bool) → ((a && false) || b) ≡ b
    none_first true b = refl
    none_first false b = refl

stays_out : (full s : LocSet) (x y : ℕ) (ys : List ℕ) → list_all (holds full) (x ∷ y ∷ ys) ≡ true →
    divides (one_of full) (divides (repeats (one_of (outside full s))) (one_of full)) (x ∷ y ∷ ys) ≡ not (list_any (holds s) (front (y ∷ ys)))
stays_out full s x y ys h =
    let parts = and_parts (holds full x) (list_all (holds full) (y ∷ ys)) h in
    let rest = and_parts (holds full y) (list_all (holds full) ys) parts.1 in
    divides-one_of full (divides (repeats (one_of (outside full s))) (one_of full)) x (y ∷ ys)
    ∙ ap (λ b. b && divides (repeats (one_of (outside full s))) (one_of full) (y ∷ ys)) parts.0
    ∙ outside_till_last full s ys rest.1 y rest.0

links : (s t : LocSet) (xs : List ℕ) → divides anything (divides (one_of s) (divides (one_of t) anything)) xs ≡ some_step (λ k l. holds s k && holds t l) xs
links s t [] = refl
links s t (x ∷ []) = ap (λ b. b || false) (divides-one_of s (divides (one_of t) anything) x [] ∙ and-false (holds s x))
links s t (x ∷ y ∷ ys) =
    ap (λ b. b || divides anything (divides (one_of s) (divides (one_of t) anything)) (y ∷ ys))
    (divides-one_of s (divides (one_of t) anything) x (y ∷ ys) ∙ ap (λ b. holds s x && b) (starts t (y ∷ ys)))
    ∙ ap (λ b. (holds s x && holds t y) || b) (links s t (y ∷ ys))

one_of-each_in : (s : LocSet) (xs : List ℕ) → one_of s xs ≡ each_in (s ∷ []) xs
one_of-each_in s [] = refl
one_of-each_in s (x ∷ []) = refl
one_of-each_in s (x ∷ y ∷ ys) = refl

member-in_turn : (sets : List LocSet) (xs : List ℕ) → member (in_turn sets) xs ≡ each_in sets xs
member-in_turn [] [] = refl
member-in_turn [] (x ∷ xs) = refl
member-in_turn (s ∷ []) xs = one_of-each_in s xs
member-in_turn (s ∷ t ∷ ts) [] = refl
member-in_turn (s ∷ t ∷ ts) (x ∷ xs) =
    divides-one_of s (member (in_turn (t ∷ ts))) x xs ∙ ap (λ b. holds s x && b) (member-in_turn (t ∷ ts) xs)

-- the last two locations
ends_with_two : (s t : LocSet) (xs : List ℕ) → divides anything (divides (one_of s) (one_of t)) xs ≡ (at_last (holds t) xs && at_last (holds s) (front xs))
ends_with_two s t [] = refl
ends_with_two s t (x ∷ xs) =
    ap (λ b. b || divides anything (divides (one_of s) (one_of t)) xs) (divides-one_of s (one_of t) x xs)
    ∙ ap (λ b. (holds s x && one_of t xs) || b) (ends_with_two s t xs)
    ∙ one_more xs
  where
    pick : (a b : Bool) → ((a && (b && true)) || (b && false)) ≡ (b && a)
    pick true true = refl
    pick true false = refl
    pick false true = refl
    pick false false = refl

    skip : (a b c : Bool) → ((a && (b && false)) || c) ≡ c
    skip true true c = refl
    skip true false c = refl
    skip false b c = refl

    none : (a b : Bool) → ((a && false) || false) ≡ (b && false)
    none true true = refl
    none true false = refl
    none false true = refl
    none false false = refl

    one_more : (ys : List ℕ) → ((holds s x && one_of t ys) || (at_last (holds t) ys && at_last (holds s) (front ys))) ≡ (at_last (holds t) (x ∷ ys) && at_last (holds s) (front (x ∷ ys)))
    one_more [] = none (holds s x) (holds t x)
    one_more (y ∷ []) = pick (holds s x) (holds t y)
    one_more (y ∷ z ∷ zs) = skip (holds s x) (holds t y) (at_last (holds t) (z ∷ zs) && at_last (holds s) (front (y ∷ z ∷ zs)))

at_last-common : (s t : LocSet) (xs : List ℕ) → at_last (holds (common s t)) xs ≡ (at_last (holds s) xs && at_last (holds t) xs)
at_last-common s t [] = refl
at_last-common s t (x ∷ []) = holds-common s t x
at_last-common s t (x ∷ y ∷ ys) = at_last-common s t (y ∷ ys)

starts_with_two : (s t : LocSet) (x : ℕ) (xs : List ℕ) → divides (one_of s) (divides (one_of t) anything) (x ∷ xs) ≡ (holds s x && at_first (holds t) xs)
starts_with_two s t x xs = divides-one_of s (divides (one_of t) anything) x xs ∙ ap (λ b. holds s x && b) (starts t xs)

either_place : (a b c : Bool) → ((a && b) || ((b && c) || false)) ≡ (b && (a || c))
either_place true true c = refl
either_place true false c = refl
either_place false true c = or-false c
either_place false false c = refl

leaves : (s t : LocSet) (xs : List ℕ) →
    (divides anything (one_of (common s t)) xs || (divides anything (divides (one_of s) (one_of t)) xs || false)) ≡ (at_last (holds t) xs && (at_last (holds s) xs || at_last (holds s) (front xs)))
leaves s t xs =
    ap (λ b. b || (divides anything (divides (one_of s) (one_of t)) xs || false)) (ends (common s t) xs ∙ at_last-common s t xs)
    ∙ ap (λ b. (at_last (holds s) xs && at_last (holds t) xs) || (b || false)) (ends_with_two s t xs)
    ∙ either_place (at_last (holds s) xs) (at_last (holds t) xs) (at_last (holds s) (front xs))

comes_in : (s t : LocSet) (x : ℕ) (xs : List ℕ) →
    (divides (one_of (common s t)) anything (x ∷ xs) || (divides (one_of t) (divides (one_of s) anything) (x ∷ xs) || false)) ≡ (holds t x && (holds s x || at_first (holds s) xs))
comes_in s t x xs =
    ap (λ b. b || (divides (one_of t) (divides (one_of s) anything) (x ∷ xs) || false)) (starts (common s t) (x ∷ xs) ∙ holds-common s t x)
    ∙ ap (λ b. (holds s x && holds t x) || (b || false)) (starts_with_two t s x xs)
    ∙ either_place (holds s x) (holds t x) (at_first (holds s) xs)

-- the expression of a call of one set holds a list of at least two locations of the net where the list meets the call
member-forward_set : (net : PlainNet) → IsNet net → (c : SetCall) (s : LocSet) (x y : ℕ) (ys : List ℕ) → list_all (is_location net) (x ∷ y ∷ ys) ≡ true →
    member (forward_set net c s) (x ∷ y ∷ ys) ≡ meets_set net c s (x ∷ y ∷ ys)
member-forward_set net rules Avoid s x y ys h = avoids (locations net) s (x ∷ y ∷ ys) (all_held net rules (x ∷ y ∷ ys) h)
member-forward_set net rules Through s x y ys h = passes s (x ∷ y ∷ ys)
member-forward_set net rules NoTransit s x y ys h = stays_out (locations net) s x y ys (all_held net rules (x ∷ y ∷ ys) h)
member-forward_set net rules Start s x y ys h = starts s (x ∷ y ∷ ys)
member-forward_set net rules End s x y ys h = ends s (x ∷ y ∷ ys)
member-forward_set net rules Exit s x y ys h =
    leaves s (peers net) (x ∷ y ∷ ys)
    ∙ ap (λ p. at_last p (y ∷ ys) && (at_last (holds s) (y ∷ ys) || at_last (holds s) (front (x ∷ y ∷ ys)))) (holds-peers net rules)
member-forward_set net rules Enter s x y ys h =
    comes_in s (peers net) x (y ∷ ys) ∙ ap (λ p. p x && (holds s x || holds s y)) (holds-peers net rules)

-- so does the expression of any call
pub member-forward : (net : PlainNet) → IsNet net → (c : Call) (x y : ℕ) (ys : List ℕ) → list_all (is_location net) (x ∷ y ∷ ys) ≡ true →
    member (forward net c) (x ∷ y ∷ ys) ≡ meets net c (x ∷ y ∷ ys)
member-forward net rules Any x y ys h = refl
member-forward net rules Drop x y ys h = refl
member-forward net rules Internal x y ys h =
    avoids (locations net) (peers net) (x ∷ y ∷ ys) (all_held net rules (x ∷ y ∷ ys) h) ∙ ap (λ p. not (list_any p (x ∷ y ∷ ys))) (holds-peers net rules)
member-forward net rules (Link s t) x y ys h = links s t (x ∷ y ∷ ys)
member-forward net rules (Path sets) x y ys h = member-in_turn sets (x ∷ y ∷ ys)
member-forward net rules (Of c s) x y ys h = member-forward_set net rules c s x y ys h
