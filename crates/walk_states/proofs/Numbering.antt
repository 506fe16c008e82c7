-- Standings and the keys that stand for them.
use Rattle.std.proofs.Common.{◌≡◌, ℕ, zero, suc, ◌<◌, ◌≤◌, true, false, List, [], ◌∷◌, ◌++◌, map, length, All, Some, ◌⊎◌, inl, inr, refl, sym, ap, subst, ◌∙◌, arith, append_assoc, length-append}
use Rattle.std.specs.Prelude.{◌||◌, ◌==◌, slice_get, option_map, unwrap_or}
use Rattle.std.specs.List.{list_any, AllByRecursion, IsDistinct}
use Rattle.std.proofs.lemmas.Bool.{and_from, eq-eqb, cases_Bool, cond-true, cond-false, cond_both, false≢true}
use Rattle.std.proofs.lemmas.List.{map-append, length-map}
use Rattle.std.proofs.lemmas.List.Elements.{All-tail, All-push}
use Rattle.std.proofs.lemmas.Map.Keys.{IsDistinct-head, IsDistinct-tail, IsDistinct-cons}
use Rattle.std.proofs.lemmas.Option.{same_Some, slice_get-get_or, slice_get-map, slice_get_within, get_or_from_slice_get, unwrap_or-slice_get}
use Rattle.list_law.proofs.Truth.{same_tests}
use Rattle.list_law.proofs.Items.{slice_get-append_left}
use Rattle.path_exprs.specs.Expression.{Expression}
use Rattle.path_exprs.specs.Derivative.{derivative}
use Rattle.path_automata.specs.States.{AreApart, Extends}
use Rattle.walk_states.specs.Built.{place_in}
use Rattle.path_exprs.specs.Standings.{Standing, moved, same_standing}
use Rattle.walk_states.specs.Growth.{left_in, standing_in, standings_in, with_standing}
use Rattle.walk_states.specs.Table.{Key, same_key, with_key}
use Rattle.walk_states.proofs.Gathering.{with-cases}
use Rattle.walk_states.proofs.Lookups.{same_key-equal}
use Rattle.walk_states.proofs.SameStandings.{same-equal, equal-same}

-- states by their numbers

pub left_in-is : (ss : List (List Expression)) (n : ℕ) (s : List Expression) → slice_get ss n ≡ Some s → left_in ss n ≡ s
unfolding left_in
left_in-is ss n s h = ap (λ o. unwrap_or o []) h

pub slice_get-left_in : (ss : List (List Expression)) (n : ℕ) → n < length ss → slice_get ss n ≡ Some (left_in ss n)
unfolding left_in
slice_get-left_in ss n lt = slice_get-get_or ss n [] lt ∙ ap Some (sym (unwrap_or-slice_get ss n []))

pub left_in-extends : (old new : List (List Expression)) (n : ℕ) → Extends old new → n < length old → left_in new n ≡ left_in old n
left_in-extends old new n e lt = left_in-is new n (left_in old n) (ap (λ ss. slice_get ss n) e.1 ∙ slice_get-append_left old e.0 n lt ∙ slice_get-left_in old n lt)

-- keys

-- the states of these keys were found
abbrev pub AreKnown : List (List Expression) → List Key → Type 0
AreKnown ss ks = All (λ (k : Key). k.1 < length ss) ks

-- keys stand for different standings
pub same_standing-keys : (ss : List (List Expression)) (a b : Key) → AreApart ss → a.1 < length ss → b.1 < length ss
    → same_standing (standing_in ss a) (standing_in ss b) ≡ same_key a b
same_standing-keys ss a b apart la lb =
    same_tests _ _
    (λ h.
    let e = same-equal (standing_in ss a) (standing_in ss b) h in
    let state : a.1 ≡ b.1 = apart a.1 b.1 (left_in ss a.1) (slice_get-left_in ss a.1 la) (slice_get-left_in ss b.1 lb ∙ ap Some (sym (ap (λ (x : Standing). x.left) e))) in
    and_from (a.0 == b.0) (a.1 == b.1) (eq-eqb a.0 b.0 (ap (λ (x : Standing). x.at) e)) (eq-eqb a.1 b.1 state))
    (λ h. equal-same (standing_in ss a) (standing_in ss b) (ap (standing_in ss) (same_key-equal a b h)))

pub length-standings_in : (ss : List (List Expression)) (ks : List Key) → length (standings_in ss ks) ≡ length ks
unfolding standings_in
length-standings_in ss ks = length-map ks (standing_in ss)

pub standings_in-nil : (ss : List (List Expression)) → standings_in ss [] ≡ []
unfolding standings_in
standings_in-nil ss = refl

pub slice_get-standings_in : (ss : List (List Expression)) (ks : List Key) (n : ℕ) (k : Key) → slice_get ks n ≡ Some k
    → slice_get (standings_in ss ks) n ≡ Some (standing_in ss k)
unfolding standings_in
slice_get-standings_in ss ks n k h = slice_get-map (standing_in ss) ks n ∙ ap (option_map (standing_in ss)) h

pub standings_in-extends : (old new : List (List Expression)) (ks : List Key) → Extends old new → AreKnown old ks
    → standings_in new ks ≡ standings_in old ks
unfolding standings_in
standings_in-extends old new [] e known = refl
standings_in-extends old new (k ∷ ks) e known =
    let left = left_in-extends old new k.1 e (known zero k (omega arith)) in
    let rest = standings_in-extends old new ks e (All-tail (λ (k : Key). k.1 < length old) k ks known) in
    λ i. record { at = k.0; left = left i } ∷ rest i

list_any-keys : (ss : List (List Expression)) (k : Key) (ks : List Key) → AreApart ss → k.1 < length ss → AreKnown ss ks
    → list_any (same_standing (standing_in ss k)) (standings_in ss ks) ≡ list_any (same_key k) ks
unfolding standings_in
list_any-keys ss k [] apart lk known = refl
list_any-keys ss k (j ∷ js) apart lk known =
    let head = same_standing-keys ss k j apart lk (known zero j (omega arith)) in
    let rest = list_any-keys ss k js apart lk (All-tail (λ (k : Key). k.1 < length ss) j js known) in
    λ i. head i || rest i

-- a key is put in where its standing is
pub standings_in-with_key : (ss : List (List Expression)) (ks new : List Key) (k : Key) → AreApart ss → k.1 < length ss → AreKnown ss ks
    → new ≡ with_key ks k → standings_in ss new ≡ with_standing (standings_in ss ks) (standing_in ss k)
unfolding standings_in with_standing
standings_in-with_key ss ks new k apart lk known e = ap (map (standing_in ss)) e ∙ elim (cases_Bool (list_any (same_key k) ks)) [
  | inl t ↦ ap (map (standing_in ss)) (cond-true _ _ _ t) ∙ sym (cond-true _ _ _ (alike ∙ t))
  | inr f ↦ ap (map (standing_in ss)) (cond-false _ _ _ f) ∙ map-append (standing_in ss) ks (k ∷ []) ∙ sym (cond-false _ _ _ (alike ∙ f))
]
  where
    alike : list_any (same_standing (standing_in ss k)) (map (standing_in ss) ks) ≡ list_any (same_key k) ks
    alike = list_any-keys ss k ks apart lk known

-- there is room for a standing that is among them, and for any other one where one more may stand
pub room-left : (ss : List (List Expression)) (ks : List Key) (k : Key) (most : ℕ) → AreApart ss → k.1 < length ss → AreKnown ss ks → length (standings_in ss ks) ≤ most
    → length ks < most ⊎ (list_any (same_key k) ks ≡ true) → length (with_standing (standings_in ss ks) (standing_in ss k)) ≤ most
room-left ss ks k most apart lk known few h = elim (with-cases (standings_in ss ks) (standing_in ss k)) [
  | inl w ↦ subst (λ (l : List Standing). length l ≤ most) (sym w.1) few
  | inr w ↦
      let grown : length (standings_in ss ks ++ standing_in ss k ∷ []) ≤ most = elim h [
        | inl lt ↦ omega (arith, lt, length-standings_in ss ks, length-append (standings_in ss ks) (standing_in ss k ∷ []))
        | inr t ↦ absurd (false≢true (sym w.0 ∙ list_any-keys ss k ks apart lk known ∙ t))
      ] in
      subst (λ (l : List Standing). length l ≤ most) (sym w.1) grown
]

-- and else there is none
pub room-full : (ss : List (List Expression)) (ks : List Key) (k : Key) (most : ℕ) → AreApart ss → k.1 < length ss → AreKnown ss ks
    → most ≤ length ks → list_any (same_key k) ks ≡ false → most < length (with_standing (standings_in ss ks) (standing_in ss k))
room-full ss ks k most apart lk known full f = elim (with-cases (standings_in ss ks) (standing_in ss k)) [
  | inl w ↦ absurd (false≢true (sym f ∙ sym (list_any-keys ss k ks apart lk known) ∙ w.0))
  | inr w ↦
      let grown : most < length (standings_in ss ks ++ standing_in ss k ∷ []) = omega (arith, full, length-standings_in ss ks, length-append (standings_in ss ks) (standing_in ss k ∷ [])) in
      subst (λ (l : List Standing). most < length l) (sym w.1) grown
]

apart-keys : (ss : List (List Expression)) (k : Key) (ks : List Key) → AreApart ss → k.1 < length ss → AreKnown ss ks
    → AllByRecursion (λ j. same_key k j ≡ false) ks → AllByRecursion (λ y. same_standing (standing_in ss k) y ≡ false) (standings_in ss ks)
unfolding standings_in
apart-keys ss k [] apart lk known h = tt
apart-keys ss k (j ∷ js) apart lk known h =
    (same_standing-keys ss k j apart lk (known zero j (omega arith)) ∙ h.0, apart-keys ss k js apart lk (All-tail (λ (k : Key). k.1 < length ss) j js known) h.1)

pub standings_in-distinct : (ss : List (List Expression)) (ks : List Key) → AreApart ss → AreKnown ss ks → IsDistinct same_key ks
    → IsDistinct same_standing (standings_in ss ks)
unfolding standings_in IsDistinct
standings_in-distinct ss [] apart known d = tt
standings_in-distinct ss (k ∷ ks) apart known d =
    let rest = All-tail (λ (k : Key). k.1 < length ss) k ks known in
    IsDistinct-cons same_standing (standing_in ss k) (map (standing_in ss) ks)
    (apart-keys ss k ks apart (known zero k (omega arith)) rest (IsDistinct-head same_key k ks d))
    (standings_in-distinct ss ks apart rest (IsDistinct-tail same_key k ks d))

-- where no standing comes twice, each has its place
place-at : (xs : List Standing) (n : ℕ) (x : Standing) → IsDistinct same_standing xs → slice_get xs n ≡ Some x → place_in xs x ≡ n
place-at [] n x d h = cc
place-at (y ∷ ys) zero x d h = cond-true (same_standing y x) _ _ (equal-same y x (same_Some y x h))
place-at (y ∷ ys) (suc n) x d h =
    cond-false (same_standing y x) _ _ (unlike ys n (IsDistinct-head same_standing y ys d) h)
    ∙ ap suc (place-at ys n x (IsDistinct-tail same_standing y ys d) h)
  where
    unlike : (ys : List Standing) (n : ℕ) → AllByRecursion (λ z. same_standing y z ≡ false) ys → slice_get ys n ≡ Some x → same_standing y x ≡ false
    unlike [] n a h = cc
    unlike (z ∷ zs) zero a h = ap (same_standing y) (sym (same_Some z x h)) ∙ a.0
    unlike (z ∷ zs) (suc n) a h = unlike zs n a.1 h

-- the place of the standing of a key is the key's
pub place-key : (ss : List (List Expression)) (ks : List Key) (n : ℕ) (k : Key) → AreApart ss → AreKnown ss ks → IsDistinct same_key ks → slice_get ks n ≡ Some k
    → place_in (standings_in ss ks) (standing_in ss k) ≡ n
place-key ss ks n k apart known d h =
    place-at (standings_in ss ks) n (standing_in ss k) (standings_in-distinct ss ks apart known d) (slice_get-standings_in ss ks n k h)

pub known-with_key : (ss : List (List Expression)) (ks new : List Key) (k : Key) → k.1 < length ss → AreKnown ss ks → new ≡ with_key ks k → AreKnown ss new
known-with_key ss ks new k lk known e =
    subst (AreKnown ss) (sym e)
    (cond_both (list_any (same_key k) ks) ks (ks ++ k ∷ []) (AreKnown ss) (λ _. known) (λ _. All-push (λ (k : Key). k.1 < length ss) ks k known lk))

pub known-extends : (old new : List (List Expression)) (ks : List Key) → Extends old new → AreKnown old ks → AreKnown new ks
known-extends old new ks e known = λ k d lt.
    let here = known k d lt in
    let longer = ap length e.1 ∙ length-append old e.0 in
    omega arith

pub extends-further : (a b c : List (List Expression)) → Extends a b → Extends b c → Extends a c
extends-further a b c e f = (e.0 ++ f.0, f.1 ∙ ap (λ l. l ++ f.0) e.1 ∙ append_assoc a e.0 f.0)

-- the standing of a state that a location leads to
pub standing-after : (ss new : List (List Expression)) (at state from : ℕ) → slice_get new state ≡ Some (map (derivative at) (left_in ss from))
    → standing_in new (at, state) ≡ moved (left_in ss from) at
standing-after ss new at state from h =
    let left = left_in-is new state (map (derivative at) (left_in ss from)) h in
    λ i. record { at = at; left = left i }

-- what holds of all keys holds of each
pub key-at : (P : Key → Type 0) (ks : List Key) (n : ℕ) (k : Key) → All P ks → slice_get ks n ≡ Some k → P k
key-at P ks n k all h = subst P (get_or_from_slice_get ks n k k h) (all n k (slice_get_within ks n k h))
