-- Classes of locations and their sets.
use Rattle.std.proofs.Common.{◌≡◌, ℕ, zero, suc, ◌+◌, ◌*◌, ◌/◌, ◌<◌, Bool, true, false, cond, ◌||◌, eqb, List, [], ◌∷◌, ◌++◌, length, map, get_or, take, Some, refl, sym}
use Rattle.std.proofs.Common.{ap, ◌∙◌, ◌⊎◌, inl, inr, arith, ⊎_elim}
use Rattle.std.specs.Prelude.{nat_lt, slice_get}
use Rattle.std.specs.List.{list_all, list_any}
use Rattle.std.proofs.lemmas.Bool.{and_parts, and_from, cases_order, ltb-true}
use Rattle.std.proofs.lemmas.List.Folds.{list_all-append}
use Rattle.std.proofs.lemmas.Option.{slice_get_within, slice_get_read, get_or_from_slice_get, same_Some}
use Rattle.std.proofs.lemmas.List.{map-append, take_all, get_or-set_same, get_or-set_other}
use Rattle.list_law.proofs.Items.{slice_get_in_front}
use lib.Pointwise.{pointwise}
use Rattle.std.proofs.Math.Bool.{beq}
use Rattle.std.proofs.lemmas.Nat.{div-mul-add}
use Rattle.std.proofs.Math.ListN.{set, length-set}
use Rattle.std.proofs.lemmas.Slice.Eq.{bytes_eq-Decides}
use Rattle.indexmap.specs.IndexSet.{insert_key}
use Rattle.net_base.specs.declared.loc.LocSet.{LocSet}
use Rattle.net_base.specs.Sets.{holds}
use Rattle.path_exprs.specs.Expression.{Expression}
use Rattle.path_terms.specs.declared.term.Term.{Term}
use Rattle.path_terms.specs.declared.term.Term.TheVariants.{Never, Empty, Set, Seq, Either, Both, Not, Star}
use Rattle.path_terms.specs.Terms.{ascending, at, is_sound, node}
use Rattle.path_automata.specs.Sets.{agrees, sets_pass}
use Rattle.path_automata.proofs.Kept.{sorted_pass}

-- the sets of a term are its children's, or the one that it is

at-passes : (p : LocSet → Bool) (vs : List Expression) (n m : ℕ) → m < n → list_all (sets_pass p) (take n vs) ≡ true → sets_pass p (at vs m) ≡ true
at-passes p [] n m lt h = refl
at-passes p (v ∷ vs) zero m lt h = absurd (omega (arith, lt))
at-passes p (v ∷ vs) (suc n) zero lt h = (and_parts (sets_pass p v) (list_all (sets_pass p) (take n vs)) h).0
at-passes p (v ∷ vs) (suc n) (suc m) lt h = at-passes p vs n m (omega (arith, lt)) (and_parts (sets_pass p v) (list_all (sets_pass p) (take n vs)) h).1

each-passes : (p : LocSet → Bool) (vs : List Expression) (n : ℕ) (ms : List ℕ) → list_all (λ m. nat_lt m n) ms ≡ true → list_all (sets_pass p) (take n vs) ≡ true
    → list_all (sets_pass p) (map (at vs) ms) ≡ true
each-passes p vs n [] below h = refl
each-passes p vs n (m ∷ ms) below h =
    let u = and_parts (nat_lt m n) (list_all (λ m. nat_lt m n) ms) below in
    and_from _ _ (at-passes p vs n m (ltb-true m n u.0) h) (each-passes p vs n ms u.1 h)

pub known-pass : (p : LocSet → Bool) (vs : List Expression) (ms : List ℕ) → list_all (λ m. nat_lt m (length vs)) ms ≡ true
    → list_all (sets_pass p) vs ≡ true → list_all (sets_pass p) (map (at vs) ms) ≡ true
known-pass p vs ms known h = each-passes p vs (length vs) ms known (ap (list_all (sets_pass p)) (take_all (length vs) vs (omega arith)) ∙ h)

pub node-passes : (p : LocSet → Bool) (vs : List Expression) (n : ℕ) (t : Term) → is_sound n t ≡ true → ((s : LocSet) → t ≡ Set s → p s ≡ true)
    → list_all (sets_pass p) (take n vs) ≡ true → sets_pass p (node vs t) ≡ true
node-passes p vs n Never sound own h = refl
node-passes p vs n Empty sound own h = refl
node-passes p vs n (Set s) sound own h = own s refl
node-passes p vs n (Seq a b) sound own h =
    let u = and_parts (nat_lt a n) (nat_lt b n) sound in
    and_from _ _ (at-passes p vs n a (ltb-true a n u.0) h) (at-passes p vs n b (ltb-true b n u.1) h)
node-passes p vs n (Either v) sound own h =
    sorted_pass p (map (at vs) v.items) (each-passes p vs n v.items (and_parts (list_all (λ m. nat_lt m n) v.items) (ascending v.items) sound).0 h)
node-passes p vs n (Both v) sound own h =
    sorted_pass p (map (at vs) v.items) (each-passes p vs n v.items (and_parts (list_all (λ m. nat_lt m n) v.items) (ascending v.items) sound).0 h)
node-passes p vs n (Not a) sound own h = at-passes p vs n a (ltb-true a n sound) h
node-passes p vs n (Star a) sound own h = at-passes p vs n a (ltb-true a n sound) h

-- lists that grow at the end

pub get-push : {A : Type 0} (xs : List A) (y : A) (i : ℕ) (x : A) → slice_get (xs ++ y ∷ []) i ≡ Some x → (slice_get xs i ≡ Some x) ⊎ ((i ≡ length xs) × (y ≡ x))
get-push [] y zero x h = inr (refl, same_Some _ _ h)
get-push [] y (suc i) x h = cc
get-push (z ∷ xs) y zero x h = inl h
get-push (z ∷ xs) y (suc i) x h = ⊎_elim (λ e. inl e) (λ e. inr (ap suc e.0, e.1)) (get-push xs y i x h)

-- the same signatures

agree : (a b : Bool) → a ≡ b → cond a b (cond b false true) ≡ true
agree true true h = refl
agree false false h = refl
agree true false h = cc
agree false true h = cc

pub all_agree : (x y : ℕ) (ss : List LocSet) → map (λ s. holds s x) ss ≡ map (λ s. holds s y) ss → list_all (agrees x y) ss ≡ true
all_agree x y [] h = refl
all_agree x y (s ∷ ss) h =
    let first : holds s x ≡ holds s y = cc in
    let rest : map (λ t. holds t x) ss ≡ map (λ t. holds t y) ss = cc in
    and_from _ _ (agree (holds s x) (holds s y) first) (all_agree x y ss rest)

-- one place of the memo is written

pub place_is : (count s c t d : ℕ) → c < count → d < count → s * count + c ≡ t * count + d → (s ≡ t) × (c ≡ d)
place_is count s c t d h k e =
    let row : s ≡ t = sym (div-mul-add s count c h) ∙ ap (λ n. n / count) e ∙ div-mul-add t count d k in
    let rows : s * count ≡ t * count = ap (λ n. n * count) row in
    (row, omega arith)

pub written : (cells : List ℕ) (count state c0 next s c n i j : ℕ) → c0 < count → c < count → i ≡ state * count + c0 → j ≡ s * count + c → slice_get (set cells i next) j ≡ Some n
    → (slice_get cells j ≡ Some n) ⊎ ((s ≡ state) × (c ≡ c0) × (n ≡ next))
written cells count state c0 next s c n i j h k p q e = ⊎_elim here there (cases_order j i)
  where
    within : j < length (set cells i next)
    within = slice_get_within (set cells i next) j n e

    inside : j < length cells
    inside = omega (arith, within, length-set cells i next)

    read : get_or (set cells i next) j n ≡ n
    read = get_or_from_slice_get (set cells i next) j n n e

    here : j ≡ i → (slice_get cells j ≡ Some n) ⊎ ((s ≡ state) × (c ≡ c0) × (n ≡ next))
    here r =
        let is = place_is count s c state c0 k h (sym q ∙ r ∙ p) in
        let within_too : i < length cells = omega (arith, inside, r) in
        inr (is.0, is.1, sym read ∙ ap (λ l. get_or (set cells i next) l n) r ∙ get_or-set_same cells i next n within_too)

    there : (j < i) ⊎ (i < j) → (slice_get cells j ≡ Some n) ⊎ ((s ≡ state) × (c ≡ c0) × (n ≡ next))
    there r =
        let apart : j ≡ i → ⊥ = ⊎_elim (λ (l : j < i) (q : j ≡ i). omega arith) (λ (l : i < j) (q : j ≡ i). omega arith) r in
        inl (slice_get_read cells (length cells) j n refl inside (sym (sym (get_or-set_other cells i j next n apart) ∙ read)))

-- a set that was gathered

or_false : (a b : Bool) → a ≡ false → (a || b) ≡ true → b ≡ true
or_false true b e h = cc
or_false false b e h = h

abbrev pub same_words : LocSet → LocSet → Bool
same_words s t = pointwise eqb s.words t.words

passed : (p : LocSet → Bool) (s : LocSet) (ks : List LocSet) → list_any (same_words s) ks ≡ true → list_all p ks ≡ true → p s ≡ true
passed p s [] h k = cc
passed p s (t ∷ ks) h k = by (same_words s t) refl (λ q. passed p s ks q u.1)
  where
    u : (p t ≡ true) × (list_all p ks ≡ true)
    u = and_parts (p t) (list_all p ks) k

    by : (b : Bool) → same_words s t ≡ b → (list_any (same_words s) ks ≡ true → p s ≡ true) → p s ≡ true
    by true e rest = ap (λ (w : List ℕ). p (record { words = w })) ((bytes_eq-Decides s.words t.words).0 e) ∙ u.0
    by false e rest = rest (or_false (same_words s t) (list_any (same_words s) ks) e h)

pub inserted_passes : (p : LocSet → Bool) (ks new : List LocSet) (s : LocSet) → new ≡ insert_key same_words ks s → list_all p new ≡ true → (list_all p ks ≡ true) × (p s ≡ true)
inserted_passes p ks new s e h = at (list_any (same_words s) ks) refl e
  where
    at : (b : Bool) → list_any (same_words s) ks ≡ b → new ≡ cond b ks (ks ++ s ∷ []) → (list_all p ks ≡ true) × (p s ≡ true)
    at true q is = let all : list_all p ks ≡ true = ap (list_all p) (sym is) ∙ h in (all, passed p s ks q all)
    at false q is =
        let u = and_parts (list_all p ks) (list_all p (s ∷ [])) (sym (list_all-append p ks (s ∷ [])) ∙ ap (list_all p) (sym is) ∙ h) in
        (u.0, (and_parts (p s) true u.1).0)

-- one location more

pub signed_more : (ss : List LocSet) (classes : List ℕ) (seen more : List (List Bool)) (class : ℕ)
    → ((x c : ℕ) → slice_get classes x ≡ Some c → slice_get seen c ≡ Some (map (λ s. holds s x) ss))
    → ((i : ℕ) (v : List Bool) → slice_get seen i ≡ Some v → slice_get more i ≡ Some v)
    → slice_get more class ≡ Some (map (λ s. holds s (length classes)) ss)
    → (x c : ℕ) → slice_get (classes ++ class ∷ []) x ≡ Some c → slice_get more c ≡ Some (map (λ s. holds s x) ss)
signed_more ss classes seen more class h extends this x c g =
    ⊎_elim (λ e. extends c (map (λ s. holds s x) ss) (h x c e))
    (λ e. ap (slice_get more) (sym e.1) ∙ this ∙ ap (λ n. Some (map (λ s. holds s n) ss)) (sym e.0))
    (get-push classes class x c g)

pub mapped-inserted : {A B : Type 0} (f : A → B) (same : A → A → Bool) (ks new : List A) (k : A) → new ≡ insert_key same ks k
    → (map f new ≡ map f ks) ⊎ (map f new ≡ map f ks ++ f k ∷ [])
mapped-inserted f same ks new k e = at (list_any (same k) ks) e
  where
    at : (b : Bool) → new ≡ cond b ks (ks ++ k ∷ []) → (map f new ≡ map f ks) ⊎ (map f new ≡ map f ks ++ f k ∷ [])
    at true is = inl (ap (map f) is)
    at false is = inr (ap (map f) is ∙ map-append f ks (k ∷ []))

pub get-grown : {A : Type 0} (xs ys : List A) (d : A) → (ys ≡ xs) ⊎ (ys ≡ xs ++ d ∷ []) → (i : ℕ) (x : A) → slice_get xs i ≡ Some x → slice_get ys i ≡ Some x
get-grown xs ys d g i x h = ⊎_elim (λ e. ap (λ l. slice_get l i) e ∙ h) (λ e. ap (λ l. slice_get l i) e ∙ slice_get_in_front xs (d ∷ []) i x h) g

same_bool : (x y : Bool) → beq x y ≡ true → x ≡ y
same_bool true true h = refl
same_bool false false h = refl
same_bool true false h = cc
same_bool false true h = cc

pub bools_same : (xs ys : List Bool) → pointwise beq xs ys ≡ true → xs ≡ ys
bools_same [] [] h = refl
bools_same [] (y ∷ ys) h = cc
bools_same (x ∷ xs) [] h = cc
bools_same (x ∷ xs) (y ∷ ys) h =
    let u = and_parts (beq x y) (pointwise beq xs ys) h in
    ap (λ l. x ∷ l) (bools_same xs ys u.1) ∙ ap (λ z. z ∷ ys) (same_bool x y u.0)
