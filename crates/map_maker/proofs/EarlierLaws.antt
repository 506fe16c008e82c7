-- Entries in order of their keys: how many there are in spans, and where.
use Rattle.std.proofs.Common.{Bor, ◌≡◌, ℕ, ◌+◌, ◌-◌, ◌<◌, ◌≤◌, length, take, drop, get_or, drop-cons, add-one, min, Bool, true, false, List, [], ◌∷◌, ◌++◌, inl, inr, refl}
use Rattle.std.proofs.Common.{ap, sym, subst, ◌∙◌, arith, append-nil, append_assoc}
use Rattle.std.specs.Prelude.{◌&&◌, ◌||◌, nat_le, nat_lt, count_by, filter, if◌then◌else◌}
use Rattle.std.specs.Fn.{Mut, Called, ComputesKey}
use Rattle.std.specs.List.{list_any}
use Rattle.std.specs.List.Sorted.{IsPartitionedBy, IsPartitionPoint, IsPermutation}
use Rattle.std.proofs.lemmas.Bool.{leb-true, le-leb, ltb-true, lt-ltb, and_parts, and_from, cases_lt, false_from_ne_true}
use Rattle.std.proofs.lemmas.List.Folds.{list_any-append}
use Rattle.std.proofs.lemmas.List.Sums.{sum_by-append}
use Rattle.std.proofs.lemmas.List.Sorted.{IsPartitionPoint-from_clause, sum_by-IsPermutation}
use Rattle.std.proofs.Math.Bool.{or_assoc}
use Rattle.list_law.proofs.SortedRuns.{points_ordered, run_between}
use Rattle.map_maker.specs.Keys.{in_span, in_some, AreApart}
use Rattle.map_maker.specs.Earlier.{IsInOrder, HaveEntries, entries_in, is_at, top}
use Rattle.map_maker.specs.declared.spans.Span.{Span}
use Rattle.map_maker.specs.declared.earlier.Entry.{Entry}
use Rattle.map_maker.proofs.SpanSets.{in_span-empty}

-- ---- runs

parted : (entries : List Entry) (k : ℕ) → IsInOrder entries → IsPartitionedBy (λ (e : Entry). nat_lt e.key k) entries
parted entries k order i j d le within h = lt-ltb _ _ (let low = ltb-true (get_or entries j d).key k h in omega (arith, low, order i j d le within))

abbrev zero_entry : Entry
zero_entry = record { key = 0; place = 0 }

pub filter_nothing : {X : Type 0} (p : X → Bool) → ((x : X) → p x ≡ false) → (xs : List X) → filter p xs ≡ []
filter_nothing p none [] = refl
filter_nothing p none (x ∷ xs) = rw (none x) (filter_nothing p none xs)

pub empty_run : (entries : List Entry) (s : Span) → s.to ≤ s.from → [] ≡ filter (λ (e : Entry). in_span s e.key) entries
empty_run entries s le = sym (filter_nothing (λ (e : Entry). in_span s e.key) (λ e. in_span-empty s e.key le) entries)

module _ (entries : List Entry) (s : Span) (order : IsInOrder entries) (some : s.from < s.to) (i j : ℕ) (short : i ≤ length entries) where
  abbrev at_point : ℕ → ℕ → Type 0
  at_point k n = IsPartitionPoint (λ (e : Entry). nat_lt e.key k ≡ true) (λ (e : Entry). nat_lt e.key k ≡ false) entries n

  more : (e : Entry) → nat_lt e.key s.from ≡ true → nat_lt e.key s.to ≡ true
  more e h = lt-ltb e.key s.to (omega (arith, some, ltb-true e.key s.from h))

  early : (e : Entry) → nat_lt e.key s.from ≡ true → in_span s e.key ≡ false
  early e h =
      false_from_ne_true (in_span s e.key) (λ on. let low = leb-true s.from e.key (and_parts (nat_le s.from e.key) (nat_lt e.key s.to) on).0 in
      absurd (omega (arith, low, ltb-true e.key s.from h)))

  late : (e : Entry) → nat_lt e.key s.to ≡ false → in_span s e.key ≡ false
  late e h = false_from_ne_true (in_span s e.key) (λ on. let t : false ≡ true = sym h ∙ (and_parts (nat_le s.from e.key) (nat_lt e.key s.to) on).1 in absurd cc)

  within : (e : Entry) → nat_lt e.key s.from ≡ false → nat_lt e.key s.to ≡ true → in_span s e.key ≡ true
  within e h k = and_from (nat_le s.from e.key) (nat_lt e.key s.to) (elim (cases_lt e.key s.from) [
    | inl t ↦ absurd (let u : false ≡ true = sym h ∙ lt-ltb e.key s.from t in cc)
    | inr t ↦ le-leb s.from e.key t
  ]) k

  abbrev before : Entry → Bool
  before e = nat_lt e.key s.from

  abbrev up_to : Entry → Bool
  up_to e = nat_lt e.key s.to

  abbrev among : Entry → Bool
  among e = in_span s e.key

  pub run_starts : at_point s.from i → at_point s.to j → i ≤ j
  run_starts start end = points_ordered before up_to among more early late within entries i j short start end zero_entry

  pub run_is : at_point s.from i → at_point s.to j → take (j - i) (drop i entries) ≡ filter among entries
  run_is start end = run_between before up_to among more early late within entries i j short start end (run_starts start end)

-- what a search by `partition_point` finds, where its closure tells which keys are below one
pub point : {F : Type 0} {g : Mut F (Bor Entry × Unit {0}) Bool} {f : F} (entries : List Entry) (k i : ℕ) → IsInOrder entries
    → ((t : Entry → Bool) → ComputesKey g t f → IsPartitionedBy t entries → IsPartitionPoint (λ y. t y ≡ true) (λ y. t y ≡ false) entries i)
    → ((a : Bor Entry × Unit {0}) (b : Bool) (f' : F) → Called g f a b f' → (b ≡ nat_lt a.0.now.key k) × (f' ≡ f))
    → IsPartitionPoint (λ (e : Entry). nat_lt e.key k ≡ true) (λ (e : Entry). nat_lt e.key k ≡ false) entries i
point entries k i order clause tells = IsPartitionPoint-from_clause (λ (e : Entry). nat_lt e.key k) entries i clause (parted entries k order) tells

-- ---- counts

pub count_by-append : {X : Type 0} (p : X → Bool) (xs ys : List X) → count_by p (xs ++ ys) ≡ count_by p xs + count_by p ys
count_by-append p xs ys = sum_by-append (λ x. if p x then 1 else 0) xs ys

pub count_by-cons : {X : Type 0} (p : X → Bool) (x : X) (xs : List X) → count_by p (x ∷ xs) ≡ (if p x then 1 else 0) + count_by p xs
count_by-cons p x xs =
    let e : 0 + (if p x then 1 else 0) ≡ (if p x then 1 else 0) = omega arith in
    count_by-append p (x ∷ []) xs ∙ ap (λ n. n + count_by p xs) e

pub length-filter : {X : Type 0} (p : X → Bool) (xs : List X) → length (filter p xs) ≡ count_by p xs
length-filter p [] = refl
length-filter p (x ∷ xs) = by (p x) refl (length-filter p xs)
  where
    by : (b : Bool) → p x ≡ b → length (filter p xs) ≡ count_by p xs → length (filter p (x ∷ xs)) ≡ count_by p (x ∷ xs)
    by true e h = rw (count_by-cons p x xs, e) (omega (arith, h))
    by false e h = rw (count_by-cons p x xs, e) (omega (arith, h))

pub count_by-nothing : {X : Type 0} (xs : List X) → count_by (λ (x : X). false) xs ≡ 0
count_by-nothing [] = refl
count_by-nothing (x ∷ xs) = let h = count_by-nothing xs in rw (count_by-cons (λ (y : _). false) x xs) (omega (arith, h))

-- tests that are never passed both
pub count_by-or : {X : Type 0} (p q : X → Bool) → ((x : X) → p x ≡ true → q x ≡ false) → (xs : List X) → count_by (λ (x : X). p x || q x) xs ≡ count_by p xs + count_by q xs
count_by-or p q apart [] = refl
count_by-or p q apart (x ∷ xs) = by (p x) (q x) refl refl (count_by-or p q apart xs)
  where
    by : (b c : Bool) → p x ≡ b → q x ≡ c → count_by (λ (x : _). p x || q x) xs ≡ count_by p xs + count_by q xs → count_by (λ (x : _). p x || q x) (x ∷ xs) ≡ count_by p (x ∷ xs) + count_by q (x ∷ xs)
    by true true e f h = absurd (let t : false ≡ true = sym (apart x e) ∙ f in cc)
    by true false e f h = rw (count_by-cons (λ (x : _). p x || q x) x xs, count_by-cons p x xs, count_by-cons q x xs, e, f) (omega (arith, h))
    by false true e f h = rw (count_by-cons (λ (x : _). p x || q x) x xs, count_by-cons p x xs, count_by-cons q x xs, e, f) (omega (arith, h))
    by false false e f h = rw (count_by-cons (λ (x : _). p x || q x) x xs, count_by-cons p x xs, count_by-cons q x xs, e, f) (omega (arith, h))

-- the spans from one on
pub rest_of : {X : Type 0} (xs : List X) (i : ℕ) (d : X) → i < length xs → drop i xs ≡ get_or xs i d ∷ drop (i + 1) xs
rest_of xs i d h = rw (add-one) (drop-cons xs i d h)

pub AreApart-next : (spans : List Span) (i : ℕ) (d : Span) → i < length spans → AreApart (drop i spans)
    → ((k : ℕ) → in_span (get_or spans i d) k ≡ true → in_some (drop (i + 1) spans) k ≡ false) × AreApart (drop (i + 1) spans)
AreApart-next spans i d h apart = subst AreApart (rest_of spans i d h) apart

pub counted_next : (entries : List Entry) (spans : List Span) (i : ℕ) (d : Span) → i < length spans → AreApart (drop i spans)
    → count_by (λ (e : Entry). in_some (drop i spans) e.key) entries
    ≡ length (filter (λ (e : Entry). in_span (get_or spans i d) e.key) entries) + count_by (λ (e : Entry). in_some (drop (i + 1) spans) e.key) entries
counted_next entries spans i d h apart =
    ap (λ (ss : List Span). count_by (λ (e : Entry). in_some ss e.key) entries) (rest_of spans i d h)
    ∙ count_by-or (λ (e : Entry). in_span (get_or spans i d) e.key) (λ (e : Entry). in_some (drop (i + 1) spans) e.key) (λ e on. (AreApart-next spans i d h apart).0 e.key on) entries
    ∙ ap (λ n. n + count_by (λ (e : Entry). in_some (drop (i + 1) spans) e.key) entries) (sym (length-filter (λ (e : Entry). in_span (get_or spans i d) e.key) entries))

-- a sum that is kept at the top
pub kept_sum : (all total more next rest : ℕ) → all ≡ min (total + (more + rest)) top → next ≡ min (total + more) top → all ≡ min (next + rest) top
kept_sum all total more next rest a b = omega (arith, a, b)

-- ---- blocks

pub entries_in-push : (bs : List (List Entry)) (b : List Entry) → entries_in (bs ++ b ∷ []) ≡ entries_in bs ++ b
entries_in-push [] b = append-nil b
entries_in-push (c ∷ bs) b = ap (λ es. c ++ es) (entries_in-push bs b) ∙ sym (append_assoc c (entries_in bs) b)

pub entries_in-next : (bs : List (List Entry)) (i : ℕ) → i < length bs → entries_in (drop i bs) ≡ get_or bs i [] ++ entries_in (drop (i + 1) bs)
entries_in-next bs i h = ap entries_in (rest_of bs i [] h)

pub HaveEntries-permutation : (xs ys : List Entry) → IsPermutation xs ys → HaveEntries ys xs
HaveEntries-permutation xs ys permutation p = sum_by-IsPermutation (λ e. if p e then 1 else 0) xs ys permutation

-- a block is taken off
pub taken_off : (bs : List (List Entry)) (b es whole : List Entry) → HaveEntries (entries_in (bs ++ b ∷ []) ++ es) whole → HaveEntries (entries_in bs ++ (es ++ b)) whole
taken_off bs b es whole h p =
    let x = count_by-append p (entries_in bs) (es ++ b) in
    let y = count_by-append p es b in
    let z = ap (λ (xs : List Entry). count_by p (xs ++ es)) (entries_in-push bs b) in
    let v = count_by-append p (entries_in bs ++ b) es in
    let w = count_by-append p (entries_in bs) b in
    omega (arith, x, y, z, v, w, h p)

-- and put behind
pub put_behind : (bs : List (List Entry)) (b es whole : List Entry) → HaveEntries b es → HaveEntries (entries_in bs ++ es) whole → HaveEntries (entries_in (bs ++ b ∷ [])) whole
put_behind bs b es whole same h p =
    let z = ap (λ (xs : List Entry). count_by p xs) (entries_in-push bs b) in
    let w = count_by-append p (entries_in bs) b in
    let v = count_by-append p (entries_in bs) es in
    omega (arith, z, w, v, h p, same p)

-- ---- places

pub list_any-filter : {X : Type 0} (p t : X → Bool) (xs : List X) → list_any t (filter p xs) ≡ list_any (λ (x : X). p x && t x) xs
list_any-filter p t [] = refl
list_any-filter p t (x ∷ xs) = by (p x) refl (list_any-filter p t xs)
  where
    by : (b : Bool) → p x ≡ b → list_any t (filter p xs) ≡ list_any (λ (x : _). p x && t x) xs → list_any t (filter p (x ∷ xs)) ≡ list_any (λ (x : _). p x && t x) (x ∷ xs)
    by true e h = rw e (ap (λ b. t x || b) h)
    by false e h = rw e h

list_any_or : {X : Type 0} (a b t : X → Bool) (xs : List X) → list_any (λ (x : X). (a x || b x) && t x) xs ≡ (list_any (λ (x : X). a x && t x) xs || list_any (λ (x : X). b x && t x) xs)
list_any_or a b t [] = refl
list_any_or a b t (x ∷ xs) = ap (λ v. ((a x || b x) && t x) || v) (list_any_or a b t xs) ∙ by (a x) (b x) (t x) (list_any (λ (x : _). a x && t x) xs) (list_any (λ (x : _). b x && t x) xs)
  where
    by : (x y z v w : Bool) → (((x || y) && z) || (v || w)) ≡ (((x && z) || v) || ((y && z) || w))
    by true true true v w = refl
    by true true false v w = refl
    by true false true v w = refl
    by true false false v w = refl
    by false true true true w = refl
    by false true true false w = refl
    by false true false v w = refl
    by false false z v w = refl

-- what is found by one span more
pub found_next : (entries : List Entry) (spans : List Span) (i j : ℕ) (d : Span) (all old new : Bool) → i < length spans
    → all ≡ (old || list_any (λ (e : Entry). in_some (drop i spans) e.key && is_at j e) entries)
    → new ≡ (old || list_any (is_at j) (filter (λ (e : Entry). in_span (get_or spans i d) e.key) entries))
    → all ≡ (new || list_any (λ (e : Entry). in_some (drop (i + 1) spans) e.key && is_at j e) entries)
found_next entries spans i j d all old new h so_far added =
    so_far
    ∙ ap (λ (ss : List Span). old || list_any (λ (e : Entry). in_some ss e.key && is_at j e) entries) (rest_of spans i d h)
    ∙ ap (λ b. old || b) (list_any_or (λ (e : Entry). in_span (get_or spans i d) e.key) (λ (e : Entry). in_some (drop (i + 1) spans) e.key) (is_at j) entries)
    ∙ sym (or_assoc old _ _)
    ∙ ap (λ b. b || list_any (λ (e : Entry). in_some (drop (i + 1) spans) e.key && is_at j e) entries)
    (ap (λ b. old || b) (sym (list_any-filter (λ (e : Entry). in_span (get_or spans i d) e.key) (is_at j) entries)) ∙ sym added)

-- what is found in one block more
pub found_in_next : (t : Entry → Bool) (bs : List (List Entry)) (i : ℕ) (all old new : Bool) → i < length bs
    → all ≡ (old || list_any t (entries_in (drop i bs))) → new ≡ (old || list_any t (get_or bs i [])) → all ≡ (new || list_any t (entries_in (drop (i + 1) bs)))
found_in_next t bs i all old new h so_far added =
    so_far
    ∙ ap (λ (es : List Entry). old || list_any t es) (entries_in-next bs i h)
    ∙ ap (λ b. old || b) (list_any-append t (get_or bs i []) (entries_in (drop (i + 1) bs)))
    ∙ sym (or_assoc old _ _)
    ∙ ap (λ b. b || list_any t (entries_in (drop (i + 1) bs))) (sym added)

pub list_any-nothing : {X : Type 0} (xs : List X) (t : X → Bool) → list_any (λ (x : X). false && t x) xs ≡ false
list_any-nothing [] t = refl
list_any-nothing (x ∷ xs) t = list_any-nothing xs t
