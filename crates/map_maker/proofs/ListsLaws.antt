-- The lists of classes, by what is found among earlier patterns.
use Rattle.std.proofs.Common.{◌≡◌, ℕ, zero, suc, ◌+◌, ◌<◌, ◌≤◌, length, length-append, drop, get_or, min, Bool, true, false, List, [], ◌∷◌, ◌++◌, map, refl, ap, ap₂, sym}
use Rattle.std.proofs.Common.{subst, ◌∙◌, arith, append_assoc}
use Rattle.std.specs.Prelude.{◌≢◌, ◌&&◌, ◌||◌, ◌==◌, nat_lt, count_by, sum_by, filter}
use Rattle.std.specs.List.{list_any, AllByRecursion}
use Rattle.std.specs.List.Sorted.{IsStrictlySortedBy}
use Rattle.std.specs.Ordering.{nat_cmp}
use Rattle.std.proofs.lemmas.Bool.{lt-ltb, eq-eqb}
use Rattle.std.proofs.lemmas.List.Sums.{sum_by-append}
use Rattle.std.proofs.lemmas.List.{length-map}
use Rattle.list_law.proofs.Each.{AllByRecursion-append}
use Rattle.net_base.specs.Prefixes.{PlainPattern, IsPattern}
use Rattle.config_base.specs.Configs.{PlainConfig, IsConfig, IsRouter}
use Rattle.route_maps.specs.declared.maps.ListLine.{ListLine}
use Rattle.route_maps.specs.Maps.{IsMaps}
use Rattle.route_maps.specs.OfConfig.{line, meets_some, list_for, lists_from, maps_of}
use Rattle.map_maker.specs.Keys.{key, in_some, has}
use Rattle.map_maker.specs.Earlier.{top, is_at, HaveEntries, entries_from}
use Rattle.map_maker.specs.Places.{at_places}
use Rattle.map_maker.specs.declared.spans.Span.{Span}
use Rattle.map_maker.specs.declared.earlier.Entry.{Entry}
use Rattle.map_maker.proofs.EarlierLaws.{count_by-cons, rest_of}
use Rattle.map_maker.proofs.PlaceLaws.{same_members, places_from, places_order, places_has, at_places_from, places_within}

-- ---- entries of patterns

pub counted_from : (t : PlainPattern → Bool) (p : ℕ → Bool) (k : ℕ) (qs : List PlainPattern) → AllByRecursion (λ (q : PlainPattern). p (key q) ≡ t q) qs
    → count_by (λ (e : Entry). p e.key) (entries_from k qs) ≡ length (filter t qs)
counted_from t p k [] all = refl
counted_from t p k (q ∷ qs) all = by (t q) refl (counted_from t p (k + 1) qs all.1)
  where
    by : (b : Bool) → t q ≡ b → count_by (λ (e : Entry). p e.key) (entries_from (k + 1) qs) ≡ length (filter t qs)
        → count_by (λ (e : Entry). p e.key) (entries_from k (q ∷ qs)) ≡ length (filter t (q ∷ qs))
    by true is h = let on : p (key q) ≡ true = all.0 ∙ is in rw (count_by-cons (λ (e : Entry). p e.key) (record { key = key q; place = k }) (entries_from (k + 1) qs), on, is) (omega (arith, h))
    by false is h = let off : p (key q) ≡ false = all.0 ∙ is in rw (count_by-cons (λ (e : Entry). p e.key) (record { key = key q; place = k }) (entries_from (k + 1) qs), off, is) (omega (arith, h))

pub entries_from-append : (k : ℕ) (ps qs : List PlainPattern) → entries_from k (ps ++ qs) ≡ entries_from k ps ++ entries_from (length ps + k) qs
entries_from-append k [] qs = let e : 0 + k ≡ k = omega arith in ap (λ n. entries_from n qs) (sym e)
entries_from-append k (p ∷ ps) qs =
    let e : length ps + (k + 1) ≡ length (p ∷ ps) + k = omega arith in
    ap (λ (es : List Entry). record { key = key p; place = k } ∷ es) (entries_from-append (k + 1) ps qs ∙ ap (λ n. entries_from (k + 1) ps ++ entries_from n qs) e)

some_counted : {X : Type 0} (p : X → Bool) (xs : List X) → list_any p xs ≡ nat_lt 0 (count_by p xs)
some_counted p [] = refl
some_counted p (x ∷ xs) = by (p x) refl (some_counted p xs)
  where
    by : (b : Bool) → p x ≡ b → list_any p xs ≡ nat_lt 0 (count_by p xs) → list_any p (x ∷ xs) ≡ nat_lt 0 (count_by p (x ∷ xs))
    by true e h = rw (count_by-cons p x xs, e) (sym (lt-ltb 0 (1 + count_by p xs) (omega arith)))
    by false e h = let z : 0 + count_by p xs ≡ count_by p xs = omega arith in rw (count_by-cons p x xs, e) (h ∙ ap (λ n. nat_lt 0 n) (sym z))

pub HaveEntries-any : (xs ys : List Entry) → HaveEntries xs ys → (p : Entry → Bool) → list_any p xs ≡ list_any p ys
HaveEntries-any xs ys same p = some_counted p xs ∙ ap (λ n. nat_lt 0 n) (same p) ∙ sym (some_counted p ys)

-- the places that are found, in order
pub places_are : (class patterns : List PlainPattern) (spans : List Span) (found places : List ℕ) (entries : List Entry) → HaveEntries entries (entries_from 0 patterns)
    → AllByRecursion (λ (q : PlainPattern). in_some spans (key q) ≡ meets_some class q) patterns
    → ((j : ℕ) → has found j ≡ list_any (λ (e : Entry). in_some spans e.key && is_at j e) entries) → ((j : ℕ) → has places j ≡ has found j) → IsStrictlySortedBy nat_cmp places
    → places ≡ places_from (meets_some class) 0 patterns
places_are class patterns spans found places entries same meets are settled order =
    same_members places (places_from (meets_some class) 0 patterns) order (places_order (meets_some class) 0 patterns)
    (λ j. settled j ∙ are j ∙ HaveEntries-any entries (entries_from 0 patterns) same (λ (e : Entry). in_some spans e.key && is_at j e)
    ∙ sym (places_has (meets_some class) (in_some spans) 0 patterns meets j))

pub denied_are : (class patterns : List PlainPattern) (places : List ℕ) → places ≡ places_from (meets_some class) 0 patterns → at_places patterns places ≡ filter (meets_some class) patterns
denied_are class patterns places are = ap (at_places patterns) are ∙ at_places_from (meets_some class) [] patterns 0 refl

pub places_low : (class patterns : List PlainPattern) (places : List ℕ) → places ≡ places_from (meets_some class) 0 patterns → AllByRecursion (λ j. j < length patterns) places
places_low class patterns places are = subst (λ (js : List ℕ). AllByRecursion (λ j. j < length patterns) js) (sym are) (places_within (meets_some class) 0 patterns (length patterns) (omega arith))

-- ---- the loop over the classes

pub lists_from-next : (earlier : List PlainPattern) (classes : List (List PlainPattern)) (i : ℕ) → i < length classes
    → lists_from earlier (drop i classes) ≡ list_for earlier (get_or classes i []) ∷ lists_from (earlier ++ get_or classes i []) (drop (i + 1) classes)
lists_from-next earlier classes i h = ap (lists_from earlier) (rest_of classes i [] h)

abbrev pub lines_in : List (List ListLine) → ℕ
lines_in lists = sum_by (λ (lines : List ListLine). length lines) lists

pub lines_in-cons : (l : List ListLine) (ls : List (List ListLine)) → lines_in (l ∷ ls) ≡ length l + lines_in ls
lines_in-cons l ls =
    let e : 0 + length l ≡ length l = omega arith in
    sum_by-append (λ (lines : List ListLine). length lines) (l ∷ []) ls ∙ ap (λ n. n + lines_in ls) e

pub length-list_for : (earlier class : List PlainPattern) → length (list_for earlier class) ≡ length (filter (meets_some class) earlier) + length class
length-list_for earlier class =
    let a = length-append (map (line false) (filter (meets_some class) earlier)) (map (line true) class) in
    let b = length-map (filter (meets_some class) earlier) (line false) in
    let c = length-map class (line true) in
    omega (arith, a, b, c)

-- the total with one list more
pub total_next : (earlier : List PlainPattern) (classes : List (List PlainPattern)) (i all total denied half next : ℕ) → i < length classes
    → all ≡ min (total + lines_in (lists_from earlier (drop i classes))) top → denied ≡ min (length (filter (meets_some (get_or classes i [])) earlier)) top
    → half ≡ min (total + denied) top → next ≡ min (half + length (get_or classes i [])) top
    → all ≡ min (next + lines_in (lists_from (earlier ++ get_or classes i []) (drop (i + 1) classes))) top
total_next earlier classes i all total denied half next h so_far d a b =
    let e = ap lines_in (lists_from-next earlier classes i h) ∙ lines_in-cons (list_for earlier (get_or classes i [])) (lists_from (earlier ++ get_or classes i []) (drop (i + 1) classes)) in
    let l = length-list_for earlier (get_or classes i []) in
    omega (arith, so_far, d, a, b, e, l)

-- the lists with one more
pub lists_next : (earlier : List PlainPattern) (classes : List (List PlainPattern)) (i : ℕ) (lists next whole : List (List ListLine)) → i < length classes
    → whole ≡ lists ++ lists_from earlier (drop i classes) → next ≡ lists ++ list_for earlier (get_or classes i []) ∷ []
    → whole ≡ next ++ lists_from (earlier ++ get_or classes i []) (drop (i + 1) classes)
lists_next earlier classes i lists next whole h so_far added =
    so_far
    ∙ ap (λ (ls : List (List ListLine)). lists ++ ls) (lists_from-next earlier classes i h)
    ∙ sym (append_assoc lists (list_for earlier (get_or classes i []) ∷ []) (lists_from (earlier ++ get_or classes i []) (drop (i + 1) classes)))
    ∙ ap (λ (ls : List (List ListLine)). ls ++ lists_from (earlier ++ get_or classes i []) (drop (i + 1) classes)) (sym added)

-- a lawful pattern whose length is known
abbrev pub IsKnown : List ℕ → PlainPattern → Type 0
IsKnown lengths q = IsPattern q × (has lengths q.base.len ≡ true)

any_later : {X : Type 0} (p : X → Bool) (xs : List X) (i : ℕ) (d : X) → i < length xs → p (get_or xs i d) ≡ true → list_any p xs ≡ true
any_later p [] i d lt h = absurd (omega (arith, lt))
any_later p (x ∷ xs) zero d lt h = rw h refl
any_later p (x ∷ xs) (suc i) d lt h = by (p x) (any_later p xs i d (omega (arith, lt)) h)
  where
    by : (b : Bool) → list_any p xs ≡ true → (b || list_any p xs) ≡ true
    by true e = refl
    by false e = e

class_known : (lengths : List ℕ) (class rest : List PlainPattern) → AllByRecursion IsPattern rest
    → ((l : ℕ) → l ≤ 32 → list_any (λ (p : PlainPattern). p.base.len == l) rest ≡ true → list_any (λ (p : PlainPattern). p.base.len == l) class ≡ true)
    → ((l : ℕ) → l ≤ 32 → list_any (λ (p : PlainPattern). p.base.len == l) class ≡ true → has lengths l ≡ true) → AllByRecursion (IsKnown lengths) rest
class_known lengths class [] all in_class known = tt
class_known lengths class (q ∷ qs) all in_class known = (
  (all.0, known q.base.len all.0.prefix.within (in_class q.base.len all.0.prefix.within (or_left' (q.base.len == q.base.len) _ (eq-eqb q.base.len q.base.len refl)))),
  class_known lengths class qs all.1 (λ l le h. in_class l le (or_right' (q.base.len == l) _ h)) known,
)
  where
    or_left' : (a b : Bool) → a ≡ true → (a || b) ≡ true
    or_left' a b h = rw h refl

    or_right' : (a b : Bool) → b ≡ true → (a || b) ≡ true
    or_right' true b h = refl
    or_right' false b h = h

pub known_next : (lengths : List ℕ) (earlier : List PlainPattern) (classes : List (List PlainPattern)) (i : ℕ) → i < length classes
    → ((l : ℕ) → l ≤ 32 → has lengths l ≡ list_any (λ (c : List PlainPattern). list_any (λ (p : PlainPattern). p.base.len == l) c) classes)
    → AllByRecursion (IsKnown lengths) earlier → AllByRecursion IsPattern (get_or classes i []) → AllByRecursion (IsKnown lengths) (earlier ++ get_or classes i [])
known_next lengths earlier classes i h all known rules =
    AllByRecursion-append (IsKnown lengths) earlier (get_or classes i []) known
    (class_known lengths (get_or classes i []) (get_or classes i []) rules (λ l le on. on)
    (λ l le on. all l le ∙ any_later (λ (c : List PlainPattern). list_any (λ (p : PlainPattern). p.base.len == l) c) classes i [] h on))

pub known_meet : (lengths : List ℕ) (earlier class : List PlainPattern) (spans : List Span) → AllByRecursion (IsKnown lengths) earlier
    → ((q : PlainPattern) → IsPattern q → has lengths q.base.len ≡ true → in_some spans (key q) ≡ meets_some class q)
    → AllByRecursion (λ (q : PlainPattern). in_some spans (key q) ≡ meets_some class q) earlier
known_meet lengths [] class spans known meets = tt
known_meet lengths (q ∷ qs) class spans known meets = (meets q known.0.0 known.0.1, known_meet lengths qs class spans known.1 meets)

-- ---- the maps of a configuration are maps

length-lists_from : (earlier : List PlainPattern) (classes : List (List PlainPattern)) → length (lists_from earlier classes) ≡ length classes
length-lists_from earlier [] = refl
length-lists_from earlier (c ∷ cs) = let h = length-lists_from (earlier ++ c) cs in omega (arith, h)

lists_from-lines : (earlier : List PlainPattern) (classes : List (List PlainPattern)) → AllByRecursion (λ (ps : List PlainPattern). ps ≢ []) classes
    → AllByRecursion (λ (ls : List ListLine). ls ≢ []) (lists_from earlier classes)
lists_from-lines earlier [] all = tt
lists_from-lines earlier (c ∷ cs) all = ((λ none. some c all.0 (ap length none)), lists_from-lines (earlier ++ c) cs all.1)
  where
    some : (c : List PlainPattern) → c ≢ [] → length (list_for earlier c) ≡ 0 → ⊥
    some [] h e = h refl
    some (p ∷ ps) h e = let l = length-list_for earlier (p ∷ ps) in omega (arith, e, l)

pub IsMaps-maps_of : (c : PlainConfig) → IsConfig c → IsMaps (maps_of c)
IsMaps-maps_of c is =
    let many : length (lists_from [] c.classes) ≡ length c.classes = length-lists_from [] c.classes in
    record {
      count = omega (arith, many, is.count);
      lines = lists_from-lines [] c.classes is.patterns;
      routers = subst (λ n. AllByRecursion (IsRouter n) c.routers) (sym many) is.routers;
      names = is.names;
      asns = is.asns;
      ids = is.ids;
    }

-- the lines of a list: those that are denied, and those that are permitted
pub list_made : (earlier class patterns : List PlainPattern) (places given : List ℕ) (none denied all : List ListLine) → patterns ≡ earlier
    → given ≡ places → places ≡ places_from (meets_some class) 0 earlier
    → none ≡ [] → denied ≡ none ++ map (line false) (at_places patterns given) → all ≡ denied ++ map (line true) class → all ≡ list_for earlier class
list_made earlier class patterns places given none denied all ps js are n d a =
    a
    ∙ ap (λ (ls : List ListLine). ls ++ map (line true) class) (d ∙ ap (λ (ls : List ListLine). ls ++ map (line false) (at_places patterns given)) n)
    ∙ ap₂ (λ (xs : List PlainPattern) (ys : List ℕ). map (line false) (at_places xs ys) ++ map (line true) class) ps js
    ∙ ap (λ (xs : List PlainPattern). map (line false) xs ++ map (line true) class) (denied_are class earlier places are)

-- a class more: what is known of it, and what it adds
module _ (earlier : List PlainPattern) (classes : List (List PlainPattern)) (i : ℕ) (class : List PlainPattern) (h : i < length classes) (this : class ≡ get_or classes i []) where
  pub class_total : (lengths given : List ℕ) (spans taken : List Span) (all total denied half next : ℕ) → given ≡ lengths → taken ≡ spans → AllByRecursion (IsKnown lengths) earlier
      → ((q : PlainPattern) → IsPattern q → has given q.base.len ≡ true → in_some spans (key q) ≡ meets_some class q)
      → ((c : List PlainPattern) → AllByRecursion (λ (q : PlainPattern). in_some taken (key q) ≡ meets_some c q) earlier → denied ≡ min (length (filter (meets_some c) earlier)) top)
      → half ≡ min (total + denied) top → next ≡ min (half + length class) top → all ≡ min (total + lines_in (lists_from earlier (drop i classes))) top
      → all ≡ min (next + lines_in (lists_from (earlier ++ class) (drop (i + 1) classes))) top
  class_total lengths given spans taken all total denied half next same_lengths same_spans known meets counted a b so_far =
      let m : AllByRecursion (λ (q : PlainPattern). in_some taken (key q) ≡ meets_some class q) earlier =
      known_meet lengths earlier class taken known (λ q lq on. ap (λ (ss : List Span). in_some ss (key q)) same_spans ∙ meets q lq (ap (λ ls. has ls q.base.len) same_lengths ∙ on)) in
      subst (λ (c : List PlainPattern). all ≡ min (next + lines_in (lists_from (earlier ++ c) (drop (i + 1) classes))) top) (sym this)
      (total_next earlier classes i all total denied half next h so_far
      (subst (λ (c : List PlainPattern). denied ≡ min (length (filter (meets_some c) earlier)) top) this (counted class m)) a
      (subst (λ (c : List PlainPattern). next ≡ min (half + length c) top) this b))

  pub class_lists : (lists next whole : List (List ListLine)) → whole ≡ lists ++ lists_from earlier (drop i classes) → next ≡ lists ++ list_for earlier class ∷ []
      → whole ≡ next ++ lists_from (earlier ++ class) (drop (i + 1) classes)
  class_lists lists next whole so_far added =
      subst (λ (c : List PlainPattern). whole ≡ next ++ lists_from (earlier ++ c) (drop (i + 1) classes)) (sym this)
      (lists_next earlier classes i lists next whole h so_far (subst (λ (c : List PlainPattern). next ≡ lists ++ list_for earlier c ∷ []) this added))

  pub class_is_known : (lengths : List ℕ) → ((l : ℕ) → l ≤ 32 → has lengths l ≡ list_any (λ (c : List PlainPattern). list_any (λ (p : PlainPattern). p.base.len == l) c) classes)
      → AllByRecursion (IsKnown lengths) earlier → AllByRecursion IsPattern class → AllByRecursion (IsKnown lengths) (earlier ++ class)
  class_is_known lengths all known rules =
      subst (λ (c : List PlainPattern). AllByRecursion (IsKnown lengths) (earlier ++ c)) (sym this)
      (known_next lengths earlier classes i h all known (subst (λ (c : List PlainPattern). AllByRecursion IsPattern c) this rules))
