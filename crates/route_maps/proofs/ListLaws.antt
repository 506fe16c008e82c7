-- A list permits a prefix exactly where its number is the prefix's class.
use Rattle.std.proofs.Common.{◌≡◌, ℕ, zero, suc, ◌+◌, ◌<◌, ◌≤◌, Bool, true, false, List, [], ◌∷◌, ◌++◌, map, Option, Some, None, inl, inr, refl, ap, sym, ◌∙◌, arith}
use Rattle.std.specs.Prelude.{◌↔◌, ◌⊎◌, IsTrue, not, ◌&&◌, ◌||◌, ◌==◌, slice_get, unwrap_or, is_some, if◌then◌else◌}
use Rattle.std.specs.List.{filter}
use Rattle.std.proofs.lemmas.Bool.{eqb-true, eq-eqb, ne_eqb, false_from_ne_true, or_cases, or_left, or_right, false≢true}
use Rattle.std.proofs.lemmas.List.Folds.{list_any-append}
use Rattle.std.proofs.Math.Bool.{and-false}
use Rattle.net_base.specs.Prefixes.{PlainPrefix, PlainPattern, contains}
use Rattle.policy_base.specs.Governing.{some_contains}
use Rattle.config_base.specs.Configs.{PlainConfig}
use Rattle.config_base.specs.Lines.{class_from, class_of}
use Rattle.route_maps.specs.Overlaps.{overlap}
use Rattle.route_maps.specs.declared.maps.ListLine.{ListLine}
use Rattle.route_maps.specs.Maps.{permits, list_permits}
use Rattle.route_maps.specs.OfConfig.{line, meets_some, list_for, lists_from, maps_of}
use Rattle.route_maps.proofs.OverlapLaws.{overlap-from_both}

-- nothing comes of nothing, whatever a test says
pub none_either_way : {A : Type 0} (b : Bool) {o : Option A} → o ≡ None → (if b then None else o) ≡ None
none_either_way true e = refl
none_either_way false e = e

-- the class is there and has this number
abbrev pub is_class : Option ℕ → ℕ → Bool
is_class None n = false
is_class (Some c) n = n == c

permits-denied : (qs : List PlainPattern) (rest : List ListLine) (p : PlainPrefix)
    → permits (map (line false) qs ++ rest) p ≡ (if some_contains qs p then false else permits rest p)
permits-denied [] rest p = refl
permits-denied (q ∷ qs) rest p = at_first (contains q p) refl (permits-denied qs rest p)
  where
    at_first : (b : Bool) → contains q p ≡ b → permits (map (line false) qs ++ rest) p ≡ (if some_contains qs p then false else permits rest p)
        → permits (map (line false) (q ∷ qs) ++ rest) p ≡ (if some_contains (q ∷ qs) p then false else permits rest p)
    at_first true is later = rw is refl
    at_first false is later = rw is later

permits-permitted : (ps : List PlainPattern) (p : PlainPrefix) → permits (map (line true) ps) p ≡ some_contains ps p
permits-permitted [] p = refl
permits-permitted (q ∷ ps) p = at_first (contains q p) refl (permits-permitted ps p)
  where
    at_first : (b : Bool) → contains q p ≡ b → permits (map (line true) ps) p ≡ some_contains ps p
        → permits (map (line true) (q ∷ ps)) p ≡ some_contains (q ∷ ps) p
    at_first true is later = rw is refl
    at_first false is later = rw is later

-- a pattern that contains a prefix of the class overlaps some pattern of the class
meets : (ps : List PlainPattern) (q : PlainPattern) (p : PlainPrefix) → p.len ≤ 32 → contains q p ≡ true → some_contains ps p ≡ true → meets_some ps q ≡ true
meets [] q p within cq h = absurd (false≢true h)
meets (n ∷ ps) q p within cq h = by_first (λ later. meets ps q p within cq later) (or_cases (contains n p) (some_contains ps p) h)
  where
    by_first : (some_contains ps p ≡ true → meets_some ps q ≡ true) → (contains n p ≡ true) ⊎ (some_contains ps p ≡ true) → meets_some (n ∷ ps) q ≡ true
    by_first rest (inl cn) = or_left (overlap q n) (meets_some ps q) (overlap-from_both q n p within cq cn)
    by_first rest (inr later) = or_right (overlap q n) (meets_some ps q) (rest later)

-- the lines that are left out say nothing of a prefix of the class
kept : (ps earlier : List PlainPattern) (p : PlainPrefix) → p.len ≤ 32 → some_contains ps p ≡ true → some_contains (filter (meets_some ps) earlier) p ≡ some_contains earlier p
kept ps [] p within h = refl
kept ps (q ∷ qs) p within h = by_meeting (meets_some ps q) refl (kept ps qs p within h)
  where
    out : meets_some ps q ≡ false → contains q p ≡ false
    out not_met = false_from_ne_true (contains q p) (λ cq. false≢true (sym not_met ∙ meets ps q p within cq h))

    by_meeting : (b : Bool) → meets_some ps q ≡ b → some_contains (filter (meets_some ps) qs) p ≡ some_contains qs p
        → some_contains (filter (meets_some ps) (q ∷ qs)) p ≡ some_contains (q ∷ qs) p
    by_meeting true is later = rw is (ap (λ b. contains q p || b) later)
    by_meeting false is later = rw is (rw (out is) later)

pub permits-list_for : (earlier ps : List PlainPattern) (p : PlainPrefix) → p.len ≤ 32 → permits (list_for earlier ps) p ≡ (not (some_contains earlier p) && some_contains ps p)
permits-list_for earlier ps p within = by_class (some_contains ps p) refl
  where
    cut : permits (list_for earlier ps) p ≡ (if some_contains (filter (meets_some ps) earlier) p then false else some_contains ps p)
    cut = permits-denied (filter (meets_some ps) earlier) (map (line true) ps) p
        ∙ ap (λ b. if some_contains (filter (meets_some ps) earlier) p then false else b) (permits-permitted ps p)

    same : (x y : Bool) → (if x then false else y) ≡ (not x && y)
    same true y = refl
    same false y = refl

    none : (x : Bool) → (if x then false else false) ≡ false
    none true = refl
    none false = refl

    by_class : (b : Bool) → some_contains ps p ≡ b → permits (list_for earlier ps) p ≡ (not (some_contains earlier p) && some_contains ps p)
    by_class true is = cut ∙ ap (λ b. if b then false else some_contains ps p) (kept ps earlier p within is) ∙ same (some_contains earlier p) (some_contains ps p)
    by_class false is = cut ∙ (rw is (none (some_contains (filter (meets_some ps) earlier) p) ∙ sym (and-false (not (some_contains earlier p)))))

-- after a class that contains the prefix no list permits it
past : (earlier : List PlainPattern) (classes : List (List PlainPattern)) (p : PlainPrefix) (i : ℕ) → p.len ≤ 32 → some_contains earlier p ≡ true
    → permits (unwrap_or (slice_get (lists_from earlier classes) i) []) p ≡ false
past earlier [] p i within h = refl
past earlier (ps ∷ classes) p zero within h = permits-list_for earlier ps p within ∙ ap (λ b. not b && some_contains ps p) h
past earlier (ps ∷ classes) p (suc i) within h =
    past (earlier ++ ps) classes p i within (list_any-append (λ pattern. contains pattern p) earlier ps ∙ or_left (some_contains earlier p) _ h)

-- classes from k on have no number below k
none_below : (classes : List (List PlainPattern)) (p : PlainPrefix) (k n : ℕ) → n < k → is_class (class_from classes p k) n ≡ false
none_below [] p k n low = refl
none_below (ps ∷ classes) p k n low = by_first (some_contains ps p) refl (none_below classes p (k + 1) n (omega arith))
  where
    by_first : (b : Bool) → some_contains ps p ≡ b → is_class (class_from classes p (k + 1)) n ≡ false → is_class (class_from (ps ∷ classes) p k) n ≡ false
    by_first true is later = rw is (ne_eqb n k (λ e. omega arith))
    by_first false is later = rw is later

any_earlier : (earlier ps : List PlainPattern) (p : PlainPrefix) → some_contains earlier p ≡ false → some_contains (earlier ++ ps) p ≡ some_contains ps p
any_earlier earlier ps p h = list_any-append (λ pattern. contains pattern p) earlier ps ∙ ap (λ b. b || some_contains ps p) h

at_class : (earlier : List PlainPattern) (classes : List (List PlainPattern)) (p : PlainPrefix) (k i : ℕ) → p.len ≤ 32 → some_contains earlier p ≡ false
    → permits (unwrap_or (slice_get (lists_from earlier classes) i) []) p ≡ is_class (class_from classes p k) (k + i)
at_class earlier [] p k i within h = refl
at_class earlier (ps ∷ classes) p k zero within h = by_first (some_contains ps p) refl
  where
    first : permits (list_for earlier ps) p ≡ some_contains ps p
    first = permits-list_for earlier ps p within ∙ ap (λ b. not b && some_contains ps p) h

    by_first : (b : Bool) → some_contains ps p ≡ b → permits (list_for earlier ps) p ≡ is_class (class_from (ps ∷ classes) p k) (k + zero)
    by_first true is = first ∙ is ∙ rw is (sym (eq-eqb (k + zero) k (omega arith)))
    by_first false is = first ∙ is ∙ rw is (sym (none_below classes p (k + 1) (k + zero) (omega arith)))
at_class earlier (ps ∷ classes) p k (suc i) within h = by_first (some_contains ps p) refl (λ e. at_class (earlier ++ ps) classes p (k + 1) i within e)
  where
    by_first : (b : Bool) → some_contains ps p ≡ b
        → (some_contains (earlier ++ ps) p ≡ false → permits (unwrap_or (slice_get (lists_from (earlier ++ ps) classes) i) []) p ≡ is_class (class_from classes p (k + 1)) (k + 1 + i))
        → permits (unwrap_or (slice_get (lists_from (earlier ++ ps) classes) i) []) p ≡ is_class (class_from (ps ∷ classes) p k) (k + suc i)
    by_first true is later = past (earlier ++ ps) classes p i within (any_earlier earlier ps p h ∙ is) ∙ rw is (sym (ne_eqb (k + suc i) k (λ e. omega arith)))
    by_first false is later =
        let e : k + 1 + i ≡ k + suc i = omega arith in
        later (any_earlier earlier ps p h ∙ is) ∙ ap (λ n. is_class (class_from classes p (k + 1)) n) e ∙ rw is refl

-- What a list permits: the prefixes of the class with its number.
pub list_permits-maps_of : (config : PlainConfig) (list : ℕ) (p : PlainPrefix) → p.len ≤ 32 → list_permits (maps_of config) list p ≡ is_class (class_of config p) list
list_permits-maps_of config zero p within = sym (none_below config.classes p 1 0 (omega arith))
list_permits-maps_of config (suc i) p within =
    let e : 1 + i ≡ suc i = omega arith in
    at_class [] config.classes p 1 i within refl ∙ ap (λ n. is_class (class_of config p) n) e

is_class-Some : (o : Option ℕ) (n : ℕ) → IsTrue (is_class o n) ↔ (o ≡ Some n)
is_class-Some None n = (λ h. absurd (false≢true h), λ h. absurd (false≢true (ap is_some h)))
is_class-Some (Some c) n = (λ h. ap Some (sym (eqb-true n c h)), λ h. eq-eqb n c (sym (ap (λ o. unwrap_or o 0) h)))

pub permits_class : (config : PlainConfig) (list : ℕ) (p : PlainPrefix) → p.len ≤ 32 → IsTrue (list_permits (maps_of config) list p) ↔ (class_of config p ≡ Some list)
permits_class config list p within =
    let e = list_permits-maps_of config list p within in
    let s = is_class-Some (class_of config p) list in
    (λ h. s.0 (sym e ∙ h), λ h. e ∙ s.1 h)
