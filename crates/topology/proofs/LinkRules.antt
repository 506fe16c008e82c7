-- Links that keep the rules ascend, and are a network's.
use Rattle.std.proofs.Common.{◌≡◌, ℕ, ◌+◌, ◌<◌, ◌≤◌, List, [], ◌∷◌, ◌++◌, length, Ok, Bool, true, false, ◌||◌, ◌&&◌, refl, sym, ap, ◌∙◌, arith, append_assoc, ltb-true, ltb-false}
use Rattle.std.specs.Prelude.{⊤, ◌==◌, nat_lt, nat_le, fold, if◌then◌else◌, position, option_map}
use Rattle.std.specs.List.{list_any, find, AllByRecursion}
use Rattle.std.specs.Str.{bytes_eq}
use Rattle.std.proofs.lemmas.Bool.{eqb-false, eqb-true, leb-false, or_parts}
use Rattle.std.proofs.lemmas.List.{append-nil, length-map}
use Rattle.std.proofs.lemmas.List.Sums.{fold-append}
use Rattle.std.proofs.lemmas.List.Quantifiers.{position-Some}
use Rattle.list_law.proofs.Each.{AllByRecursion-from_list_any}
use Rattle.list_law.proofs.Tests.{list_any-not_found}
use Rattle.list_law.proofs.Positions.{list_any-no_position}
use Rattle.net_base.specs.Network.{Ascend, IsBefore, is_before, same_ends, ordered}
use Rattle.net_base.specs.Steps.{◌>>=◌, or_fault, each_from}
use Rattle.topology.specs.declared.fault.TopoFault.TheVariants.{UnknownEnd, LinkTwice}
use Rattle.topology.specs.Shape.{Ends}
use Rattle.topology.specs.Rules.{all_unlike, no_fault, put, ascending, joined, links_differ, ends_differ, routers_linked, links_of}
use Rattle.topology.proofs.Ascending.{list_any-ascending}
use Rattle.net_base.proofs.StepLemmas.{bind_ok, or_fault_ok, ok_same}
use Rattle.topology.proofs.Results.{no_fault-ok, each_from-all, each_from-view}

all_put : (P : ℕ × ℕ → Type 0) (xs : List (ℕ × ℕ)) (link : ℕ × ℕ) → AllByRecursion P xs → P link → AllByRecursion P (put xs link)
all_put P [] link a p = (p, tt)
all_put P (x ∷ xs) link a p = by (is_before link x) (all_put P xs link a.1 p)
  where
    by : (b : Bool) → AllByRecursion P (put xs link) → AllByRecursion P (if b then link ∷ x ∷ xs else x ∷ put xs link)
    by true later = (p, a)
    by false later = (a.0, later)

all_fold : (P : ℕ × ℕ → Type 0) (xs links : List (ℕ × ℕ)) → AllByRecursion P xs → AllByRecursion P links → AllByRecursion P (fold put xs links)
all_fold P xs [] a b = a
all_fold P xs (l ∷ ls) a b = all_fold P (put xs l) ls (all_put P xs l a b.0) b.1

length_put : (xs : List (ℕ × ℕ)) (link : ℕ × ℕ) → length (put xs link) ≡ length xs + 1
length_put [] link = refl
length_put (x ∷ xs) link = by (is_before link x) (length_put xs link)
  where
    by : (b : Bool) → length (put xs link) ≡ length xs + 1 → length (if b then link ∷ x ∷ xs else x ∷ put xs link) ≡ length (x ∷ xs) + 1
    by true later = omega arith
    by false later = omega (arith, later)

length_fold : (xs links : List (ℕ × ℕ)) → length (fold put xs links) ≡ length xs + length links
length_fold xs [] = omega arith
length_fold xs (l ∷ ls) = omega (arith, length_fold (put xs l) ls, length_put xs l)

before_true : (a b c d : ℕ) → (nat_lt a c || (a == c && nat_lt b d)) ≡ true → (a ≤ c) × (a ≡ c → b < d)
before_true a b c d h = by (nat_lt a c) (a == c) (nat_lt b d) refl refl refl h
  where
    by : (less same less2 : Bool) → nat_lt a c ≡ less → (a == c) ≡ same → nat_lt b d ≡ less2 → (less || (same && less2)) ≡ true → (a ≤ c) × (a ≡ c → b < d)
    by true same less2 e f g t = let l = ltb-true a c e in (omega (arith, l), λ is. omega (arith, l, is))
    by false true true e f g t = let s = eqb-true a c f in let l = ltb-true b d g in (omega (arith, s), λ is. l)
    by false true false e f g t = absurd cc
    by false false less2 e f g t = absurd cc

before_false : (a b c d : ℕ) → (nat_lt a c || (a == c && nat_lt b d)) ≡ false → (a == c && b == d) ≡ false → (c ≤ a) × (c ≡ a → d < b)
before_false a b c d h apart = by (nat_lt a c) (a == c) (nat_lt b d) (b == d) refl refl refl refl h apart
  where
    by : (less same less2 same2 : Bool) → nat_lt a c ≡ less → (a == c) ≡ same → nat_lt b d ≡ less2 → (b == d) ≡ same2
        → (less || (same && less2)) ≡ false → (same && same2) ≡ false → (c ≤ a) × (c ≡ a → d < b)
    by true same less2 same2 e f g k t u = absurd cc
    by false true true same2 e f g k t u = absurd cc
    by false true false true e f g k t u = absurd cc
    by false true false false e f g k t u = let m = ltb-false b d g in let n = eqb-false b d k in (omega (arith, ltb-false a c e), λ is. omega (arith, m, n))
    by false false less2 same2 e f g k t u = let n = eqb-false a c f in (omega (arith, ltb-false a c e), λ is. absurd (n (sym is)))

all_after : (l x : ℕ × ℕ) (xs : List (ℕ × ℕ)) → IsBefore l x → AllByRecursion (IsBefore x) xs → AllByRecursion (IsBefore l) xs
all_after l x [] b a = tt
all_after l x (y ∷ ys) b a = ((omega (arith, b.0, a.0.0), λ is. omega (arith, b.1 (omega (arith, is, b.0, a.0.0)), a.0.1 (omega (arith, is, b.0, a.0.0)))), all_after l x ys b a.1)

ascend_put : (xs : List (ℕ × ℕ)) (link : ℕ × ℕ) → Ascend xs → list_any (same_ends link) xs ≡ false → Ascend (put xs link)
ascend_put [] link a none = (tt, tt)
ascend_put (x ∷ xs) link a none = by (is_before link x) refl (ascend_put xs link a.1)
  where
    by : (b : Bool) → is_before link x ≡ b → (list_any (same_ends link) xs ≡ false → Ascend (put xs link)) → Ascend (if b then link ∷ x ∷ xs else x ∷ put xs link)
    by true e later = let b = before_true link.0 link.1 x.0 x.1 e in ((b, all_after link x xs b a.0), a)
    by false e later =
        let p = or_parts (same_ends link x) (list_any (same_ends link) xs) none in
        (all_put (IsBefore x) xs link a.0 (before_false link.0 link.1 x.0 x.1 e p.0), later p.1)

ascending_ascends : (before xs : List (ℕ × ℕ)) (u : ⊤) → all_unlike same_ends (λ place _ _. LinkTwice place) before xs ≡ Ok u → Ascend (ascending before) → Ascend (ascending (before ++ xs))
ascending_ascends before [] u h a = rw (append-nil before) a
ascending_ascends before (x ∷ xs) u h a =
    let p =
    bind_ok (no_fault (option_map (λ (earlier : ℕ × ℕ). LinkTwice (length before + 1)) (find (same_ends x) before)))
    (λ _. all_unlike same_ends (λ place _ _. LinkTwice place) (before ++ x ∷ []) xs) u h in
    let none = list_any-not_found (same_ends x) before (no_fault-ok _ _ _ p.1) in
    let next : Ascend (ascending (before ++ x ∷ [])) = rw (fold-append put [] before (x ∷ [])) (ascend_put (ascending before) x a (list_any-ascending (same_ends x) before ∙ none)) in
    rw (append_assoc before (x ∷ []) xs) at (ascending_ascends (before ++ x ∷ []) xs u p.2 next)

-- a link between so many locations, of which so many are routers, the lesser end first
abbrev pub IsLinkOf : ℕ → ℕ → ℕ × ℕ → Type 0
IsLinkOf locations routers l = (l.0 < l.1) × (l.1 < locations) × (l.0 < routers)

all_links : (n routers : ℕ) (links : List (ℕ × ℕ)) → AllByRecursion (λ l. (l.0 ≤ l.1) × (l.1 < n)) links
    → AllByRecursion (λ l. (l.0 == l.1) ≡ false) links → AllByRecursion (λ l. nat_le routers l.0 ≡ false) links
    → AllByRecursion (IsLinkOf n routers) links
all_links n routers [] a b c = tt
all_links n routers (l ∷ ls) a b c =
    let apart = eqb-false l.0 l.1 b.0 in
    let router = leb-false routers l.0 c.0 in
    ((omega (arith, a.0.0, apart), a.0.1, omega (arith, router)), all_links n routers ls a.1 b.1 c.1)

ordered_holds : (n a b : ℕ) → a < n → b < n → ((ordered a b).0 ≤ (ordered a b).1) × ((ordered a b).1 < n)
ordered_holds n a b ha hb = by (nat_lt a b) refl
  where
    by : (t : Bool) → nat_lt a b ≡ t → (let o : ℕ × ℕ = if t then (a, b) else (b, a) in (o.0 ≤ o.1) × (o.1 < n))
    by true e = (omega (arith, ltb-true a b e), hb)
    by false e = (omega (arith, ltb-false a b e), ha)

joined_holds : (names : List (List ℕ)) (k : ℕ) (e : Ends) (l : ℕ × ℕ) → joined names k e ≡ Ok l → (l.0 ≤ l.1) × (l.1 < length names)
unfolding joined
joined_holds names k e l h =
    let p = bind_ok (or_fault (UnknownEnd k) (position (bytes_eq e.from) names)) (λ a. or_fault (UnknownEnd k) (position (bytes_eq e.to) names) >>= (λ b. Ok (ordered a b))) l h in
    let q = bind_ok (or_fault (UnknownEnd k) (position (bytes_eq e.to) names)) (λ b. Ok (ordered p.0 b)) l p.2 in
    let a = position-Some (bytes_eq e.from) names p.0 [] (or_fault_ok _ _ _ p.1) in
    let b = position-Some (bytes_eq e.to) names q.0 [] (or_fault_ok _ _ _ q.1) in
    rw (← ok_same (ordered p.0 q.0) l q.2) (ordered_holds (length names) p.0 q.0 a.0 b.0)

pub links_hold : (names : List (List ℕ)) (routers : ℕ) (ends : List Ends) (links : List (ℕ × ℕ)) → links_of names routers ends ≡ Ok links
    → AllByRecursion (IsLinkOf (length names) routers) links × Ascend links × (length links ≡ length ends)
unfolding links_of links_differ ends_differ routers_linked
links_hold names routers ends links h =
    let p = bind_ok (each_from (joined names) 1 ends) (λ links. links_differ links >>= (λ _. ends_differ links >>= (λ _. routers_linked routers links >>= (λ _. Ok (ascending links))))) links h in
    let pairs = p.0 in
    let q = bind_ok (links_differ pairs) (λ _. ends_differ pairs >>= (λ _. routers_linked routers pairs >>= (λ _. Ok (ascending pairs)))) links p.2 in
    let r = bind_ok (ends_differ pairs) (λ _. routers_linked routers pairs >>= (λ _. Ok (ascending pairs))) links q.2 in
    let s = bind_ok (routers_linked routers pairs) (λ _. Ok (ascending pairs)) links r.2 in
    let within = each_from-all (λ (l : ℕ × ℕ). (l.0 ≤ l.1) × (l.1 < length names)) (joined names) (joined_holds names) 1 ends pairs p.1 in
    let apart = AllByRecursion-from_list_any (λ l. l.0 == l.1) pairs (list_any-no_position (λ (l : ℕ × ℕ). l.0 == l.1) pairs (no_fault-ok _ _ _ r.1)) in
    let routed = AllByRecursion-from_list_any (λ l. nat_le routers l.0) pairs (list_any-no_position (λ (l : ℕ × ℕ). nat_le routers l.0) pairs (no_fault-ok _ _ _ s.1)) in
    let same = each_from-view {C = ℕ} (λ (e : Ends). 0) (λ (l : ℕ × ℕ). 0) (joined names) (λ k e l i. refl) 1 ends pairs p.1 in
    let count : length pairs ≡ length ends = sym (length-map pairs (λ l. 0)) ∙ ap length same ∙ length-map ends (λ e. 0) in
    rw (← ok_same (ascending pairs) links s.2) (
      all_fold (IsLinkOf (length names) routers) [] pairs tt (all_links (length names) routers pairs within apart routed),
      ascending_ascends [] pairs q.0 q.1 tt,
      omega (arith, length_fold [] pairs, count),
    )
