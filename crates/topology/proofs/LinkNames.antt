-- What links between names say of links between locations.
use Rattle.std.proofs.Common.{◌≡◌, ℕ, ◌+◌, ◌≤◌, ◌⊎◌, inl, inr, List, [], ◌∷◌, ◌++◌, length, get_or, Some, Ok, Err, Bool, true, false, ◌||◌, ◌&&◌, not, refl, sym, ap, ◌∙◌}
use Rattle.std.proofs.Common.{arith, ltb-true, ltb-false, eq-eqb, true≢false}
use Rattle.std.specs.Prelude.{⊤, IsTrue, ◌==◌, nat_lt, nat_le, if◌then◌else◌, position, ◌↔◌}
use Rattle.std.specs.List.{list_any, position_or_len, AllByRecursion, IsDistinct}
use Rattle.std.specs.Str.{bytes_eq}
use Rattle.std.proofs.lemmas.Bool.{eqb-false, eqb-true, leb-false, leb-true, and_parts}
use Rattle.std.proofs.lemmas.List.{map-append, length-map}
use Rattle.std.proofs.lemmas.List.Folds.{list_any_at}
use Rattle.std.proofs.lemmas.List.Quantifiers.{position-Some}
use Rattle.std.proofs.lemmas.Slice.Eq.{bytes_eq-Decides}
use Rattle.std.proofs.lemmas.Option.{cond_some, same_Some}
use Rattle.list_law.proofs.Positions.{list_any-no_position, list_any-position}
use Rattle.list_law.proofs.Truth.{same_tests}
use Rattle.net_base.specs.Steps.{◌>>=◌, or_fault, each_from}
use Rattle.topology.specs.declared.fault.TopoFault.{TopoFault}
use Rattle.topology.specs.declared.fault.TopoFault.TheVariants.{UnknownEnd}
use Rattle.topology.specs.Faults.{number_of}
use Rattle.topology.specs.Laws.{is_among, same_link}
use Rattle.net_base.specs.Network.{ordered, same_ends}
use Rattle.topology.specs.Rules.{names_of, joined}
use Rattle.topology.specs.Shape.{Entry, Ends}
use Rattle.net_base.proofs.StepLemmas.{bind_ok, err_same, ok_not_err, ok_same, or_fault_ok}
use Rattle.net_base.proofs.StepOutcomes.{bind_case, or_fault_err}

-- ---- the ends of a link in order

-- p is i and j, the lesser first
abbrev Orders : ℕ → ℕ → ℕ × ℕ → Type 0
Orders i j p = (p.0 ≤ p.1) × (p.0 + p.1 ≡ i + j) × ((p.0 ≡ i) ⊎ (p.0 ≡ j))

ordered_orders : (i j : ℕ) → Orders i j (ordered i j)
ordered_orders i j = by (nat_lt i j) refl
  where
    by : (t : Bool) → nat_lt i j ≡ t → Orders i j (if t then (i, j) else (j, i))
    by true e = (omega (arith, ltb-true i j e), refl, inl refl)
    by false e = (omega (arith, ltb-false i j e), omega arith, inr refl)

ordered_is : (i j : ℕ) (p : ℕ × ℕ) → ordered i j ≡ p → Orders i j p
ordered_is i j p is = rw (← is) (ordered_orders i j)

same_pairs : (i j k l : ℕ) (p q : ℕ × ℕ) → Orders i j p → Orders k l q → same_ends p q ≡ ((i == k && j == l) || (i == l && j == k))
same_pairs i j k l p q a b = same_tests _ _ there back
  where
    there : same_ends p q ≡ true → ((i == k && j == l) || (i == l && j == k)) ≡ true
    there h =
        let e = and_parts (p.0 == q.0) (p.1 == q.1) h in
        let x = eqb-true p.0 q.0 e.0 in
        let y = eqb-true p.1 q.1 e.1 in
        by (i == k) refl x y
      where
        by : (t : Bool) → (i == k) ≡ t → p.0 ≡ q.0 → p.1 ≡ q.1 → ((t && j == l) || (i == l && j == k)) ≡ true
        by true e x y = let f = eqb-true i k e in rw (eq-eqb j l (omega (arith, x, y, f, a.1, b.1))) refl
        by false e x y =
            let f = eqb-false i k e in
            rw (eq-eqb i l (omega (arith, x, y, f, a.0, a.1, a.2, b.0, b.1, b.2)), eq-eqb j k (omega (arith, x, y, f, a.0, a.1, a.2, b.0, b.1, b.2))) refl

    back : ((i == k && j == l) || (i == l && j == k)) ≡ true → same_ends p q ≡ true
    back h = by (i == k && j == l) refl h
      where
        by : (t : Bool) → (i == k && j == l) ≡ t → (t || (i == l && j == k)) ≡ true → same_ends p q ≡ true
        by true e h =
            let f = and_parts (i == k) (j == l) e in
            let x = eqb-true i k f.0 in
            let y = eqb-true j l f.1 in
            rw (eq-eqb p.0 q.0 (omega (arith, x, y, a.0, a.1, a.2, b.0, b.1, b.2)), eq-eqb p.1 q.1 (omega (arith, x, y, a.0, a.1, a.2, b.0, b.1, b.2))) refl
        by false e h =
            let f = and_parts (i == l) (j == k) h in
            let x = eqb-true i l f.0 in
            let y = eqb-true j k f.1 in
            rw (eq-eqb p.0 q.0 (omega (arith, x, y, a.0, a.1, a.2, b.0, b.1, b.2)), eq-eqb p.1 q.1 (omega (arith, x, y, a.0, a.1, a.2, b.0, b.1, b.2))) refl

same_ends_of : (i j : ℕ) (p : ℕ × ℕ) → Orders i j p → (p.0 == p.1) ≡ (i == j)
same_ends_of i j p a = same_tests _ _ (λ h. let x = eqb-true p.0 p.1 h in eq-eqb i j (omega (arith, x, a.1, a.2))) (λ h. let x = eqb-true i j h in eq-eqb p.0 p.1 (omega (arith, x, a.1, a.2)))

both_from : (n i j : ℕ) (p : ℕ × ℕ) → Orders i j p → nat_le n p.0 ≡ not (nat_lt i n || nat_lt j n)
both_from n i j p a = by (nat_lt i n) (nat_lt j n) (nat_le n p.0) refl refl refl
  where
    by : (s t u : Bool) → nat_lt i n ≡ s → nat_lt j n ≡ t → nat_le n p.0 ≡ u → u ≡ not (s || t)
    by true t true e f g = absurd (omega (arith, ltb-true i n e, leb-true n p.0 g, a.0, a.1, a.2))
    by true t false e f g = refl
    by false true true e f g = absurd (omega (arith, ltb-true j n f, leb-true n p.0 g, a.0, a.1, a.2))
    by false true false e f g = refl
    by false false true e f g = refl
    by false false false e f g = absurd (omega (arith, ltb-false i n e, ltb-false j n f, leb-false n p.0 g, a.0, a.1, a.2))

-- ---- names and their places

same_place : (x y : List ℕ) (names : List (List ℕ)) (i j : ℕ) → position (bytes_eq x) names ≡ Some i → position (bytes_eq y) names ≡ Some j → bytes_eq x y ≡ (i == j)
same_place x y names i j a b = same_tests _ _ there back
  where
    there : bytes_eq x y ≡ true → (i == j) ≡ true
    there h = eq-eqb i j (same_Some i j (sym a ∙ ap (λ z. position (bytes_eq z) names) ((bytes_eq-Decides x y).0 h) ∙ b))

    back : (i == j) ≡ true → bytes_eq x y ≡ true
    back h =
        let s : i ≡ j = eqb-true i j h in
        let p = (position-Some (bytes_eq x) names i [] a).1 in
        let q = (position-Some (bytes_eq y) names j [] b).1 in
        let e = (bytes_eq-Decides x (get_or names i [])).0 p in
        let f = (bytes_eq-Decides y (get_or names j [])).0 q in
        (bytes_eq-Decides x y).1 (e ∙ ap (λ n. get_or names n []) s ∙ sym f)

among_place : (rs ps : List Entry) (name : List ℕ) (i : ℕ) → position (bytes_eq name) (names_of (rs ++ ps)) ≡ Some i → is_among rs name ≡ nat_lt i (length rs)
among_place rs ps name i h =
    let joined : names_of (rs ++ ps) ≡ names_of rs ++ names_of ps = map-append (λ (e : Entry). e.name) rs ps in
    let all = names_of rs ++ names_of ps in
    let s = cond_some (nat_lt (position_or_len (bytes_eq name) all) (length all)) (position_or_len (bytes_eq name) all) i (rw joined at h) in
    list_any-position (bytes_eq name) (names_of rs) (names_of ps) (ltb-true _ _ s.0) ∙ rw (s.1, length-map rs (λ (e : Entry). e.name)) refl

-- ---- a link of names and a link of locations

-- the link p joins the locations of the names
pub record Joins (names : List (List ℕ)) (e : Ends) (p : ℕ × ℕ) : Type 0 where
  pub from : ℕ
  pub to : ℕ
  pub from_is : position (bytes_eq e.from) names ≡ Some from
  pub to_is : position (bytes_eq e.to) names ≡ Some to
  pub orders : Orders from to p

joined_joins : (names : List (List ℕ)) (k : ℕ) (e : Ends) (p : ℕ × ℕ) → joined names k e ≡ Ok p → Joins names e p
unfolding joined
joined_joins names k e p h =
    let a = bind_ok (or_fault (UnknownEnd k) (position (bytes_eq e.from) names)) (λ a. or_fault (UnknownEnd k) (position (bytes_eq e.to) names) >>= (λ b. Ok (ordered a b))) p h in
    let b = bind_ok (or_fault (UnknownEnd k) (position (bytes_eq e.to) names)) (λ b. Ok (ordered a.0 b)) p a.2 in
    record {
      from = a.0;
      to = b.0;
      from_is = or_fault_ok _ _ _ a.1;
      to_is = or_fault_ok _ _ _ b.1;
      orders = ordered_is a.0 b.0 p (ok_same (ordered a.0 b.0) p b.2);
    }

-- the links join the locations of the names, one for one
abbrev pub AllJoin : List (List ℕ) → List Ends → List (ℕ × ℕ) → Type 0
AllJoin names [] [] = ⊤
AllJoin names (e ∷ es) (p ∷ ps) = Joins names e p × AllJoin names es ps
AllJoin names [] (p ∷ ps) = ⊥
AllJoin names (e ∷ es) [] = ⊥

pub all_join : (names : List (List ℕ)) (k : ℕ) (es : List Ends) (ps : List (ℕ × ℕ)) → each_from (joined names) k es ≡ Ok ps → AllJoin names es ps
all_join names k [] ps h = rw (← ok_same [] ps h) tt
all_join names k (e ∷ es) ps h =
    let p = bind_ok (joined names k e) (λ y. each_from (joined names) (k + 1) es >>= (λ ys. Ok (y ∷ ys))) ps h in
    let q = bind_ok (each_from (joined names) (k + 1) es) (λ ys. Ok (p.0 ∷ ys)) ps p.2 in
    rw (← ok_same (p.0 ∷ q.0) ps q.2) (joined_joins names k e p.0 p.1, all_join names (k + 1) es q.0 q.1)

module _ (names : List (List ℕ)) where
  pair_same : (a b : Ends) (p q : ℕ × ℕ) → Joins names a p → Joins names b q → same_ends p q ≡ same_link a b
  pair_same a b p q x y =
      same_pairs x.from x.to y.from y.to p q x.orders y.orders
      ∙ rw (
        same_place a.from b.from names x.from y.from x.from_is y.from_is,
        same_place a.to b.to names x.to y.to x.to_is y.to_is,
        same_place a.from
            b.to names x.from y.to x.from_is y.to_is,
        same_place a.to b.from names x.to y.from x.to_is y.from_is,
      )
      refl

  all_apart : (a : Ends) (p : ℕ × ℕ) → Joins names a p → (es : List Ends) (ps : List (ℕ × ℕ)) → AllJoin names es ps
      → AllByRecursion (λ b. same_link a b ≡ false) es ↔ AllByRecursion (λ q. same_ends p q ≡ false) ps
  all_apart a p x [] [] j = ((λ _. tt), λ _. tt)
  all_apart a p x (b ∷ es) (q ∷ ps) j =
      let here = pair_same a b p q x j.0 in
      let more = all_apart a p x es ps j.1 in
      ((λ h. (here ∙ h.0, more.0 h.1)), λ h. (sym here ∙ h.0, more.1 h.1))
  all_apart a p x [] (q ∷ ps) j = absurd j
  all_apart a p x (b ∷ es) [] j = absurd j

  -- links of names differ exactly where those of locations do
  pub distinct_alike : (es : List Ends) (ps : List (ℕ × ℕ)) → AllJoin names es ps → IsDistinct same_link es ↔ IsDistinct same_ends ps
  unfolding IsDistinct
  distinct_alike [] [] j = ((λ _. tt), λ _. tt)
  distinct_alike (e ∷ es) (p ∷ ps) j =
      let here = all_apart e p j.0 es ps j.1 in
      let more = distinct_alike es ps j.1 in
      ((λ h. (here.0 h.0, more.0 h.1)), λ h. (here.1 h.0, more.1 h.1))
  distinct_alike [] (q ∷ ps) j = absurd j
  distinct_alike (b ∷ es) [] j = absurd j

  -- a test of locations that answers as one of names does
  pub any_join : (test : ℕ × ℕ → Bool) (named : Ends → Bool) → ((e : Ends) (p : ℕ × ℕ) → Joins names e p → test p ≡ named e)
      → (es : List Ends) (ps : List (ℕ × ℕ)) → AllJoin names es ps → list_any test ps ≡ list_any named es
  any_join test named same [] [] j = refl
  any_join test named same (e ∷ es) (p ∷ ps) j = rw (same e p j.0, any_join test named same es ps j.1) refl
  any_join test named same [] (q ∷ ps) j = absurd j
  any_join test named same (b ∷ es) [] j = absurd j

  pub to_itself : (e : Ends) (p : ℕ × ℕ) → Joins names e p → (p.0 == p.1) ≡ bytes_eq e.from e.to
  to_itself e p x = same_ends_of x.from x.to p x.orders ∙ sym (same_place e.from e.to names x.from x.to x.from_is x.to_is)

  found : (name : List ℕ) (i : ℕ) → position (bytes_eq name) names ≡ Some i → list_any (bytes_eq name) names ≡ true
  found name i h = let p = position-Some (bytes_eq name) names i [] h in list_any_at (bytes_eq name) names i [] p.0 p.1

  pub ends_known : (es : List Ends) (ps : List (ℕ × ℕ)) → AllJoin names es ps → AllByRecursion (λ l. IsTrue (list_any (bytes_eq l.from) names && list_any (bytes_eq l.to) names)) es
  ends_known [] [] j = tt
  ends_known (e ∷ es) (p ∷ ps) j = (rw (found e.from j.0.from j.0.from_is, found e.to j.0.to j.0.to_is) refl, ends_known es ps j.1)
  ends_known [] (q ∷ ps) j = absurd j
  ends_known (b ∷ es) [] j = absurd j

  -- a link is refused only where one of its ends is no name
  pub joined-breaks : (k : ℕ) (e : Ends) (f : TopoFault) → joined names k e ≡ Err f → (IsTrue (list_any (bytes_eq e.from) names && list_any (bytes_eq e.to) names) → ⊥) × (number_of f ≡ 9)
  unfolding joined
  joined-breaks k e f h =
      bind_case ((IsTrue (list_any (bytes_eq e.from) names && list_any (bytes_eq e.to) names) → ⊥) × (number_of f ≡ 9))
      (or_fault (UnknownEnd k) (position (bytes_eq e.from) names))
      (λ a. or_fault (UnknownEnd k) (position (bytes_eq e.to) names) >>= (λ b. Ok (ordered a b))) (Err f) h
      (λ d p same. let q = or_fault_err (UnknownEnd k) d (position (bytes_eq e.from) names) p in
      let none = list_any-no_position (bytes_eq e.from) names q.1 in
      ((λ is. true≢false (sym (and_parts _ _ is).0 ∙ none)), ap number_of (err_same f d same ∙ sym q.0)))
      (λ a _ g. bind_case ((IsTrue (list_any (bytes_eq e.from) names && list_any (bytes_eq e.to) names) → ⊥) × (number_of f ≡ 9))
      (or_fault (UnknownEnd k) (position (bytes_eq e.to) names)) (λ b. Ok (ordered a b)) (Err f) g
      (λ d p same. let q = or_fault_err (UnknownEnd k) d (position (bytes_eq e.to) names) p in
      let none = list_any-no_position (bytes_eq e.to) names q.1 in
      ((λ is. true≢false (sym (and_parts _ _ is).1 ∙ none)), ap number_of (err_same f d same ∙ sym q.0)))
      (λ b _ k. absurd (ok_not_err (ordered a b) f k)))

-- so many of the entries are routers, and they stand first
pub routers_first : (rs ps : List Entry) (e : Ends) (p : ℕ × ℕ) → Joins (names_of (rs ++ ps)) e p → nat_le (length rs) p.0 ≡ not (is_among rs e.from || is_among rs e.to)
routers_first rs ps e p x =
    both_from (length rs) x.from x.to p x.orders
    ∙ rw (among_place rs ps e.from x.from x.from_is, among_place rs ps e.to x.to x.to_is) refl
