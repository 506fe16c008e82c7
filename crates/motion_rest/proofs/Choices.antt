-- What a router chooses is one of the first of what it makes of what it has heard.
use Rattle.std.proofs.Common.{◌≡◌, ℕ, ◌<◌, ◌≤◌, zero, suc, Bool, true, false, ◌⊎◌, List, [], ◌∷◌, ◌++◌, length, Option, Some, None, refl, sym, ap, ◌∙◌, subst, inl, inr, arith}
use Rattle.std.specs.Prelude.{◌&&◌, not, ◌==◌, nat_lt, is_some}
use Rattle.std.specs.List.{find, list_any}
use Rattle.std.specs.Str.{bytes_eq}
use Rattle.std.specs.Option.{option_and_then}
use Rattle.std.proofs.lemmas.Bool.{and_cases, and_from, and_parts, cases_Bool, cases_lt, cond-true, cond-false, eq-eqb, eqb-true, false_from_ne_true, false≢true, ltb-false, ltb-true, not-true, not_from_false, or_cases, or_parts, true≢false}
use Rattle.std.proofs.lemmas.Slice.Eq.{bytes_eq-Decides}
use Rattle.list_law.specs.Members.{IsIn}
use Rattle.list_law.proofs.Members.{IsIn-cons_cases, list_any-from_IsIn, list_any_member}
use Rattle.list_law.proofs.Options.{cases_Option, is_some_parts, none_or_some, option_and_then_parts}
use Rattle.list_law.proofs.Tests.{find_parts, list_any-not_found}
use Rattle.net_base.specs.Locations.{neighbours}
use Rattle.net_base.specs.Network.{PlainNet, IsNet, linked}
use Rattle.net_base.specs.Prefixes.{PlainPrefix}
use Rattle.net_base.proofs.Neighbours.{linked_neighbour, neighbour_linked}
use Rattle.policy_base.specs.Policies.{PlainPolicy}
use Rattle.config_base.specs.Configs.{PlainConfig}
use Rattle.config_base.specs.Lines.{same_tag}
use Rattle.config_base.proofs.SameTags.{is-same_tag, same_tag-is}
use Rattle.outcome_base.specs.Announcements.{FullRoute}
use Rattle.motion_law.specs.Motion.{Motion, comes_before, gift, giver_of, gives_it, holds_on, is_top, picked, precedes, same_route, whole_length}

-- what is the same is equal
pub one_route : (a b : Option FullRoute) → same_route a b ≡ true → a ≡ b
one_route None None h = refl
one_route None (Some y) h = absurd (false≢true h)
one_route (Some x) None h = absurd (false≢true h)
one_route (Some x) (Some y) h =
    let one = and_parts (bytes_eq x.route.path y.route.path) _ h in
    let two = and_parts (bytes_eq x.behind y.behind) _ one.1 in
    let three = and_parts (same_tag x.route.tag y.route.tag) (x.route.pref == y.route.pref) two.1 in
    let path : x.route.path ≡ y.route.path = (bytes_eq-Decides x.route.path y.route.path).0 one.0 in
    let behind : x.behind ≡ y.behind = (bytes_eq-Decides x.behind y.behind).0 two.0 in
    let tag : x.route.tag ≡ y.route.tag = same_tag-is x.route.tag y.route.tag three.0 in
    let pref : x.route.pref ≡ y.route.pref = eqb-true x.route.pref y.route.pref three.1 in
    λ i. Some (record { route = record { path = path i; tag = tag i; pref = pref i }; behind = behind i })

-- y doesn't come before x
pub record NotAfter (x y : FullRoute) : Type 0 where
  pub higher : y.route.pref ≤ x.route.pref
  pub fewer : y.route.pref ≡ x.route.pref → length (x.route.path ++ x.behind) ≤ length (y.route.path ++ y.behind)

either : (x y : FullRoute) → NotAfter x y ⊎ NotAfter y x
either x y = by (cases_lt x.route.pref y.route.pref) (cases_lt y.route.pref x.route.pref) (cases_lt (length (x.route.path ++ x.behind)) (length (y.route.path ++ y.behind)))
  where
    by : (x.route.pref < y.route.pref) ⊎ (y.route.pref ≤ x.route.pref) → (y.route.pref < x.route.pref) ⊎ (x.route.pref ≤ y.route.pref)
        → (length (x.route.path ++ x.behind) < length (y.route.path ++ y.behind)) ⊎ (length (y.route.path ++ y.behind) ≤ length (x.route.path ++ x.behind)) → NotAfter x y ⊎ NotAfter y x
    by (inl a) b c = inr (record { higher = omega (arith, a); fewer = λ e. absurd (omega (arith, a, e)) })
    by (inr a) (inl b) c = inl (record { higher = a; fewer = λ e. absurd (omega (arith, b, e)) })
    by (inr a) (inr b) (inl c) = inl (record { higher = a; fewer = λ e. omega (arith, c) })
    by (inr a) (inr b) (inr c) = inr (record { higher = b; fewer = λ e. c })

through : (x y z : FullRoute) → NotAfter x y → NotAfter y z → NotAfter x z
through x y z a b =
    let h = a.higher in
    let k = b.higher in
    record {
      higher = omega (arith, h, k);
      fewer = λ e.
          let f : y.route.pref ≡ x.route.pref = omega (arith, h, k, e) in
          let g : z.route.pref ≡ y.route.pref = omega (arith, h, k, e) in
          let m = a.fewer f in
          let n = b.fewer g in
          omega (arith, m, n);
    }

itself : (x : FullRoute) → NotAfter x x
itself x = record { higher = omega arith; fewer = λ e. omega arith }

module _ (net : PlainNet) (policy : PlainPolicy) (config : PlainConfig) (p : PlainPrefix) where
  before_false : (x y : FullRoute) → comes_before net policy config p x y ≡ false → NotAfter y x
  before_false x y h =
      let a = or_parts (nat_lt y.route.pref x.route.pref) _ h in
      let b = ltb-false y.route.pref x.route.pref a.0 in
      record { higher = b; fewer = λ e. short e (and_cases (x.route.pref == y.route.pref) (nat_lt (whole_length net policy config p x) (whole_length net policy config p y)) a.1) }
    where
      short : x.route.pref ≡ y.route.pref → ((x.route.pref == y.route.pref) ≡ false) ⊎ (nat_lt (whole_length net policy config p x) (whole_length net policy config p y) ≡ false)
          → length (y.route.path ++ y.behind) ≤ length (x.route.path ++ x.behind)
      short e (inl off) = absurd (true≢false (sym (eq-eqb x.route.pref y.route.pref e) ∙ off))
      short e (inr off) = ltb-false (whole_length net policy config p x) (whole_length net policy config p y) off

  before_from : (x y : FullRoute) → NotAfter y x → comes_before net policy config p x y ≡ true → ⊥
  before_from x y n h = by (or_cases (nat_lt y.route.pref x.route.pref) _ h)
    where
      by : (nat_lt y.route.pref x.route.pref ≡ true) ⊎ ((x.route.pref == y.route.pref && nat_lt (whole_length net policy config p x) (whole_length net policy config p y)) ≡ true) → ⊥
      by (inl l) = (let a = ltb-true y.route.pref x.route.pref l in let b = n.higher in omega (arith, a, b))
      by (inr l) =
          let a = and_parts (x.route.pref == y.route.pref) _ l in
          let e = eqb-true x.route.pref y.route.pref a.0 in
          let m = ltb-true (whole_length net policy config p x) (whole_length net policy config p y) a.1 in
          let k = n.fewer e in
          omega (arith, m, k)

  module _ (rules : IsNet net) (w : Motion) (r : ℕ) where
    abbrev G : ℕ → Option FullRoute
    G u = gift net policy config p w r u

    -- no neighbour's route comes before this one
    abbrev pub IsFirst : FullRoute → Type 0
    IsFirst t = (z : ℕ) (y : FullRoute) → linked net r z ≡ true → G z ≡ Some y → NotAfter t y

    abbrev ahead : ℕ → ℕ → Bool
    ahead u z = precedes net policy config p (G z) (G u)

    pub top_parts : (u : ℕ) → is_top net policy config p w r u ≡ true → (linked net r u ≡ true) × (t : FullRoute) × (G u ≡ Some t) × IsFirst t
    top_parts u h =
        let a = and_parts (linked net r u) _ h in
        let b = and_parts (is_some (G u)) (not (list_any (ahead u) (neighbours net r))) a.1 in
        let t = is_some_parts (G u) b.0 in
        (a.0, t.0, t.1, λ z y on e. first t.0 t.1 (not-true _ b.1) z y on e)
      where
        first : (t : FullRoute) → G u ≡ Some t → list_any (ahead u) (neighbours net r) ≡ false → (z : ℕ) (y : FullRoute) → linked net r z ≡ true → G z ≡ Some y → NotAfter t y
        first t is none z y on e =
            let at = linked_neighbour net r z rules on in
            let off : ahead u z ≡ false = false_from_ne_true (ahead u z) (λ h. true≢false (sym (list_any-from_IsIn (ahead u) (neighbours net r) z at h) ∙ none)) in
            before_false y t (sym (ap (λ o. precedes net policy config p o (G u)) e ∙ ap (precedes net policy config p (Some y)) is) ∙ off)

    pub top_from : (u : ℕ) (t : FullRoute) → linked net r u ≡ true → G u ≡ Some t → IsFirst t → is_top net policy config p w r u ≡ true
    top_from u t on is first =
        and_from (linked net r u) _ on (and_from (is_some (G u)) (not (list_any (ahead u) (neighbours net r))) (ap is_some is)
        (not_from_false _ (false_from_ne_true (list_any (ahead u) (neighbours net r)) (λ h.
        let m = list_any_member (ahead u) (neighbours net r) h in
        ahead_not m.0 (neighbour_linked net r m.1.0 m.0 m.1.1) m.2 (G m.0) refl))))
      where
        ahead_not : (z : ℕ) → linked net r z ≡ true → ahead u z ≡ true → (o : Option FullRoute) → G z ≡ o → ⊥
        ahead_not z at h None e = false≢true (sym (ap (λ o. precedes net policy config p o (G u)) e) ∙ h)
        ahead_not z at h (Some y) e = before_from y t (first z y at e) (sym (ap (λ o. precedes net policy config p o (G u)) e ∙ ap (precedes net policy config p (Some y)) is) ∙ h)

    -- ---- where somebody gives a route, somebody gives a first one

    record Best (us : List ℕ) : Type 0 where
      giver : ℕ
      route : FullRoute
      among : IsIn us giver
      gives : G giver ≡ Some route
      first : (z : ℕ) (y : FullRoute) → IsIn us z → G z ≡ Some y → NotAfter route y

    best : (us : List ℕ) → ((z : ℕ) → IsIn us z → G z ≡ None) ⊎ Best us
    best [] = inl (λ z at. let no = at.1 in absurd (cc))
    best (u ∷ us) = by (G u) refl (best us)
      where
        by : (o : Option FullRoute) → G u ≡ o → ((z : ℕ) → IsIn us z → G z ≡ None) ⊎ Best us → ((z : ℕ) → IsIn (u ∷ us) z → G z ≡ None) ⊎ Best (u ∷ us)
        by None e (inl none) = inl (λ z at. each (IsIn-cons_cases u us z at))
          where
            each : {z : ℕ} → (u ≡ z) ⊎ IsIn us z → G z ≡ None
            each {z} (inl same) = ap G (sym same) ∙ e
            each {z} (inr later) = none z later
        by None e (inr b) = inr (record { giver = b.giver; route = b.route; among = (suc b.among.0, b.among.1); gives = b.gives; first = λ z y at g. each z y g (IsIn-cons_cases u us z at) })
          where
            each : (z : ℕ) (y : FullRoute) → G z ≡ Some y → (u ≡ z) ⊎ IsIn us z → NotAfter b.route y
            each z y g (inl same) = absurd (none_or_some (G z) y (ap G (sym same) ∙ e) g)
            each z y g (inr later) = b.first z y later g
        by (Some t) e (inl none) = inr (record { giver = u; route = t; among = (zero, refl); gives = e; first = λ z y at g. each z y g (IsIn-cons_cases u us z at) })
          where
            each : (z : ℕ) (y : FullRoute) → G z ≡ Some y → (u ≡ z) ⊎ IsIn us z → NotAfter t y
            each z y g (inl same) = (let f : Some t ≡ Some y = sym e ∙ ap G same ∙ g in let one : t ≡ y = cc in subst (NotAfter t) one (itself t))
            each z y g (inr later) = absurd (none_or_some (G z) y (none z later) g)
        by (Some t) e (inr b) = pick (either t b.route)
          where
            pick : NotAfter t b.route ⊎ NotAfter b.route t → ((z : ℕ) → IsIn (u ∷ us) z → G z ≡ None) ⊎ Best (u ∷ us)
            pick (inl n) = inr (record { giver = u; route = t; among = (zero, refl); gives = e; first = λ z y at g. each z y g (IsIn-cons_cases u us z at) })
              where
                each : (z : ℕ) (y : FullRoute) → G z ≡ Some y → (u ≡ z) ⊎ IsIn us z → NotAfter t y
                each z y g (inl same) = (let f : Some t ≡ Some y = sym e ∙ ap G same ∙ g in let one : t ≡ y = cc in subst (NotAfter t) one (itself t))
                each z y g (inr later) = through t b.route y n (b.first z y later g)
            pick (inr n) = inr (record { giver = b.giver; route = b.route; among = (suc b.among.0, b.among.1); gives = b.gives; first = λ z y at g. each z y g (IsIn-cons_cases u us z at) })
              where
                each : (z : ℕ) (y : FullRoute) → G z ≡ Some y → (u ≡ z) ⊎ IsIn us z → NotAfter b.route y
                each z y g (inl same) = (let f : Some t ≡ Some y = sym e ∙ ap G same ∙ g in let one : t ≡ y = cc in subst (NotAfter b.route) one n)
                each z y g (inr later) = b.first z y later g

    pub some_top : (z : ℕ) (y : FullRoute) → linked net r z ≡ true → G z ≡ Some y → (u : ℕ) × (is_top net policy config p w r u ≡ true)
    some_top z y on e = by (best (neighbours net r))
      where
        by : ((z : ℕ) → IsIn (neighbours net r) z → G z ≡ None) ⊎ Best (neighbours net r) → (u : ℕ) × (is_top net policy config p w r u ≡ true)
        by (inl none) = absurd (none_or_some (G z) y (none z (linked_neighbour net r z rules on)) e)
        by (inr b) = (b.giver, top_from b.giver b.route (neighbour_linked net r b.among.0 b.giver b.among.1) b.gives (λ x y at g. b.first x y (linked_neighbour net r x rules at) g))

    -- ---- what is picked

    abbrev holds : Bool
    holds = holds_on net policy config p w r

    abbrev given_now : ℕ → Option FullRoute
    given_now u = option_and_then (gift net policy config p w r) (giver_of net policy config p w r u)

    giver_top : (u x : ℕ) → giver_of net policy config p w r u ≡ Some x → is_top net policy config p w r x ≡ true
    giver_top u x h = elim (cases_Bool (is_top net policy config p w r u)) [
      | inl t ↦ (
          let e : Some u ≡ Some x = sym (cond-true (is_top net policy config p w r u) (Some u) (find (is_top net policy config p w r) (neighbours net r)) t) ∙ h in
          let same : u ≡ x = cc in
          subst (λ z. is_top net policy config p w r z ≡ true) same t)
      | inr f ↦ (find_parts (is_top net policy config p w r) (neighbours net r) x (sym (cond-false (is_top net policy config p w r u) (Some u) (find (is_top net policy config p w r) (neighbours net r)) f) ∙ h)).2
    ]

    held_top : holds ≡ true → (x : ℕ) × (is_top net policy config p w r x ≡ true) × (G x ≡ w.route r)
    held_top h =
        let a = and_parts (list_any (gives_it net policy config p w r) (neighbours net r)) _ h in
        let m = list_any_member (gives_it net policy config p w r) (neighbours net r) a.0 in
        let b = and_parts (is_top net policy config p w r m.0) (same_route (G m.0) (w.route r)) m.2 in
        (m.0, b.0, one_route (G m.0) (w.route r) b.1)

    -- what is picked is given, and first
    pub picked_some : (u : ℕ) (y : FullRoute) → picked net policy config p w r u ≡ Some y → (x : ℕ) × (is_top net policy config p w r x ≡ true) × (G x ≡ Some y)
    picked_some u y h = elim (cases_Bool holds) [
      | inl t ↦ (let a = held_top t in (a.0, a.1, a.2 ∙ sym (cond-true holds (w.route r) (given_now u) t) ∙ h))
      | inr f ↦ (
          let a = option_and_then_parts (gift net policy config p w r) (giver_of net policy config p w r u) y (sym (cond-false holds (w.route r) (given_now u) f) ∙ h) in
          (a.0, giver_top u a.0 a.1, a.2))
    ]

    -- and none only where no neighbour gives any
    pub picked_none : (u : ℕ) → picked net policy config p w r u ≡ None → (z : ℕ) → linked net r z ≡ true → G z ≡ None
    picked_none u h z on = by (G z) refl
      where
        never : (x : ℕ) → is_top net policy config p w r x ≡ true → ⊥
        never x top = elim (cases_Bool holds) [
          | inl t ↦ (
              let a = held_top t in
              let b = top_parts a.0 a.1 in
              none_or_some (G a.0) b.1 (a.2 ∙ sym (cond-true holds (w.route r) (given_now u) t) ∙ h) b.2)
          | inr f ↦ (
              let nothing : given_now u ≡ None = sym (cond-false holds (w.route r) (given_now u) f) ∙ h in
              elim (cases_Option (giver_of net policy config p w r u)) [
                | inr g ↦ (
                    let b = top_parts g.0 (giver_top u g.0 g.1) in
                    none_or_some (G g.0) b.1 (sym (ap (option_and_then (gift net policy config p w r)) g.1) ∙ nothing) b.2)
                | inl none ↦ unfound none (cases_Bool (is_top net policy config p w r u))
              ])
        ]
          where
            unfound : giver_of net policy config p w r u ≡ None → (is_top net policy config p w r u ≡ true) ⊎ (is_top net policy config p w r u ≡ false) → ⊥
            unfound none (inl t) = (let clash : Some u ≡ None = sym (cond-true (is_top net policy config p w r u) (Some u) (find (is_top net policy config p w r) (neighbours net r)) t) ∙ none in absurd (cc))
            unfound none (inr f) =
                let gone : find (is_top net policy config p w r) (neighbours net r) ≡ None =
                sym (cond-false (is_top net policy config p w r u) (Some u) (find (is_top net policy config p w r) (neighbours net r)) f) ∙ none in
                let any = list_any-not_found (is_top net policy config p w r) (neighbours net r) gone in
                let at = linked_neighbour net r x rules (top_parts x top).0 in
                true≢false (sym (list_any-from_IsIn (is_top net policy config p w r) (neighbours net r) x at top) ∙ any)

        by : (o : Option FullRoute) → G z ≡ o → G z ≡ None
        by None e = e
        by (Some y) e = (let t = some_top z y on e in absurd (never t.0 t.1))

    -- where the present route is given by one of the first, and none of these has news, it is kept
    pub picked_held : (u x : ℕ) → is_top net policy config p w r x ≡ true → G x ≡ w.route r → ((z : ℕ) → is_top net policy config p w r z ≡ true → w.news z r ≡ false)
        → picked net policy config p w r u ≡ w.route r
    picked_held u x top same quiet =
        let at = linked_neighbour net r x rules (top_parts x top).0 in
        let gives : gives_it net policy config p w r x ≡ true = and_from (is_top net policy config p w r x) _ top (same_is (G x) (w.route r) same) in
        let one = list_any-from_IsIn (gives_it net policy config p w r) (neighbours net r) x at gives in
        let none : list_any (λ z. is_top net policy config p w r z && w.news z r) (neighbours net r) ≡ false =
        false_from_ne_true _ (λ h.
        let m = list_any_member (λ z. is_top net policy config p w r z && w.news z r) (neighbours net r) h in
        let b = and_parts (is_top net policy config p w r m.0) (w.news m.0 r) m.2 in
        true≢false (sym b.1 ∙ quiet m.0 b.0)) in
        cond-true holds (w.route r) (given_now u) (and_from (list_any (gives_it net policy config p w r) (neighbours net r)) _ one (not_from_false _ none))
      where
        same_is : (a b : Option FullRoute) → a ≡ b → same_route a b ≡ true
        same_is a b e = subst (λ o. same_route a o ≡ true) e (alike a)
          where
            alike : (a : Option FullRoute) → same_route a a ≡ true
            alike None = refl
            alike (Some x) =
                and_from (bytes_eq x.route.path x.route.path) _ ((bytes_eq-Decides x.route.path x.route.path).1 refl)
                (and_from (bytes_eq x.behind x.behind) _ ((bytes_eq-Decides x.behind x.behind).1 refl)
                (and_from (same_tag x.route.tag x.route.tag) _ (is-same_tag x.route.tag x.route.tag refl) (eq-eqb x.route.pref x.route.pref refl)))
