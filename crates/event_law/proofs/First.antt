-- The first of what neighbours give: none where they give none, and no later than any.
use Rattle.std.proofs.Common.{◌≡◌, ℕ, ◌≤◌, true, false, eqb, ltb, List, [], ◌∷◌, length, Option, Some, None, refl, sym, ap, ◌∙◌, subst, inl, inr, arith}
use Rattle.std.specs.Prelude.{fold}
use Rattle.std.proofs.lemmas.Bool.{cases_Bool, and_parts, and_cases, or_cases, or_parts, cond-true, cond-false, eqb-true, ltb-true, ltb-false, eq-eqb, both_ways}
use Rattle.net_base.specs.Network.{PlainNet, id_of}
use Rattle.config_base.specs.declared.route.Route.{Route}
use Rattle.event_law.specs.Kept.{among}
use Rattle.event_base.specs.Speaking.{first_of, is_before, picked, with_gift}

-- x comes no later than y
pub record NoLater (net : PlainNet) (x y : ℕ × Route) : Type 0 where
  pub higher : y.1.pref ≤ x.1.pref
  pub fewer : y.1.pref ≡ x.1.pref → length x.1.path ≤ length y.1.path
  pub lower : y.1.pref ≡ x.1.pref → length x.1.path ≡ length y.1.path → id_of net x.0 ≤ id_of net y.0

itself : (net : PlainNet) (x : ℕ × Route) → NoLater net x x
itself net x = record { higher = omega arith; fewer = λ e. omega arith; lower = λ e l. omega arith }

before_no_later : (net : PlainNet) (x y : ℕ × Route) → is_before net x y ≡ true → NoLater net x y
before_no_later net x y h = elim (or_cases (ltb y.1.pref x.1.pref) _ h) [
  | inl more ↦ (let m = ltb-true y.1.pref x.1.pref more in record { higher = omega (arith, m); fewer = λ e. absurd (omega (arith, m, e)); lower = λ e l. absurd (omega (arith, m, e)) })
  | inr same ↦ (
      let p = and_parts (eqb x.1.pref y.1.pref) _ same in
      let e = eqb-true x.1.pref y.1.pref p.0 in
      elim (or_cases (ltb (length x.1.path) (length y.1.path)) _ p.1) [
        | inl less ↦ (let m = ltb-true (length x.1.path) (length y.1.path) less in record { higher = omega (arith, e); fewer = λ f. omega (arith, m); lower = λ f l. absurd (omega (arith, m, l)) })
        | inr alike ↦ (
            let q = and_parts (eqb (length x.1.path) (length y.1.path)) _ alike in
            let l = eqb-true (length x.1.path) (length y.1.path) q.0 in
            let m = ltb-true (id_of net x.0) (id_of net y.0) q.1 in
            record { higher = omega (arith, e); fewer = λ f. omega (arith, l); lower = λ f k. omega (arith, m) })
      ])
]

not_eqb : (a b : ℕ) → eqb a b ≡ false → a ≡ b → ⊥
not_eqb a b h e = both_ways (eqb a b) h (ap (eqb a) (sym e) ∙ eq-eqb a a refl)

after_no_later : (net : PlainNet) (x y : ℕ × Route) → is_before net x y ≡ false → NoLater net y x
after_no_later net x y h =
    let p = or_parts (ltb y.1.pref x.1.pref) _ h in
    let most = ltb-false y.1.pref x.1.pref p.0 in
    elim (and_cases (eqb x.1.pref y.1.pref) _ p.1) [
      | inl apart ↦ record { higher = omega (arith, most); fewer = λ e. absurd (not_eqb x.1.pref y.1.pref apart e); lower = λ e l. absurd (not_eqb x.1.pref y.1.pref apart e) }
      | inr rest ↦ (
          let q = or_parts (ltb (length x.1.path) (length y.1.path)) _ rest in
          let long = ltb-false (length x.1.path) (length y.1.path) q.0 in
          elim (and_cases (eqb (length x.1.path) (length y.1.path)) _ q.1) [
            | inl apart ↦ record { higher = omega (arith, most); fewer = λ e. omega (arith, long); lower = λ e l. absurd (not_eqb (length x.1.path) (length y.1.path) apart (sym l)) }
            | inr last ↦ (let m = ltb-false (id_of net x.0) (id_of net y.0) last in record { higher = omega (arith, most); fewer = λ e. omega (arith, long); lower = λ e l. omega (arith, m) })
          ])
    ]

through : (net : PlainNet) (x y z : ℕ × Route) → NoLater net x y → NoLater net y z → NoLater net x z
through net x y z a b = record {
  higher = omega (arith, a.higher, b.higher);
  fewer = λ e.
      let f : y.1.pref ≡ x.1.pref = omega (arith, a.higher, b.higher, e) in
      let g : z.1.pref ≡ y.1.pref = omega (arith, a.higher, b.higher, e) in
      omega (arith, a.fewer f, b.fewer g);
  lower = λ e l.
      let f : y.1.pref ≡ x.1.pref = omega (arith, a.higher, b.higher, e) in
      let g : z.1.pref ≡ y.1.pref = omega (arith, a.higher, b.higher, e) in
      let xy = a.fewer f in
      let yz = b.fewer g in
      let same : length x.1.path ≡ length y.1.path = omega (arith, xy, yz, l) in
      let also : length y.1.path ≡ length z.1.path = omega (arith, xy, yz, l) in
      omega (arith, a.lower f same, b.lower g also);
}

-- what u gives doesn't come before the best
abbrev pub Covers : PlainNet → (ℕ → Option Route) → Option (ℕ × Route) → ℕ → Type 0
Covers net gives best u = (h : Route) → gives u ≡ Some h → (x : ℕ × Route) × (best ≡ Some x) × NoLater net x (u, h)

module _ (net : PlainNet) (gives : ℕ → Option Route) where
  keeps : (best : Option (ℕ × Route)) (v : ℕ) (o : Option Route) (y : ℕ × Route) (x : ℕ × Route) → best ≡ Some x → NoLater net x y → (z : ℕ × Route) × (picked net best v o ≡ Some z) × NoLater net z y
  keeps best v None y x e n = (x, e, n)
  keeps None v (Some g) y x e n = absurd (cc)
  keeps (Some b) v (Some g) y x e n =
      let same : b ≡ x = cc in
      elim (cases_Bool (is_before net (v, g) b)) [
        | inl t ↦ ((v, g), cond-true (is_before net (v, g) b) (Some (v, g)) (Some b) t, through net (v, g) x y (subst (NoLater net (v, g)) same (before_no_later net (v, g) b t)) n)
        | inr f ↦ (x, cond-false (is_before net (v, g) b) (Some (v, g)) (Some b) f ∙ e, n)
      ]

  takes : (best : Option (ℕ × Route)) (u : ℕ) (h : Route) → (z : ℕ × Route) × (picked net best u (Some h) ≡ Some z) × NoLater net z (u, h)
  takes None u h = ((u, h), refl, itself net (u, h))
  takes (Some b) u h = elim (cases_Bool (is_before net (u, h) b)) [
    | inl t ↦ ((u, h), cond-true (is_before net (u, h) b) (Some (u, h)) (Some b) t, itself net (u, h))
    | inr f ↦ (b, cond-false (is_before net (u, h) b) (Some (u, h)) (Some b) f, after_no_later net (u, h) b f)
  ]

  still : (best : Option (ℕ × Route)) (vs : List ℕ) (u : ℕ) → Covers net gives best u → Covers net gives (fold (with_gift net gives) best vs) u
  still best [] u covered = covered
  still best (v ∷ vs) u covered = still (with_gift net gives best v) vs u (λ h e. (let x = covered h e in keeps best v (gives v) (u, h) x.0 x.1 x.2))

  covers : (best : Option (ℕ × Route)) (vs : List ℕ) (u : ℕ) → among vs u ≡ true → Covers net gives (fold (with_gift net gives) best vs) u
  covers best [] u h = absurd (cc)
  covers best (v ∷ vs) u h = elim (or_cases (eqb u v) (among vs u) h) [
    | inl here ↦ (
        let same = eqb-true u v here in
        still (with_gift net gives best v) vs u (λ g e. (
        let x = takes best u g in (x.0, ap (λ (z : ℕ × Option Route). picked net best z.0 z.1) (λ i. (sym same i, (ap gives (sym same) ∙ e) i)) ∙ x.1, x.2))))
    | inr later ↦ covers (with_gift net gives best v) vs u later
  ]

  -- the first of what neighbours give comes no later than what any gives
  pub first_covers : (us : List ℕ) (u : ℕ) → among us u ≡ true → Covers net gives (first_of net gives us) u
  first_covers us u h = covers None us u h
