-- A round that has come some way.
use Rattle.std.proofs.Common.{◌≡◌, ◌⊎◌, ℕ, suc, ◌<◌, ◌≤◌, Bool, true, ◌==◌, List, [], ◌∷◌, ◌++◌, length, find, Some, None, sym, ap, ◌∙◌, subst, inl, inr, arith}
use Rattle.std.specs.List.{list_any}
use Rattle.std.proofs.lemmas.Bool.{cases_Bool, cases_eq, cases_lt, or_cases, or_left, or_right, cond-true, cond-false, eq-eqb, eqb-true, both_ways, and_parts}
use Rattle.std.proofs.lemmas.List.{get_or_append_left, length-append}
use Rattle.std.proofs.Math.Seq.{get_or-append_seam}
use Rattle.reach_prune.specs.Searches.{is_among}
use Rattle.node_quotient.specs.Alike.{Ascends, class_in, list_of, are_alike, AreFirst}
use Rattle.node_quotient.proofs.Ascending.{above_in, among_more, among_new, among_old, ascends_more}
use Rattle.node_quotient.proofs.Like.{alike_refl, alike_trans}

-- what is found first of an ascending list
pub found_first : (p : ℕ → Bool) (xs : List ℕ) (f : ℕ) → Ascends xs → find p xs ≡ Some f → (is_among xs f ≡ true) × (p f ≡ true) × ((x : ℕ) → is_among xs x ≡ true → p x ≡ true → f ≤ x)
found_first p [] f asc h = absurd (cc)
found_first p (y ∷ ys) f asc h = elim (cases_Bool (p y)) [
  | inl t ↦
      let at : find p (y ∷ ys) ≡ Some y = cond-true (p y) (Some y) (find p ys) t in
      let same : Some y ≡ Some f = sym at ∙ h in
      let is : y ≡ f = cc in (
        or_left (y == f) (list_any (λ w. w == f) ys) (eq-eqb y f is),
        ap p (sym is) ∙ t,
        λ x there px. elim (or_cases (y == x) (list_any (λ w. w == x) ys) there) [
          | inl e ↦ let xy = eqb-true y x e in omega (arith, is, xy)
          | inr r ↦ let lt = above_in y x ys asc.0 r in omega (arith, is, lt)
        ],
      )
  | inr n ↦
      let at : find p (y ∷ ys) ≡ find p ys = cond-false (p y) (Some y) (find p ys) n in
      let r = found_first p ys f asc.1 (sym at ∙ h) in (
        or_right (y == f) (list_any (λ w. w == f) ys) r.0,
        r.1,
        λ x there px. elim (or_cases (y == x) (list_any (λ w. w == x) ys) there) [
          | inl e ↦ absurd (both_ways _ n (ap p (eqb-true y x e) ∙ px))
          | inr t ↦ r.2 x t px
        ],
      )
]

pub found_none : (p : ℕ → Bool) (xs : List ℕ) → find p xs ≡ None → (x : ℕ) → is_among xs x ≡ true → p x ≡ true → ⊥
found_none p [] h x there px = absurd (cc)
found_none p (y ∷ ys) h x there px = elim (cases_Bool (p y)) [
  | inl t ↦
      let at : find p (y ∷ ys) ≡ Some y = cond-true (p y) (Some y) (find p ys) t in
      let same : Some y ≡ None = sym at ∙ h in
      absurd (cc)
  | inr n ↦
      let at : find p (y ∷ ys) ≡ find p ys = cond-false (p y) (Some y) (find p ys) n in
      elim (or_cases (y == x) (list_any (λ w. w == x) ys) there) [
        | inl e ↦ absurd (both_ways _ n (ap p (eqb-true y x e) ∙ px))
        | inr t ↦ found_none p ys (sym at ∙ h) x t px
      ]
]

-- the first nodes are in their parts, and the founders of parts are listed by class
pub record Stage (lists : List (List ℕ)) (least : List ℕ) (node : ℕ) (founders : List (List ℕ)) (next : List ℕ) : Type 0 where
  pub size : length next ≡ node
  pub rows : length founders ≡ length least
  pub le : (n : ℕ) → n < node → class_in next n ≤ n
  pub idle : (n : ℕ) → n < node → class_in next (class_in next n) ≡ class_in next n
  pub alike : (n : ℕ) → n < node → are_alike lists least (class_in next n) n ≡ true
  pub first : (m n : ℕ) → n < node → are_alike lists least m n ≡ true → class_in next n ≤ m
  pub listed : (c m : ℕ) → is_among (list_of founders c) m ≡ true → (m < node) × (class_in next m ≡ m)
  pub founds : (m : ℕ) → m < node → class_in next m ≡ m → is_among (list_of founders (class_in least m)) m ≡ true
  pub ascends : (c : ℕ) → Ascends (list_of founders c)

-- after all nodes
pub ended : (lists : List (List ℕ)) (least : List ℕ) (node : ℕ) (founders : List (List ℕ)) (next : List ℕ) → length least ≤ node → node ≤ length least
    → Stage lists least node founders next → AreFirst lists least next
ended lists least node founders next le ge s = record {
  size = let e = s.size in omega (arith, le, ge, e);
  within = λ n lt. let less = s.le n (omega (arith, le, lt)) in omega (arith, less, lt);
  alike = λ n lt. s.alike n (omega (arith, le, lt));
  first = λ m n lm ln h. s.first m n (omega (arith, le, ln)) h;
}

module _ (lists : List (List ℕ)) (least : List ℕ) (node : ℕ) (founders : List (List ℕ)) (next : List ℕ) (s : Stage lists least node founders next) (lt : node < length least) where
  old : (x n : ℕ) → n < node → class_in (next ++ x ∷ []) n ≡ class_in next n
  old x n l = let e = s.size in get_or_append_left next (x ∷ []) 0 n (omega (arith, e, l))

  old_idle : (x n : ℕ) → n < node → class_in (next ++ x ∷ []) (class_in (next ++ x ∷ []) n) ≡ class_in (next ++ x ∷ []) n
  old_idle x n l =
      let le = s.le n l in
      ap (class_in (next ++ x ∷ [])) (old x n l) ∙ old x (class_in next n) (omega (arith, le, l)) ∙ s.idle n l ∙ sym (old x n l)

  here : (x : ℕ) → class_in (next ++ x ∷ []) node ≡ x
  here x = subst (λ n. class_in (next ++ x ∷ []) n ≡ x) s.size (get_or-append_seam next x [] 0)

  -- a node before this one that is like it is in a part of its class, which is listed
  founder : (m : ℕ) → m < node → are_alike lists least m node ≡ true →
      (is_among (list_of founders (class_in least node)) (class_in next m) ≡ true) × (are_alike lists least (class_in next m) node ≡ true)
  founder m l h =
      let like = alike_trans lists least (class_in next m) m node (s.alike m l) h in
      let same : class_in least (class_in next m) ≡ class_in least node = eqb-true _ _ (and_parts (class_in least (class_in next m) == class_in least node) _ like).0 in
      let le = s.le m l in
      (subst (λ c. is_among (list_of founders c) (class_in next m) ≡ true) same (s.founds (class_in next m) (omega (arith, le, l)) (s.idle m l)), like)

  module _ (f : ℕ) (h : find (λ m. are_alike lists least m node) (list_of founders (class_in least node)) ≡ Some f) where
    pub more_found : Stage lists least (suc node) founders (next ++ f ∷ [])
    more_found =
        let r = found_first (λ m. are_alike lists least m node) (list_of founders (class_in least node)) f (s.ascends (class_in least node)) h in
        let there = s.listed (class_in least node) f r.0 in
        let before = there.0 in
        let now : class_in (next ++ f ∷ []) node ≡ f = here f in
        record {
          size = let e = length-append next (f ∷ []) in let k = s.size in omega (arith, e, k);
          rows = s.rows;
          le = λ n l. elim (cases_eq n node) [
            | inl e ↦ let at : class_in (next ++ f ∷ []) n ≡ f = ap (class_in (next ++ f ∷ [])) e ∙ now in omega (arith, at, before, e)
            | inr a ↦ let at = old f n (omega (arith, l, a)) in let le = s.le n (omega (arith, l, a)) in omega (arith, at, le)
          ];
          idle = λ n l. elim (cases_eq n node) [
            | inl e ↦
                let at : class_in (next ++ f ∷ []) n ≡ f = ap (class_in (next ++ f ∷ [])) e ∙ now in
                ap (class_in (next ++ f ∷ [])) at ∙ old f f before ∙ there.1 ∙ sym at
            | inr a ↦ old_idle f n (omega (arith, l, a))
          ];
          alike = λ n l. elim (cases_eq n node) [
            | inl e ↦ subst (λ k. are_alike lists least (class_in (next ++ f ∷ []) k) k ≡ true) (sym e) (ap (λ k. are_alike lists least k node) now ∙ r.1)
            | inr a ↦ ap (λ k. are_alike lists least k n) (old f n (omega (arith, l, a))) ∙ s.alike n (omega (arith, l, a))
          ];
          first = λ m n l like. elim (cases_eq n node) [
            | inl e ↦
                let at : class_in (next ++ f ∷ []) n ≡ f = ap (class_in (next ++ f ∷ [])) e ∙ now in
                elim (cases_lt m node) [
                  | inl less ↦
                      let p = founder m less (ap (are_alike lists least m) (sym e) ∙ like) in
                      let one = r.2 (class_in next m) p.0 p.1 in
                      let two = s.le m less in
                      omega (arith, at, one, two)
                  | inr ge ↦ omega (arith, at, before, ge)
                ]
            | inr a ↦ let at = old f n (omega (arith, l, a)) in let one = s.first m n (omega (arith, l, a)) like in omega (arith, at, one)
          ];
          listed = λ c m there. let o = s.listed c m there in let less = o.0 in (omega (arith, less), old f m less ∙ o.1);
          founds = λ m l is. elim (cases_eq m node) [
            | inl e ↦
                let at : class_in (next ++ f ∷ []) m ≡ f = ap (class_in (next ++ f ∷ [])) e ∙ now in
                absurd (omega (arith, at, is, e, before))
            | inr a ↦ s.founds m (omega (arith, l, a)) (sym (old f m (omega (arith, l, a))) ∙ is)
          ];
          ascends = s.ascends;
        }

  module _ (after : List (List ℕ)) (rows : length after ≡ length founders) (same : list_of after (class_in least node) ≡ list_of founders (class_in least node) ++ node ∷ [])
      (others : (c : ℕ) → (c ≡ class_in least node → ⊥) → list_of after c ≡ list_of founders c)
      (h : find (λ m. are_alike lists least m node) (list_of founders (class_in least node)) ≡ None) where
    listed_after : (c m : ℕ) → is_among (list_of after c) m ≡ true → (is_among (list_of founders c) m ≡ true) ⊎ (m ≡ node)
    listed_after c m there = elim (cases_eq c (class_in least node)) [
      | inl e ↦ elim (among_more (list_of founders (class_in least node)) node m (ap (λ xs. is_among xs m) (sym same) ∙ ap (λ k. is_among (list_of after k) m) (sym e) ∙ there)) [
        | inl t ↦ inl (ap (λ k. is_among (list_of founders k) m) e ∙ t)
        | inr is ↦ inr (sym is)
      ]
      | inr a ↦ inl (ap (λ xs. is_among xs m) (sym (others c a)) ∙ there)
    ]

    old_listed : (c m : ℕ) → is_among (list_of founders c) m ≡ true → is_among (list_of after c) m ≡ true
    old_listed c m there = elim (cases_eq c (class_in least node)) [
      | inl e ↦
          ap (λ k. is_among (list_of after k) m) e ∙ ap (λ xs. is_among xs m) same
          ∙ among_old (list_of founders (class_in least node)) node m (ap (λ k. is_among (list_of founders k) m) (sym e) ∙ there)
      | inr a ↦ ap (λ xs. is_among xs m) (others c a) ∙ there
    ]

    pub more_founder : Stage lists least (suc node) after (next ++ node ∷ [])
    more_founder =
        let now : class_in (next ++ node ∷ []) node ≡ node = here node in
        record {
          size = let e = length-append next (node ∷ []) in let k = s.size in omega (arith, e, k);
          rows = rows ∙ s.rows;
          le = λ n l. elim (cases_eq n node) [
            | inl e ↦ let at : class_in (next ++ node ∷ []) n ≡ node = ap (class_in (next ++ node ∷ [])) e ∙ now in omega (arith, at, e)
            | inr a ↦ let at = old node n (omega (arith, l, a)) in let le = s.le n (omega (arith, l, a)) in omega (arith, at, le)
          ];
          idle = λ n l. elim (cases_eq n node) [
            | inl e ↦
                let at : class_in (next ++ node ∷ []) n ≡ node = ap (class_in (next ++ node ∷ [])) e ∙ now in
                ap (class_in (next ++ node ∷ [])) at ∙ now ∙ sym at
            | inr a ↦ old_idle node n (omega (arith, l, a))
          ];
          alike = λ n l. elim (cases_eq n node) [
            | inl e ↦ subst (λ k. are_alike lists least (class_in (next ++ node ∷ []) k) k ≡ true) (sym e) (ap (λ k. are_alike lists least k node) now ∙ alike_refl lists least node)
            | inr a ↦ ap (λ k. are_alike lists least k n) (old node n (omega (arith, l, a))) ∙ s.alike n (omega (arith, l, a))
          ];
          first = λ m n l like. elim (cases_eq n node) [
            | inl e ↦
                let at : class_in (next ++ node ∷ []) n ≡ node = ap (class_in (next ++ node ∷ [])) e ∙ now in
                elim (cases_lt m node) [
                  | inl less ↦
                      let p = founder m less (ap (are_alike lists least m) (sym e) ∙ like) in
                      absurd (found_none (λ k. are_alike lists least k node) (list_of founders (class_in least node)) h (class_in next m) p.0 p.1)
                  | inr ge ↦ omega (arith, at, ge)
                ]
            | inr a ↦ let at = old node n (omega (arith, l, a)) in let one = s.first m n (omega (arith, l, a)) like in omega (arith, at, one)
          ];
          listed = λ c m there. elim (listed_after c m there) [
            | inl o ↦ let p = s.listed c m o in let less = p.0 in (omega (arith, less), old node m less ∙ p.1)
            | inr e ↦ (omega (arith, e), ap (class_in (next ++ node ∷ [])) e ∙ now ∙ sym e)
          ];
          founds = λ m l is. elim (cases_eq m node) [
            | inl e ↦
                ap (λ k. is_among (list_of after (class_in least k)) k) e ∙ ap (λ xs. is_among xs node) same ∙ among_new (list_of founders (class_in least node)) node
            | inr a ↦ old_listed (class_in least m) m (s.founds m (omega (arith, l, a)) (sym (old node m (omega (arith, l, a))) ∙ is))
          ];
          ascends = λ c. elim (cases_eq c (class_in least node)) [
            | inl e ↦ subst (λ k. Ascends (list_of after k)) (sym e) (subst Ascends (sym same)
                (ascends_more (list_of founders (class_in least node)) node (s.ascends (class_in least node)) (λ m there. (s.listed (class_in least node) m there).0)))
            | inr a ↦ subst Ascends (sym (others c a)) (s.ascends c)
          ];
        }
