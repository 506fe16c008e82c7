-- A pair that goes has a reason, and where some pair has neither direction left there are lines that refute it.
use Rattle.std.proofs.Common.{◌≡◌, ℕ, zero, suc, ◌<◌, ◌≤◌, Bool, true, false, not, ◌&&◌, ◌||◌, ◌⊎◌, List, [], ◌∷◌, ◌++◌, inl, inr, arith, refl, sym, ap, ◌∙◌, subst}
use Rattle.std.specs.Prelude.{is_some}
use Rattle.std.proofs.lemmas.Bool.{and_parts, and_from, or_cases, both_ways, cases_Bool, cases_lt, cond-true, cond-false, false_from_ne_true, not_from_false, not_from_true}
use Rattle.net_base.specs.declared.loc.LocSet.{LocSet}
use Rattle.net_base.specs.Sets.{holds}
use Rattle.list_law.proofs.Options.{is_some_parts, is_some-option_map}
use Rattle.graph_base.specs.declared.refutation.Removed.{Removed}
use Rattle.graph_base.specs.declared.refutation.Why.{Why}
use Rattle.graph_base.specs.declared.refutation.Why.TheVariants.{RankWorse, LoopWorse}
use Rattle.graph_base.specs.Graphs.{PlainGraph, IsGraph}
use Rattle.graph_base.specs.Refuting.{IsLine, Refutes}
use Rattle.graph_base.specs.Runs.{place_of}
use Rattle.relation_law.specs.Numbers.{any_below}
use Rattle.relation_law.specs.Relations.{IsTotal, Pair, steps_on}
use Rattle.relation_law.specs.Rounds.{IsReach, fails, fails_at, gone_after, has_answer, is_heard_there, is_looped, is_pair, left_after, same_place}
use Rattle.relation_law.specs.Views.{View, view_of}
use Rattle.graph_base.proofs.StartsAndSteps.{step_nodes}
use Rattle.relation_law.proofs.Rounds.{pair_from, pair_to}
use Rattle.relation_law.proofs.Tests.{any_at, any_found, none_at}
use Rattle.relation_law.specs.Choosing.{Goes, Rests}
use Rattle.graph_base.specs.Least.{least_below}
use Rattle.relation_law.specs.Reasons.{IsFirstFailing, IsReason, is_outranked, none, reason_at}
use Rattle.relation_law.proofs.Chains.{gone-later, goes-by, justified, least_is_some}

-- of the numbers that pass, one with the least key
least_key : (n : ℕ) (p : ℕ → Bool) (key : ℕ → ℕ) (k : ℕ) → k < n → p k ≡ true → (t : ℕ) × (t < n) × (p t ≡ true) × ((u : ℕ) → u < n → p u ≡ true → key t ≤ key u)
least_key zero p key k lt h = absurd (omega (arith, lt))
least_key (suc n) p key k lt h = elim (cases_Bool (any_below n p)) [
  | inl some ↦ (
      let x = any_found n p some in
      let low = least_key n p key x.0 x.1 x.2 in
      elim (cases_Bool (p n)) [
        | inr off ↦ (
          low.0,
          omega (arith, low.1),
          low.2,
          λ u lu pu. elim (cases_lt u n) [
            | inl t ↦ low.3 u t pu
            | inr t ↦ (let same : u ≡ n = omega (arith, lu, t) in absurd (both_ways (p n) off (ap p (sym same) ∙ pu)))
          ],
        )
        | inl on ↦ elim (cases_lt (key n) (key low.0)) [
          | inl less ↦ (
            n,
            omega arith,
            on,
            λ u lu pu. elim (cases_lt u n) [
              | inl t ↦ (let le = low.3 u t pu in omega (arith, less, le))
              | inr t ↦ (let same : u ≡ n = omega (arith, lu, t) in let keys : key u ≡ key n = ap key same in omega (arith, keys))
            ],
          )
          | inr more ↦ (
            low.0,
            omega (arith, low.1),
            low.2,
            λ u lu pu. elim (cases_lt u n) [
              | inl t ↦ low.3 u t pu
              | inr t ↦ (let same : u ≡ n = omega (arith, lu, t) in let keys : key u ≡ key n = ap key same in omega (arith, more, keys))
            ],
          )
        ]
      ])
  | inr nobody ↦ elim (cases_lt k n) [
    | inl t ↦ absurd (both_ways (p k) (none_at n p k nobody t) h)
    | inr t ↦ (
        let same : k ≡ n = omega (arith, lt, t) in (
          n,
          omega arith,
          ap p (sym same) ∙ h,
          λ u lu pu. elim (cases_lt u n) [
            | inl v ↦ absurd (both_ways (p u) (none_at n p u nobody v) pu)
            | inr v ↦ (let is : u ≡ n = omega (arith, lu, v) in let keys : key u ≡ key n = ap key is in omega (arith, keys))
          ],
        ))
  ]
]

module _ (g : PlainGraph) (claimed : LocSet) (ok : IsGraph g) (reach : ℕ → ℕ → Bool) where
  abbrev V : View
  V = view_of g claimed

  -- who has an answer that hasn't gone has one
  answer_any : (gone : ℕ → ℕ → Bool) (m t : ℕ) → has_answer V none m t ≡ false → has_answer V gone m t ≡ false
  answer_any gone m t h = false_from_ne_true (has_answer V gone m t) (λ e.
      let x = any_found V.size (λ s. steps_on V m s && (same_place V s t && not (gone s t))) e in
      let x1 = and_parts (steps_on V m x.0) _ x.2 in
      let x2 = and_parts (same_place V x.0 t) _ x1.1 in
      both_ways (has_answer V none m t) h (any_at V.size (λ s. steps_on V m s && (same_place V s t && not (none s t))) x.0 x.1
      (and_from (steps_on V m x.0) _ x1.0 (and_from (same_place V x.0 t) true x2.0 refl))))

  -- there is a reason at a step exactly where a rule fails there
  pub reason_where_failing : (gone : ℕ → ℕ → Bool) (m t : ℕ) → is_some (reason_at V reach gone m t) ≡ fails_at V reach gone m t
  reason_where_failing gone m t = elim (cases_Bool (V.hears t)) [
    | inl l ↦ elim (cases_Bool (is_heard_there V m t)) [
      | inl e ↦ ap is_some (cond-true (V.hears t) _ _ l ∙ cond-true (is_heard_there V m t) _ _ e) ∙ sym (cond-true (V.hears t) _ _ l ∙ not_from_true _ e)
      | inr e ↦ ap is_some (cond-true (V.hears t) _ _ l ∙ cond-false (is_heard_there V m t) _ _ e) ∙ sym (cond-true (V.hears t) _ _ l ∙ not_from_false _ e)
    ]
    | inr l ↦ ap is_some (cond-false (V.hears t) _ _ l) ∙ elim (cases_Bool (has_answer V none m t)) [
      | inr f ↦
          ap is_some (cond-true (not (has_answer V none m t)) _ _ (not_from_false _ f))
          ∙ sym (cond-false (V.hears t) _ _ l ∙ ap (λ b. not b || is_looped V reach gone m t) (answer_any gone m t f))
      | inl a ↦ ap is_some (cond-false (not (has_answer V none m t)) _ _ (not_from_true _ a)) ∙ elim (cases_Bool (has_answer V gone m t)) [
        | inr f ↦ ap is_some (cond-true (not (has_answer V gone m t)) _ _ (not_from_false _ f)) ∙ sym (cond-false (V.hears t) _ _ l ∙ ap (λ b. not b || is_looped V reach gone m t) f)
        | inl b ↦ ap is_some (cond-false (not (has_answer V gone m t)) _ _ (not_from_true _ b))
            ∙ is_some-option_map (LoopWorse (place_of g t)) (least_below V.size (λ k. same_place V k t && (reach k m && gone k t)))
            ∙ least_is_some V.size (λ k. same_place V k t && (reach k m && gone k t))
            ∙ sym (cond-false (V.hears t) _ _ l ∙ ap (λ b. not b || is_looped V reach gone m t) b)
      ]
    ]
  ]

  -- what fails has a reason
  pub is_reason : (gone : ℕ → ℕ → Bool) (m n : ℕ) → fails V reach gone m n ≡ true → (why : Why) × IsReason V reach gone m n why
  is_reason gone m n h = elim (cases_Bool (is_outranked V m n)) [
    | inl worse ↦ (RankWorse, inl (worse, refl))
    | inr better ↦ (
        let some : any_below V.size (λ t. V.step n t && fails_at V reach gone m t) ≡ true =
        elim (or_cases (is_outranked V m n) (any_below V.size (λ t. V.step n t && fails_at V reach gone m t)) h)
        [ inl e ↦ absurd (both_ways _ better e) | inr e ↦ e ] in
        let x = any_found V.size (λ t. V.step n t && fails_at V reach gone m t) some in
        let t = least_key V.size (λ t. V.step n t && fails_at V reach gone m t) V.place x.0 x.1 x.2 in
        let parts = and_parts (V.step n t.0) (fails_at V reach gone m t.0) t.2 in
        let found = reason_where_failing gone m t.0 ∙ parts.1 in
        let why = is_some_parts (reason_at V reach gone m t.0) found in
        let first_here : IsFirstFailing V reach gone m n t.0 = record {
          step = parts.0;
          fails = found;
          first = λ u st fl. t.3 u (step_nodes g n u ok st).1 (and_from (V.step n u) (fails_at V reach gone m u) st (sym (reason_where_failing gone m u) ∙ fl));
        } in
        (why.0, inr (better, (t.0, first_here, why.1))))
  ]

  pub goes_where_gone : (rounds m n : ℕ) → Pair V m n → gone_after V reach rounds m n ≡ true → (round : ℕ) × (why : Why) × Goes V reach m n round why
  goes_where_gone zero m n pair h = absurd (cc)
  goes_where_gone (suc r) m n pair h = elim (cases_Bool (gone_after V reach r m n)) [
    | inl e ↦ goes_where_gone r m n pair e
    | inr e ↦ (
        let fell : fails V reach (gone_after V reach r) m n ≡ true = elim (or_cases (gone_after V reach r m n) _ h) [ inl t ↦ absurd (both_ways _ e t) | inr t ↦ t ] in
        let why = is_reason (gone_after V reach r) m n fell in
        (suc r, why.0, record { pair = pair; before = r; next = refl; stayed = e; fell = fell; reason = why.1 }))
  ]

-- ---- lists of lines

line_left : (xs ys : List Removed) (l : Removed) → IsLine xs l → IsLine (xs ++ ys) l
line_left [] ys l (i, h) = absurd (cc)
line_left (x ∷ xs) ys l (zero, h) = (0, h)
line_left (x ∷ xs) ys l (suc i, h) = (let a = line_left xs ys l (i, h) in (suc a.0, a.1))

line_right : (xs ys : List Removed) (l : Removed) → IsLine ys l → IsLine (xs ++ ys) l
line_right [] ys l is = is
line_right (x ∷ xs) ys l is = (let a = line_right xs ys l is in (suc a.0, a.1))

line_split : (xs ys : List Removed) (l : Removed) → IsLine (xs ++ ys) l → IsLine xs l ⊎ IsLine ys l
line_split [] ys l is = inr is
line_split (x ∷ xs) ys l (zero, h) = inl (0, h)
line_split (x ∷ xs) ys l (suc i, h) = elim (line_split xs ys l (i, h)) [
  | inl a ↦ inl (suc a.0, a.1)
  | inr a ↦ inr a
]

over : ℕ → (ℕ → List Removed) → List Removed
over zero f = []
over (suc n) f = f n ++ over n f

over_in : (n k : ℕ) (f : ℕ → List Removed) (l : Removed) → k < n → IsLine (f k) l → IsLine (over n f) l
unfolding over
over_in zero k f l lt is = absurd (omega (arith, lt))
over_in (suc n) k f l lt is = elim (cases_lt k n) [
  | inl t ↦ line_right (f n) (over n f) l (over_in n k f l t is)
  | inr t ↦ (let same : k ≡ n = omega (arith, lt, t) in line_left (f n) (over n f) l (subst (λ j. IsLine (f j) l) same is))
]

over_from : (n : ℕ) (f : ℕ → List Removed) (l : Removed) → IsLine (over n f) l → (k : ℕ) × (k < n) × IsLine (f k) l
unfolding over
over_from zero f l (i, h) = absurd (cc)
over_from (suc n) f l is = elim (line_split (f n) (over n f) l is) [
  | inl here ↦ (n, omega arith, here)
  | inr there ↦ (let x = over_from n f l there in (x.0, omega (arith, x.1), x.2))
]

module _ (g : PlainGraph) (claimed : LocSet) (ok : IsGraph g) (reach : ℕ → ℕ → Bool) (exact : IsReach (view_of g claimed) reach) (rounds : ℕ) where
  abbrev V' : View
  V' = view_of g claimed

  abbrev went : ℕ → ℕ → Bool
  went m n = is_pair V' m n && gone_after V' reach rounds m n

  -- the line of a pair that has gone
  lines_at : (m n : ℕ) (b : Bool) → went m n ≡ b → List Removed
  lines_at m n false e = []
  lines_at m n true e =
      let parts = and_parts (is_pair V' m n) (gone_after V' reach rounds m n) e in
      let x = goes_where_gone g claimed ok reach rounds m n (pair_from V' m n parts.0) parts.1 in
      record { better = m; worse = n; round = x.0; why = x.1 } ∷ []

  all_lines : List Removed
  all_lines = over V'.size (λ m. over V'.size (λ n. lines_at m n (went m n) refl))

  line_here : (m n : ℕ) (b : Bool) (e : went m n ≡ b) → b ≡ true → (l : Removed) × IsLine (lines_at m n b e) l × (l.better ≡ m) × (l.worse ≡ n)
  unfolding lines_at
  line_here m n false e h = absurd (cc)
  line_here m n true e h =
      let parts = and_parts (is_pair V' m n) (gone_after V' reach rounds m n) e in
      let x = goes_where_gone g claimed ok reach rounds m n (pair_from V' m n parts.0) parts.1 in
      (record { better = m; worse = n; round = x.0; why = x.1 }, (0, refl), refl, refl)

  line_goes : (m n : ℕ) (b : Bool) (e : went m n ≡ b) (l : Removed) → IsLine (lines_at m n b e) l → Goes V' reach l.better l.worse l.round l.why
  unfolding lines_at
  line_goes m n false e l (i, h) = absurd (cc)
  line_goes m n true e l (zero, h) =
      let parts = and_parts (is_pair V' m n) (gone_after V' reach rounds m n) e in
      let x = goes_where_gone g claimed ok reach rounds m n (pair_from V' m n parts.0) parts.1 in
      let line : Removed = record { better = m; worse = n; round = x.0; why = x.1 } in
      let same : line ≡ l = cc in
      subst (λ (k : Removed). Goes V' reach k.better k.worse k.round k.why) same x.2
  line_goes m n true e l (suc i, h) = absurd (cc)

  falls : (l : Removed) → IsLine all_lines l → Goes V' reach l.better l.worse l.round l.why
  unfolding all_lines
  falls l is =
      let a = over_from V'.size (λ m. over V'.size (λ n. lines_at m n (went m n) refl)) l is in
      let b = over_from V'.size (λ n. lines_at a.0 n (went a.0 n) refl) l a.2 in
      line_goes a.0 b.0 (went a.0 b.0) refl l b.2

  line_of : (m n : ℕ) → Pair V' m n → gone_after V' reach rounds m n ≡ true → (l : Removed) × IsLine all_lines l × (l.better ≡ m) × (l.worse ≡ n)
  unfolding all_lines
  line_of m n pair gone =
      let x = line_here m n (went m n) refl (and_from (is_pair V' m n) (gone_after V' reach rounds m n) (pair_to V' m n pair) gone) in
      (x.0, over_in V'.size m (λ m. over V'.size (λ n. lines_at m n (went m n) refl)) x.0 pair.left (over_in V'.size n (λ n. lines_at m n (went m n) refl) x.0 pair.right x.1), x.2, x.3)

  line_gone : (m n : ℕ) (b : Bool) (e : went m n ≡ b) (l : Removed) → IsLine (lines_at m n b e) l → gone_after V' reach rounds l.better l.worse ≡ true
  unfolding lines_at
  line_gone m n false e l (i, h) = absurd (cc)
  line_gone m n true e l (zero, h) =
      let parts = and_parts (is_pair V' m n) (gone_after V' reach rounds m n) e in
      let x = goes_where_gone g claimed ok reach rounds m n (pair_from V' m n parts.0) parts.1 in
      let line : Removed = record { better = m; worse = n; round = x.0; why = x.1 } in
      let same : line ≡ l = cc in
      subst (λ (k : Removed). gone_after V' reach rounds k.better k.worse ≡ true) same parts.1
  line_gone m n true e l (suc i, h) = absurd (cc)

  is_gone : (l : Removed) → IsLine all_lines l → gone_after V' reach rounds l.better l.worse ≡ true
  unfolding all_lines
  is_gone l is =
      let a = over_from V'.size (λ m. over V'.size (λ n. lines_at m n (went m n) refl)) l is in
      let b = over_from V'.size (λ n. lines_at a.0 n (went a.0 n) refl) l a.2 in
      line_gone a.0 b.0 (went a.0 b.0) refl l b.2

  under : (l : Removed) (is : IsLine all_lines l) (a b : ℕ) → Rests V' l.better l.worse l.why a b → Pair V' a b
      → gone_after V' reach (falls l is).before a b ≡ true → (k : Removed) × IsLine all_lines k × (k.better ≡ a) × (k.worse ≡ b)
  under l is a b rests pair gone =
      let most = goes-by g claimed ok reach exact l.better l.worse l.round rounds l.why (falls l is) (is_gone l is) in
      line_of a b pair (gone-later g claimed ok reach exact (falls l is).before rounds a b (omega (arith, most, (falls l is).next)) gone)

  -- a pair of which neither direction is left is refuted
  both_gone : (m n : ℕ) → Pair V' m n → gone_after V' reach rounds m n ≡ true → gone_after V' reach rounds n m ≡ true → Refutes g (holds claimed) m n all_lines
  both_gone m n pair one other = record {
    each = justified g claimed ok reach exact all_lines falls under;
    one = line_of m n pair one;
    other = line_of n m (record { left = pair.right; right = pair.left; place = sym pair.place }) other;
  }

  lost : ℕ → ℕ → Bool
  lost m n = is_pair V' m n && (gone_after V' reach rounds m n && gone_after V' reach rounds n m)

  pub refuted_where_open : (IsTotal V' (left_after V' reach rounds) → ⊥) → (first second : ℕ) × (lines : List Removed) × Refutes g (holds claimed) first second lines
  unfolding lost
  refuted_where_open partial = elim (cases_Bool (any_below V'.size (λ m. any_below V'.size (lost m)))) [
    | inl some ↦ (
        let m = any_found V'.size (λ m. any_below V'.size (lost m)) some in
        let n = any_found V'.size (lost m.0) m.2 in
        let parts = and_parts (is_pair V' m.0 n.0) _ n.2 in
        let gone = and_parts (gone_after V' reach rounds m.0 n.0) (gone_after V' reach rounds n.0 m.0) parts.1 in
        (m.0, n.0, all_lines, both_gone m.0 n.0 (pair_from V' m.0 n.0 parts.0) gone.0 gone.1))
    | inr nobody ↦ absurd (partial (λ m n pair. (
        let row = none_at V'.size (λ m. any_below V'.size (lost m)) m nobody pair.left in
        let cell = none_at V'.size (lost m) n row pair.right in
        elim (cases_Bool (gone_after V' reach rounds m n)) [
          | inr stays ↦ inl (and_from (is_pair V' m n) _ (pair_to V' m n pair) (not_from_false _ stays))
          | inl gone ↦ elim (cases_Bool (gone_after V' reach rounds n m)) [
            | inr stays ↦ inr (and_from (is_pair V' n m) _ (pair_to V' n m (record { left = pair.right; right = pair.left; place = sym pair.place })) (not_from_false _ stays))
            | inl also ↦ absurd (both_ways _ cell (and_from (is_pair V' m n) _ (pair_to V' m n pair) (and_from (gone_after V' reach rounds m n) _ gone also)))
          ]
        ])))
  ]
