-- Where everything has failed but a path, there is no other way from its first place to an origin.
use Rattle.std.proofs.Common.{◌≡◌, ℕ, Bool, true, false, List, [], ◌∷◌, ◌++◌, refl, sym, ap, ap₂, ◌∙◌, subst, append_assoc, cond, inl, inr}
use Rattle.std.specs.Prelude.{◌&&◌, ◌||◌, ◌==◌, not, filter}
use Rattle.std.specs.List.{list_any}
use Rattle.std.proofs.lemmas.Bool.{and_from, and_parts, cases_Bool, eq-eqb, eqb-true, false_from_ne_true, not-true, not_from_false, or_cases, or_from, or_left, or_parts, or_right, true≢false}
use Rattle.net_base.specs.Locations.{in_order}
use Rattle.net_base.specs.Network.{PlainNet, is_peer, joins, linked}
use Rattle.net_base.proofs.Links.{joins_ends}
use Rattle.policy_base.specs.Meaning.{at_last, front, some_step}
use Rattle.policy_base.specs.Walks.{is_loop_free, steps_linked}
use Rattle.policy_base.specs.Permitted.{ends_at_origin}
use Rattle.outcome_base.specs.Outcomes.{ends_heard, is_dead, is_dead_link, passes_live, survives}
use Rattle.compare_law.specs.Laws.{all_but}

-- ---- what a test keeps

filter_never : {A : Type 0} (p q : A → Bool) (xs : List A) → ((x : A) → q x ≡ true → p x ≡ false) → list_any q (filter p xs) ≡ false
filter_never p q [] apart = refl
filter_never p q (x ∷ xs) apart = elim (cases_Bool (p x)) [
  | inl kept ↦
      ap (λ b. list_any q (cond b (x ∷ filter p xs) (filter p xs))) kept
      ∙ or_from (q x) (list_any q (filter p xs)) (false_from_ne_true (q x) (λ is. true≢false (sym kept ∙ apart x is))) (filter_never p q xs apart)
  | inr dropped ↦ ap (λ b. list_any q (cond b (x ∷ filter p xs) (filter p xs))) dropped ∙ filter_never p q xs apart
]

-- what some item passes, and none that is kept, an item passes that isn't kept
passed_over : {A : Type 0} (p q : A → Bool) (xs : List A) → list_any q xs ≡ true → list_any q (filter p xs) ≡ false → (x : A) × (q x ≡ true) × (p x ≡ false)
passed_over p q [] some none = absurd (true≢false (sym some))
passed_over p q (x ∷ xs) some none = elim (cases_Bool (p x)) [
  | inr dropped ↦ elim (or_cases (q x) (list_any q xs) some) [
    | inl is ↦ (x, is, dropped)
    | inr later ↦ passed_over p q xs later (sym (ap (λ b. list_any q (cond b (x ∷ filter p xs) (filter p xs))) dropped) ∙ none)
  ]
  | inl kept ↦
      let rest = or_parts (q x) (list_any q (filter p xs)) (sym (ap (λ b. list_any q (cond b (x ∷ filter p xs) (filter p xs))) kept) ∙ none) in
      elim (or_cases (q x) (list_any q xs) some) [
        | inl is ↦ absurd (true≢false (sym is ∙ rest.0))
        | inr later ↦ passed_over p q xs later rest.1
      ]
]

-- ---- places of a list

any_there : (l : ℕ) (us vs : List ℕ) → list_any (λ k. k == l) (us ++ l ∷ vs) ≡ true
any_there l [] vs = or_left (l == l) (list_any (λ k. k == l) vs) (eq-eqb l l refl)
any_there l (u ∷ us) vs = or_right (u == l) (list_any (λ k. k == l) (us ++ l ∷ vs)) (any_there l us vs)

step_there : (t : ℕ → ℕ → Bool) (a b : ℕ) (us vs : List ℕ) → t a b ≡ true → some_step t (us ++ a ∷ b ∷ vs) ≡ true
step_there t a b [] vs is = or_left (t a b) (some_step t (b ∷ vs)) is
step_there t a b (u ∷ []) vs is = or_right (t u a) (some_step t (a ∷ b ∷ vs)) (step_there t a b [] vs is)
step_there t a b (u ∷ w ∷ us) vs is = or_right (t u w) (some_step t (w ∷ us ++ a ∷ b ∷ vs)) (step_there t a b (w ∷ us) vs is)

-- a step that passes a test stands somewhere
pub record HasStep (t : ℕ → ℕ → Bool) (path : List ℕ) : Type 0 where
  pub before : List ℕ
  pub from : ℕ
  pub to : ℕ
  pub after : List ℕ
  pub is : path ≡ before ++ from ∷ to ∷ after
  pub meets : t from to ≡ true

step_parts : (t : ℕ → ℕ → Bool) (path : List ℕ) → some_step t path ≡ true → HasStep t path
step_parts t [] some = absurd (true≢false (sym some))
step_parts t (l ∷ []) some = absurd (true≢false (sym some))
step_parts t (l ∷ k ∷ ls) some = elim (or_cases (t l k) (some_step t (k ∷ ls)) some) [
  | inl is ↦ record { before = []; from = l; to = k; after = ls; is = refl; meets = is }
  | inr later ↦
      let x = step_parts t (k ∷ ls) later in
      record { before = l ∷ x.before; from = x.from; to = x.to; after = x.after; is = ap (λ (q : List ℕ). l ∷ q) x.is; meets = x.meets }
]

-- what stands in front of a place doesn't stand behind it
apart : (z : ℕ) (us vs : List ℕ) → is_loop_free (us ++ z ∷ vs) ≡ true → list_any (λ k. k == z) vs ≡ false
apart z [] vs free = not-true _ (and_parts (not (list_any (λ k. k == z) vs)) (is_loop_free vs) free).0
apart z (u ∷ us) vs free = apart z us vs (and_parts (not (list_any (λ k. k == u) (us ++ z ∷ vs))) (is_loop_free (us ++ z ∷ vs)) free).1

same_head : (x y : ℕ) (xs ys : List ℕ) → x ∷ xs ≡ y ∷ ys → x ≡ y
same_head x y xs ys e = cc

same_tail : (x y : ℕ) (xs ys : List ℕ) → x ∷ xs ≡ y ∷ ys → xs ≡ ys
same_tail x y xs ys e = cc

-- a list without loops comes to a place once
once : (x : ℕ) (us vs bs ws : List ℕ) → is_loop_free (us ++ x ∷ vs) ≡ true → us ++ x ∷ vs ≡ bs ++ x ∷ ws → (us ≡ bs) × (vs ≡ ws)
once x [] vs [] ws free e = (refl, same_tail x x vs ws e)
once x [] vs (b ∷ bs) ws free e =
    let here : is_loop_free ((b ∷ bs) ++ x ∷ ws) ≡ true = ap is_loop_free (sym e) ∙ free in
    let none = not-true _ (and_parts (not (list_any (λ k. k == b) (bs ++ x ∷ ws))) (is_loop_free (bs ++ x ∷ ws)) here).0 in
    absurd (true≢false (sym (any_there x bs ws) ∙ ap (λ l. list_any (λ k. k == l) (bs ++ x ∷ ws)) (same_head x b vs (bs ++ x ∷ ws) e) ∙ none))
once x (u ∷ us) vs [] ws free e =
    let none = not-true _ (and_parts (not (list_any (λ k. k == u) (us ++ x ∷ vs))) (is_loop_free (us ++ x ∷ vs)) free).0 in
    absurd (true≢false (sym (any_there x us vs) ∙ ap (λ l. list_any (λ k. k == l) (us ++ x ∷ vs)) (sym (same_head u x (us ++ x ∷ vs) ws e)) ∙ none))
once x (u ∷ us) vs (b ∷ bs) ws free e =
    let rest = (and_parts (not (list_any (λ k. k == u) (us ++ x ∷ vs))) (is_loop_free (us ++ x ∷ vs)) free).1 in
    let more = once x us vs bs ws rest (same_tail u b (us ++ x ∷ vs) (bs ++ x ∷ ws) e) in
    (ap₂ (λ (l : ℕ) (ls : List ℕ). l ∷ ls) (same_head u b (us ++ x ∷ vs) (bs ++ x ∷ ws) e) more.0, more.1)

-- ---- the path survives

module _ (net : PlainNet) (path : List ℕ) where
  place_lives : (us vs : List ℕ) (l : ℕ) → path ≡ us ++ l ∷ vs → is_dead (all_but net path) l ≡ false
  place_lives us vs l is =
      filter_never (λ d. not (list_any (λ k. k == d) path)) (λ d. d == l) (in_order net)
      (λ d same. ap not (ap (λ m. list_any (λ k. k == m) path) (eqb-true d l same) ∙ ap (list_any (λ k. k == l)) is ∙ any_there l us vs))

  link_lives : (us vs : List ℕ) (l k : ℕ) → path ≡ us ++ l ∷ k ∷ vs → is_dead_link (all_but net path) l k ≡ false
  link_lives us vs l k is =
      filter_never (λ link. not (some_step (λ a b. joins a b link) path)) (joins l k) net.links
      (λ link joined. ap not (ap (some_step (λ a b. joins a b link)) is ∙ step_there (λ a b. joins a b link) l k us vs joined))

  passes : (us vs : List ℕ) → path ≡ us ++ vs → passes_live (all_but net path) vs ≡ true
  passes us [] is = refl
  passes us (l ∷ []) is = not_from_false (is_dead (all_but net path) l) (place_lives us [] l is)
  passes us (l ∷ k ∷ ls) is =
      and_from (not (is_dead (all_but net path) l) && not (is_dead_link (all_but net path) l k)) (passes_live (all_but net path) (k ∷ ls))
      (and_from (not (is_dead (all_but net path) l)) (not (is_dead_link (all_but net path) l k)) (not_from_false _ (place_lives us (k ∷ ls) l is)) (not_from_false _ (link_lives us ls l k is)))
      (passes (us ++ l ∷ []) (k ∷ ls) (is ∙ sym (append_assoc us (l ∷ []) (k ∷ ls))))

  unsilenced : (b : Bool) → not (b && false) ≡ true
  unsilenced true = refl
  unsilenced false = refl

  heard : (ls : List ℕ) → ends_heard net (all_but net path) ls ≡ true
  heard [] = refl
  heard (l ∷ []) = refl
  heard (r ∷ p ∷ []) = unsilenced (is_peer net p)
  heard (l ∷ k ∷ j ∷ ls) = heard (k ∷ j ∷ ls)

  pub path_survives : survives net (all_but net path) path ≡ true
  path_survives = and_from (passes_live (all_but net path) path) (ends_heard net (all_but net path) path) (passes [] path refl) (heard path)

  -- ---- no other way

  -- two places with a live link are neighbours on the path
  neighbours : (x z : ℕ) → linked net x z ≡ true → is_dead_link (all_but net path) x z ≡ false → HasStep (λ a b. (a == x && b == z) || (a == z && b == x)) path
  neighbours x z link lives =
      let on = passed_over (λ e. not (some_step (λ a b. joins a b e) path)) (joins x z) net.links link lives in
      let step = step_parts (λ a b. joins a b on.0) path (not_false (some_step (λ a b. joins a b on.0) path) on.2) in
      record { before = step.before; from = step.from; to = step.to; after = step.after; is = step.is; meets = same_link x z step.from step.to on.0 on.1 step.meets }
    where
      not_false : (b : Bool) → not b ≡ false → b ≡ true
      not_false true e = refl
      not_false false e = absurd (true≢false e)

      straight : (x z a b : ℕ) → a ≡ x → b ≡ z → ((a == x && b == z) || (a == z && b == x)) ≡ true
      straight x z a b one two = or_left (a == x && b == z) (a == z && b == x) (and_from (a == x) (b == z) (eq-eqb a x one) (eq-eqb b z two))

      turned : (x z a b : ℕ) → a ≡ z → b ≡ x → ((a == x && b == z) || (a == z && b == x)) ≡ true
      turned x z a b one two = or_right (a == x && b == z) (a == z && b == x) (and_from (a == z) (b == x) (eq-eqb a z one) (eq-eqb b x two))

      same_link : (x z a b : ℕ) (e : ℕ × ℕ) → joins x z e ≡ true → joins a b e ≡ true → ((a == x && b == z) || (a == z && b == x)) ≡ true
      same_link x z a b e one two = elim (joins_ends x z e one) [
        | inl s ↦ elim (joins_ends a b e two) [
          | inl t ↦ straight x z a b (sym t.0 ∙ s.0) (sym t.1 ∙ s.1)
          | inr t ↦ turned x z a b (sym t.1 ∙ s.1) (sym t.0 ∙ s.0)
        ]
        | inr s ↦ elim (joins_ends a b e two) [
          | inl t ↦ turned x z a b (sym t.0 ∙ s.0) (sym t.1 ∙ s.1)
          | inr t ↦ straight x z a b (sym t.1 ∙ s.1) (sym t.0 ∙ s.0)
        ]
      ]

  module _ (origin : ℕ → Bool) (free : is_loop_free path ≡ true) where
    -- only the next place of the path is linked to a place and not behind it
    next_place : (before ys zs : List ℕ) (x y z : ℕ) → path ≡ before ++ x ∷ y ∷ ys → is_loop_free (before ++ x ∷ z ∷ zs) ≡ true → linked net x z ≡ true
        → is_dead_link (all_but net path) x z ≡ false → y ≡ z
    next_place before ys zs x y z is apart_too link lives = elim (or_cases (step.from == x && step.to == z) (step.from == z && step.to == x) step.meets) [
      | inl ahead ↦
          let ends = and_parts (step.from == x) (step.to == z) ahead in
          let at : path ≡ step.before ++ x ∷ z ∷ step.after =
          step.is ∙ ap₂ (λ (a b : ℕ). step.before ++ a ∷ b ∷ step.after) (eqb-true step.from x ends.0) (eqb-true step.to z ends.1) in
          let same = once x before (y ∷ ys) step.before (z ∷ step.after) (ap is_loop_free (sym is) ∙ free) (sym is ∙ at) in
          same_head y z ys step.after same.1
      | inr back ↦
          let ends = and_parts (step.from == z) (step.to == x) back in
          let at : path ≡ step.before ++ z ∷ x ∷ step.after =
          step.is ∙ ap₂ (λ (a b : ℕ). step.before ++ a ∷ b ∷ step.after) (eqb-true step.from z ends.0) (eqb-true step.to x ends.1) in
          let moved : path ≡ (step.before ++ z ∷ []) ++ x ∷ step.after = at ∙ sym (append_assoc step.before (z ∷ []) (x ∷ step.after)) in
          let same = once x before (y ∷ ys) (step.before ++ z ∷ []) step.after (ap is_loop_free (sym is) ∙ free) (sym is ∙ moved) in
          let other : before ++ x ∷ z ∷ zs ≡ step.before ++ z ∷ x ∷ z ∷ zs =
          ap (λ (q : List ℕ). q ++ x ∷ z ∷ zs) same.0 ∙ append_assoc step.before (z ∷ []) (x ∷ z ∷ zs) in
          let none = apart z step.before (x ∷ z ∷ zs) (ap is_loop_free (sym other) ∙ apart_too) in
          absurd (true≢false (sym (any_there z (x ∷ []) zs) ∙ none))
    ]
      where
        step : HasStep (λ a b. (a == x && b == z) || (a == z && b == x)) path
        step = neighbours x z link lives

    -- a walk that has come along the path so far goes on along it, to its end
    pub one_way : (before : List ℕ) (x : ℕ) (xs zs : List ℕ) → path ≡ before ++ x ∷ xs → is_loop_free (before ++ x ∷ zs) ≡ true
        → ends_at_origin origin (x ∷ xs) ≡ true → ends_at_origin origin (x ∷ zs) ≡ true → steps_linked net (x ∷ zs) ≡ true → passes_live (all_but net path) (x ∷ zs) ≡ true → xs ≡ zs
    one_way before x [] [] is other ends ends_too links lives = refl
    one_way before x [] (z ∷ zs) is other ends ends_too links lives =
        let own : origin x ≡ true = (and_parts (at_last origin (x ∷ [])) (not (list_any origin (front (x ∷ [])))) ends).0 in
        let none = not-true _ (and_parts (at_last origin (x ∷ z ∷ zs)) (not (list_any origin (front (x ∷ z ∷ zs)))) ends_too).1 in
        absurd (true≢false (sym own ∙ (or_parts (origin x) (list_any origin (front (z ∷ zs))) none).0))
    one_way before x (y ∷ ys) [] is other ends ends_too links lives =
        let own : origin x ≡ true = (and_parts (at_last origin (x ∷ [])) (not (list_any origin (front (x ∷ [])))) ends_too).0 in
        let none = not-true _ (and_parts (at_last origin (x ∷ y ∷ ys)) (not (list_any origin (front (x ∷ y ∷ ys)))) ends).1 in
        absurd (true≢false (sym own ∙ (or_parts (origin x) (list_any origin (front (y ∷ ys))) none).0))
    one_way before x (y ∷ ys) (z ∷ zs) is other ends ends_too links lives =
        let link = and_parts (linked net x z) (steps_linked net (z ∷ zs)) links in
        let live = and_parts (not (is_dead (all_but net path) x) && not (is_dead_link (all_but net path) x z)) (passes_live (all_but net path) (z ∷ zs)) lives in
        let unbroken = not-true _ (and_parts (not (is_dead (all_but net path) x)) (not (is_dead_link (all_but net path) x z)) live.0).1 in
        let same : y ≡ z = next_place before ys zs x y z is other link.0 unbroken in
        let on : path ≡ (before ++ x ∷ []) ++ z ∷ ys = is ∙ ap (λ (l : ℕ). before ++ x ∷ l ∷ ys) same ∙ sym (append_assoc before (x ∷ []) (z ∷ ys)) in
        let rest = one_way (before ++ x ∷ []) z ys zs on (ap is_loop_free (append_assoc before (x ∷ []) (z ∷ zs)) ∙ other)
        (later_end z ys (subst (λ (l : ℕ). ends_at_origin origin (x ∷ l ∷ ys) ≡ true) same ends)) (later_end z zs ends_too) link.1 live.1 in
        ap₂ (λ (l : ℕ) (ls : List ℕ). l ∷ ls) same rest
      where
        later_end : (k : ℕ) (ls : List ℕ) → ends_at_origin origin (x ∷ k ∷ ls) ≡ true → ends_at_origin origin (k ∷ ls) ≡ true
        later_end k ls e =
            let parts = and_parts (at_last origin (x ∷ k ∷ ls)) (not (list_any origin (front (x ∷ k ∷ ls)))) e in
            let none = (or_parts (origin x) (list_any origin (front (k ∷ ls))) (not-true _ parts.1)).1 in
            and_from (at_last origin (k ∷ ls)) (not (list_any origin (front (k ∷ ls)))) parts.0 (not_from_false _ none)
