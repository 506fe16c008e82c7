-- What is told, and what is forgotten, one direction after another.
use Rattle.std.proofs.Common.{◌≡◌, ℕ, Bool, true, false, not, ◌&&◌, ◌||◌, List, [], ◌∷◌, ◌++◌, Option, None, inl, inr, refl, sym, ap, ◌∙◌}
use Rattle.std.specs.Prelude.{if◌then◌else◌, ◌==◌}
use Rattle.std.specs.List.{list_any}
use Rattle.std.proofs.lemmas.Bool.{and_parts, and_left, cases_Bool, cond-true, cond-false, eqb-true}
use Rattle.std.proofs.lemmas.List.Folds.{list_any-append}
use Rattle.std.proofs.Math.Bool.{or-false}
use Rattle.event_base.specs.World.{Speakers, World, emptied, exported, is, joins, live, owes, tell}
use Rattle.event_core.proofs.OneGo.{told_once}

-- what some of these have
abbrev pub some : {A : Type 0} → (A → ℕ → ℕ → Bool) → List A → ℕ → ℕ → Bool
some p us x y = list_any (λ u. p u x y) us

one_more : {A : Type 0} (p : A → ℕ → ℕ → Bool) (us : List A) (u : A) (x y : ℕ) → (some p us x y || p u x y) ≡ some p (us ++ u ∷ []) x y
one_more p us u x y = sym (list_any-append (λ u. p u x y) us (u ∷ []) ∙ ap (λ z. some p us x y || z) (or-false (p u x y)))

module _ {R : Type 0} (S : Speakers R) where
  -- two sets of directions that agree where sessions are live
  pub told_alike : (p q : ℕ → ℕ → Bool) (w : World R) → ((a b : ℕ) → live S w a b ≡ true → p a b ≡ q a b) → tell S p w ≡ tell S q w
  told_alike p q w h = λ i. record w {
    queue = λ a b. if same a b i then w.queue a b ++ exported S w a b ∷ [] else w.queue a b;
    queued = λ a b. if same a b i then exported S w a b else w.queued a b;
  }
    where
      agree : (c d l e : Bool) → (l ≡ true → c ≡ d) → (c && (l && e)) ≡ (d && (l && e))
      agree c d true e h = ap (λ z. z && e) (h refl)
      agree true true false e h = refl
      agree true false false e h = refl
      agree false true false e h = refl
      agree false false false e h = refl

      same : (a b : ℕ) → (p a b && owes S w a b) ≡ (q a b && owes S w a b)
      same a b = agree (p a b) (q a b) (live S w a b) (not (S.same (exported S w a b) (w.queued a b))) (h a b)

  -- where nothing is owed nothing is told
  pub told_nothing : (p : ℕ → ℕ → Bool) (w : World R) → ((a b : ℕ) → p a b ≡ true → owes S w a b ≡ false) → w ≡ tell S p w
  told_nothing p w h = λ i. record w {
    queue = λ a b. sym (cond-false (p a b && owes S w a b) (w.queue a b ++ exported S w a b ∷ []) (w.queue a b) (none a b)) i;
    queued = λ a b. sym (cond-false (p a b && owes S w a b) (exported S w a b) (w.queued a b) (none a b)) i;
  }
    where
      off : (c o : Bool) → (c ≡ true → o ≡ false) → (c && o) ≡ false
      off true o h = h refl
      off false o h = refl

      none : (a b : ℕ) → (p a b && owes S w a b) ≡ false
      none a b = off (p a b) (owes S w a b) (h a b)

  pub told_none : (a b : ℕ) (w : World R) → owes S w a b ≡ false → w ≡ tell S (is a b) w
  told_none a b w o = told_nothing (is a b) w (λ x y t. let p = and_parts (x == a) (y == b) t in ap (λ z. owes S w z y) (eqb-true x a p.0) ∙ ap (owes S w a) (eqb-true y b p.1) ∙ o)

  -- who owes something queues it
  module _ (a b : ℕ) (w : World R) (o : owes S w a b ≡ true) where
    abbrev said : World R
    said = record w {
      queue = λ x y. if is a b x y then w.queue a b ++ exported S w a b ∷ [] else w.queue x y;
      queued = λ x y. if is a b x y then exported S w a b else w.queued x y;
    }

    one : {A : Type 0} (new old : ℕ → ℕ → A) (x y : ℕ) → (if is a b x y then new a b else old x y) ≡ (if is a b x y && owes S w x y then new x y else old x y)
    one new old x y = elim (cases_Bool (is a b x y)) [
      | inl t ↦ (
          let p = and_parts (x == a) (y == b) t in
          let first = eqb-true x a p.0 in
          let second = eqb-true y b p.1 in
          let both = ap (λ z. is a b x y && owes S w z y) first ∙ ap (λ z. is a b x y && owes S w a z) second ∙ ap (λ z. is a b x y && z) o ∙ ap (λ z. z && true) t in
          cond-true (is a b x y) (new a b) (old x y) t ∙ sym (ap (λ z. new z b) first) ∙ sym (ap (new x) second) ∙ sym (cond-true (is a b x y && owes S w x y) (new x y) (old x y) both))
      | inr f ↦ cond-false (is a b x y) (new a b) (old x y) f ∙ sym (cond-false (is a b x y && owes S w x y) (new x y) (old x y) (and_left (is a b x y) (owes S w x y) f))
    ]

    pub told_one : said ≡ tell S (is a b) w
    told_one = λ i. record w {
      queue = λ x y. one (λ u v. w.queue u v ++ exported S w u v ∷ []) w.queue x y i;
      queued = λ x y. one (exported S w) w.queued x y i;
    }

  -- ---- one after another

  pub told_first : {A : Type 0} (p : A → ℕ → ℕ → Bool) (w : World R) → w ≡ tell S (some p []) w
  told_first p w = refl

  pub told_next : (own : (m : Option R) → S.same m m ≡ true) {A : Type 0} (p : A → ℕ → ℕ → Bool) (us : List A) (u : A) (w : World R)
      → tell S (p u) (tell S (some p us) w) ≡ tell S (some p (us ++ u ∷ [])) w
  told_next own p us u w = told_once S own (some p us) (p u) w ∙ ap (λ (q : ℕ → ℕ → Bool). tell S q w) (λ i x y. one_more p us u x y i)

  emptied_once : (p q : ℕ → ℕ → Bool) (w : World R) → emptied S q (emptied S p w) ≡ emptied S (λ x y. p x y || q x y) w
  emptied_once p q w = λ i. record w {
    queue = λ x y. either (p x y) (q x y) [] (w.queue x y) i;
    heard = λ x y. either (p x y) (q x y) None (w.heard x y) i;
    queued = λ x y. either (p x y) (q x y) None (w.queued x y) i;
  }
    where
      either : {A : Type 0} (c d : Bool) (v old : A) → (if d then v else (if c then v else old)) ≡ (if c || d then v else old)
      either true true v old = refl
      either true false v old = refl
      either false true v old = refl
      either false false v old = refl

  pub emptied_both : (a b : ℕ) (w : World R) → emptied S (is b a) (emptied S (is a b) w) ≡ emptied S (joins a b) w
  emptied_both a b w = emptied_once (is a b) (is b a) w

  pub told_both : (own : (m : Option R) → S.same m m ≡ true) (a b : ℕ) (w : World R) → tell S (is b a) (tell S (is a b) w) ≡ tell S (joins a b) w
  told_both own a b w = told_once S own (is a b) (is b a) w

  pub emptied_next : {A : Type 0} (p : A → ℕ → ℕ → Bool) (us : List A) (u : A) (w : World R) → emptied S (p u) (emptied S (some p us) w) ≡ emptied S (some p (us ++ u ∷ [])) w
  emptied_next p us u w = emptied_once (some p us) (p u) w ∙ ap (λ (q : ℕ → ℕ → Bool). emptied S q w) (λ i x y. one_more p us u x y i)
