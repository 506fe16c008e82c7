-- Each step of a search keeps what makes its marks right.
use Rattle.std.proofs.Common.{◌≡◌, ℕ, ◌<◌, true, not, ◌&&◌, ◌||◌, eqb, List, [], ◌∷◌, ◌++◌, length, get_or, refl, sym, ap, ◌∙◌, inl, inr, ◌⊎◌, ◌↔◌, arith, vec_len}
use Rattle.std.proofs.lemmas.Bool.{cases_Bool, or_cases, or_left, or_right, and_from, and_parts, not_from_false, both_ways, eqb-true, eq-eqb}
use Rattle.std.proofs.lemmas.List.Folds.{list_any_at}
use Rattle.reach_prune.specs.declared.search.Search.{Search}
use Rattle.reach_prune.proofs.Trails.{chain_more, complete, waited}
use Rattle.reach_prune.specs.Searches.{is_among, is_marked, is_listed, AreLists, IsReached, Visits}
use Rattle.reach_prune.proofs.Among.{marked_below}

-- what is listed behind a node that is reached is reached
reached_more : (lists : List (List ℕ)) (first : List ℕ) (b c : ℕ) → IsReached lists first b → is_listed lists b c ≡ true → IsReached lists first c
reached_more lists first b c r l = (r.0, r.1, (r.2.0 ++ c ∷ [], chain_more lists r.0 b c r.2.0 r.2.1 l))

-- a search that has come some way: what is marked is reached, and what is next to it is marked where it doesn't wait
pub record Stage (lists : List (List ℕ)) (first : List ℕ) (s : Search) : Type 0 where
  pub size : vec_len s.marks ≡ length lists
  pub waits : (n : ℕ) → is_among s.waiting.items n ≡ true → is_marked s.marks.items n ≡ true
  pub begun : (n : ℕ) → is_among first n ≡ true → is_marked s.marks.items n ≡ true
  pub closed : (a b : ℕ) → is_marked s.marks.items a ≡ true → is_listed lists a b ≡ true → (is_marked s.marks.items b ≡ true) ⊎ (is_among s.waiting.items a ≡ true)
  pub sound : (n : ℕ) → is_marked s.marks.items n ≡ true → IsReached lists first n

waited_marked : (lists : List (List ℕ)) (first : List ℕ) (a : ℕ) (s : Search) (rest : List ℕ) → Stage lists first s → s.waiting.items ≡ rest ++ a ∷ [] → is_marked s.marks.items a ≡ true
waited_marked lists first a s rest t pop = t.waits a (waited _ rest a a pop ∙ or_right _ _ (eq-eqb a a refl))

pub stage_node : (lists : List (List ℕ)) (first : List ℕ) (a : ℕ) (s : Search) (rest : List ℕ) → Stage lists first s → s.waiting.items ≡ rest ++ a ∷ [] → a < length lists
stage_node lists first a s rest t pop = let lt = marked_below s.marks.items a (waited_marked lists first a s rest t pop) in omega (arith, t.size, s.marks.ok.0)

pub listed_below : (lists : List (List ℕ)) (a : ℕ) (nodes : List ℕ) (k d : ℕ) → AreLists lists → nodes ≡ get_or lists a [] → k < length nodes → get_or nodes k d < length lists
listed_below lists a nodes k d are e lt = are a (get_or nodes k d) (ap (λ x. is_among x (get_or nodes k d)) (sym e) ∙ list_any_at (λ x. eqb x (get_or nodes k d)) nodes k d lt (eq-eqb _ _ refl))

-- the node that waited last goes, and its neighbours are come to
pub stage_next : (lists : List (List ℕ)) (first : List ℕ) (a : ℕ) (nodes : List ℕ) (old mid new : Search) → Stage lists first old
    → vec_len mid.marks ≡ vec_len old.marks → mid.marks.items ≡ old.marks.items →
    old.waiting.items ≡ mid.waiting.items ++ a ∷ [] → nodes ≡ get_or lists a [] → Visits (is_among nodes) mid new → Stage lists first new
stage_next lists first a nodes old mid new s len same pop listed v = record {
  size = v.size ∙ len ∙ s.size;
  waits = λ n h. marks n ∙ elim (or_cases (is_among mid.waiting.items n) (is_listed lists a n && not (is_marked old.marks.items n)) (sym (waiting n) ∙ h)) [
    | inl w ↦ or_left _ _ (s.waits n (waited _ mid.waiting.items a n pop ∙ or_left _ (eqb a n) w))
    | inr l ↦ or_right _ _ (and_parts (is_listed lists a n) _ l).0
  ];
  begun = λ n h. marks n ∙ or_left _ _ (s.begun n h);
  closed = λ b c h l. elim (cases_Bool (is_marked old.marks.items b)) [
    | inl m ↦ elim (s.closed b c m l) [
      | inl d ↦ inl (marks c ∙ or_left _ _ d)
      | inr w ↦ elim (or_cases _ _ (sym (waited _ mid.waiting.items a b pop) ∙ w)) [
        | inl r ↦ inr (waiting b ∙ or_left _ _ r)
        | inr e ↦ inl (marks c ∙ or_right _ _ (ap (λ x. is_listed lists x c) (eqb-true a b e) ∙ l))
      ]
    ]
    | inr m ↦ elim (or_cases _ _ (sym (marks b) ∙ h)) [
      | inl y ↦ absurd (both_ways _ m y)
      | inr y ↦ inr (waiting b ∙ or_right _ _ (and_from _ _ y (not_from_false _ m)))
    ]
  ];
  sound = λ n h. elim (or_cases _ _ (sym (marks n) ∙ h)) [
    | inl m ↦ s.sound n m
    | inr l ↦ reached_more lists first a n (s.sound a (waited_marked lists first a old mid.waiting.items s pop)) l
  ];
}
  where
    marks : (n : ℕ) → is_marked new.marks.items n ≡ (is_marked old.marks.items n || is_listed lists a n)
    marks n = v.marks n ∙ rw (same, listed) refl

    waiting : (n : ℕ) → is_among new.waiting.items n ≡ (is_among mid.waiting.items n || (is_listed lists a n && not (is_marked old.marks.items n)))
    waiting n = v.waiting n ∙ rw (same, listed) refl

pub stage_end : (lists : List (List ℕ)) (first : List ℕ) (s : Search) → Stage lists first s → s.waiting.items ≡ [] → (n : ℕ) → (is_marked s.marks.items n ≡ true) ↔ IsReached lists first n
stage_end lists first s t done n = (
  t.sound n,
  λ r. complete lists (is_marked s.marks.items) (λ a b m l. elim (t.closed a b m l) [ inl x ↦ x | inr w ↦ absurd (both_ways _ (ap (λ x. is_among x a) done) w) ]) r.0 n r.2.0 (t.begun r.0 r.1) r.2.1,
)
