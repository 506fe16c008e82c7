-- Each step of a search keeps what makes its marks right.
use Rattle.std.proofs.Common.{◌≡◌, ℕ, ◌<◌, Bool, true, false, not, ◌&&◌, ◌||◌, eqb, List, [], ◌∷◌, ◌++◌, length, get_or, replicate, refl, sym, ap, ◌∙◌, subst, inl, inr, ◌⊎◌, ◌↔◌, arith, vec_len}
use Rattle.std.proofs.lemmas.Bool.{cases_Bool, or_cases, or_left, or_right, and_from, and_parts, not_from_false, both_ways, eqb-true, eq-eqb, cases_lt}
use Rattle.std.proofs.lemmas.List.{get_or-replicate, get_or_past, length-replicate}
use Rattle.std.proofs.Math.Bool.{and-true}
use Rattle.graph_base.specs.Graphs.{PlainGraph}
use Rattle.graph_base.specs.Runs.{has_step, place_of}
use Rattle.outcome_base.specs.Outcomes.{Failures}
use Rattle.reach_prune.proofs.Trails.{waited}
use Rattle.reach_prune.specs.Searches.{is_among, is_listed, is_marked}
use Rattle.reach_prune.proofs.Among.{marked_below}
use Rattle.cut_ranks.specs.declared.search.Search.{Search}
use Rattle.cut_ranks.specs.Left.{IsLeft, IsOpenTrail, is_open_start, is_open_step, spares}
use Rattle.cut_ranks.specs.Searching.{Visits}

trail_more : (g : PlainGraph) (f : Failures) (a b c : ℕ) (via : List ℕ) → IsOpenTrail g f a via b → is_open_step g f b c ≡ true → IsOpenTrail g f a (via ++ c ∷ []) c
trail_more g f a b c [] h l = (subst (λ n. is_open_step g f n c ≡ true) (sym h) l, refl)
trail_more g f a b c (d ∷ ds) h l = (h.0, trail_more g f d b c ds h.1 l)

-- an open step leads on from what is left
pub left_more : (g : PlainGraph) (f : Failures) (b c : ℕ) → IsLeft g f b → is_open_step g f b c ≡ true → IsLeft g f c
left_more g f b c r l = (r.0, r.1, r.2 ++ c ∷ [], trail_more g f r.0 b c r.2 r.3 l)

-- what is closed under open steps has the end of each trail from it
complete : (g : PlainGraph) (f : Failures) (marked : ℕ → Bool) → ((a b : ℕ) → marked a ≡ true → is_open_step g f a b ≡ true → marked b ≡ true)
    → (a b : ℕ) (via : List ℕ) → marked a ≡ true → IsOpenTrail g f a via b → marked b ≡ true
complete g f marked closed a b [] m h = ap marked (sym h) ∙ m
complete g f marked closed a b (c ∷ cs) m h = complete g f marked closed c b cs (closed a c m h.0) h.1

-- a search that has come some way: what is marked is left, and what an open step leads to is marked where the node doesn't wait
pub record Stage (g : PlainGraph) (f : Failures) (s : Search) : Type 0 where
  pub size : vec_len s.marks ≡ length g.nodes
  pub waits : (n : ℕ) → is_among s.waiting.items n ≡ true → is_marked s.marks.items n ≡ true
  pub begun : (n : ℕ) → is_open_start g f n ≡ true → is_marked s.marks.items n ≡ true
  pub closed : (a b : ℕ) → is_marked s.marks.items a ≡ true → is_open_step g f a b ≡ true → (is_marked s.marks.items b ≡ true) ⊎ (is_among s.waiting.items a ≡ true)
  pub sound : (n : ℕ) → is_marked s.marks.items n ≡ true → IsLeft g f n

module _ (g : PlainGraph) (f : Failures) where
  -- the starts are come to
  pub stage_begun : (old new : Search) → vec_len old.marks ≡ length g.nodes → ((n : ℕ) → is_marked old.marks.items n ≡ false) → old.waiting.items ≡ []
      → Visits (is_open_start g f) old new → Stage g f new
  stage_begun old new size clear idle v = record {
    size = v.size ∙ size;
    waits = λ n h. marks n ∙ (sym (waiting n) ∙ h);
    begun = λ n h. marks n ∙ h;
    closed = λ a b m l. inr (waiting a ∙ (sym (marks a) ∙ m));
    sound = λ n m. (n, sym (marks n) ∙ m, [], refl);
  }
    where
      marks : (n : ℕ) → is_marked new.marks.items n ≡ is_open_start g f n
      marks n = v.marks n ∙ ap (λ b. b || is_open_start g f n) (clear n)

      waiting : (n : ℕ) → is_among new.waiting.items n ≡ is_open_start g f n
      waiting n =
          v.waiting n ∙ ap (λ xs. is_among xs n || (is_open_start g f n && not (is_marked old.marks.items n))) idle
          ∙ ap (λ b. is_open_start g f n && not b) (clear n) ∙ and-true (is_open_start g f n)

  waited_marked : (a : ℕ) (s : Search) (rest : List ℕ) → Stage g f s → s.waiting.items ≡ rest ++ a ∷ [] → is_marked s.marks.items a ≡ true
  waited_marked a s rest t pop = t.waits a (waited _ rest a a pop ∙ or_right _ _ (eq-eqb a a refl))

  pub stage_node : (a : ℕ) (s : Search) (rest : List ℕ) → Stage g f s → s.waiting.items ≡ rest ++ a ∷ [] → a < length g.nodes
  stage_node a s rest t pop = let lt = marked_below s.marks.items a (waited_marked a s rest t pop) in omega (arith, t.size, s.marks.ok.0)

  module _ (lists : List (List ℕ)) (steps : (a b : ℕ) → is_listed lists a b ≡ has_step g a b) where
    -- the node that waited last goes, and its open steps are followed
    pub stage_next : (a from : ℕ) (nodes : List ℕ) (old mid new : Search) → Stage g f old → vec_len mid.marks ≡ vec_len old.marks → mid.marks.items ≡ old.marks.items →
        old.waiting.items ≡ mid.waiting.items ++ a ∷ [] → nodes ≡ get_or lists a [] → from ≡ place_of g a → Visits (λ n. is_among nodes n && spares f from (place_of g n)) mid new → Stage g f new
    stage_next a from nodes old mid new s len same pop listed here v = record {
      size = v.size ∙ len ∙ s.size;
      waits = λ n h. marks n ∙ elim (or_cases (is_among mid.waiting.items n) (is_open_step g f a n && not (is_marked old.marks.items n)) (sym (waiting n) ∙ h)) [
        | inl w ↦ or_left _ _ (s.waits n (waited _ mid.waiting.items a n pop ∙ or_left _ (eqb a n) w))
        | inr l ↦ or_right _ _ (and_parts (is_open_step g f a n) _ l).0
      ];
      begun = λ n h. marks n ∙ or_left _ _ (s.begun n h);
      closed = λ b c h l. elim (cases_Bool (is_marked old.marks.items b)) [
        | inl m ↦ elim (s.closed b c m l) [
          | inl d ↦ inl (marks c ∙ or_left _ _ d)
          | inr w ↦ elim (or_cases _ _ (sym (waited _ mid.waiting.items a b pop) ∙ w)) [
            | inl r ↦ inr (waiting b ∙ or_left _ _ r)
            | inr e ↦ inl (marks c ∙ or_right _ _ (ap (λ x. is_open_step g f x c) (eqb-true a b e) ∙ l))
          ]
        ]
        | inr m ↦ elim (or_cases _ _ (sym (marks b) ∙ h)) [
          | inl y ↦ absurd (both_ways _ m y)
          | inr y ↦ inr (waiting b ∙ or_right _ _ (and_from _ _ y (not_from_false _ m)))
        ]
      ];
      sound = λ n h. elim (or_cases _ _ (sym (marks n) ∙ h)) [
        | inl m ↦ s.sound n m
        | inr l ↦ left_more g f a n (s.sound a (waited_marked a old mid.waiting.items s pop)) l
      ];
    }
      where
        step : (n : ℕ) → (is_among nodes n && spares f from (place_of g n)) ≡ is_open_step g f a n
        step n = ap (λ xs. is_among xs n && spares f from (place_of g n)) listed ∙ ap (λ b. b && spares f from (place_of g n)) (steps a n) ∙ ap (λ l. has_step g a n && spares f l (place_of g n)) here

        marks : (n : ℕ) → is_marked new.marks.items n ≡ (is_marked old.marks.items n || is_open_step g f a n)
        marks n = v.marks n ∙ ap (λ xs. is_marked xs n || (is_among nodes n && spares f from (place_of g n))) same ∙ ap (λ b. is_marked old.marks.items n || b) (step n)

        waiting : (n : ℕ) → is_among new.waiting.items n ≡ (is_among mid.waiting.items n || (is_open_step g f a n && not (is_marked old.marks.items n)))
        waiting n = v.waiting n ∙ ap (λ xs. is_among mid.waiting.items n || ((is_among nodes n && spares f from (place_of g n)) && not (is_marked xs n))) same
            ∙ ap (λ b. is_among mid.waiting.items n || (b && not (is_marked old.marks.items n))) (step n)

  pub stage_end : (s : Search) → Stage g f s → s.waiting.items ≡ [] → (n : ℕ) → (is_marked s.marks.items n ≡ true) ↔ IsLeft g f n
  stage_end s t done n = (
    t.sound n,
    λ r. complete g f (is_marked s.marks.items) (λ a b m l. elim (t.closed a b m l) [ inl x ↦ x | inr w ↦ absurd (both_ways _ (ap (λ x. is_among x a) done) w) ]) r.0 n r.2 (t.begun r.0 r.1) r.3,
  )

-- before the search no node is marked
pub none_marked : (marks : List Bool) (count n : ℕ) → marks ≡ replicate count false → is_marked marks n ≡ false
none_marked marks count n is = ap (λ xs. is_marked xs n) is ∙ elim (cases_lt n count) [
  | inl low ↦ get_or-replicate {A = Bool} count n false false low
  | inr high ↦ get_or_past (replicate count false) n false (omega (arith, high, length-replicate {A = Bool} count false))
]
