-- The steps of what failures leave of a graph.
use Rattle.std.proofs.Common.{◌≡◌, ℕ, Bool, true, false, List, [], ◌∷◌, filter, find, None, option_map, refl, ap, ◌∙◌, inl, inr}
use Rattle.std.specs.Prelude.{◌&&◌, ◌==◌, if◌then◌else◌}
use Rattle.std.proofs.lemmas.Bool.{and_parts, cases_Bool, eqb-true}
use Rattle.list_law.proofs.Apart.{Apart-filter, Apart-from_distinct, IsDistinct-from_apart}
use Rattle.net_base.specs.Network.{PlainNet}
use Rattle.graph_base.specs.Graphs.{PlainGraph}
use Rattle.graph_base.specs.Rules.{same_pair}
use Rattle.graph_base.specs.Runs.{place_of, step_at}
use Rattle.outcome_base.specs.Outcomes.{Failures}
use Rattle.scenarios.specs.Surviving.{AreSurvivors, carries, carries_by}
use Rattle.scenarios.specs.declared.survivors.Survivors.{Survivors}
use Rattle.scenarios.proofs.Survived.{carries_is}
use Rattle.settled_outcome.specs.Surviving.{left_by, steps_by}
use Rattle.cut_ranks.specs.Paths.{StepsDiffer}

-- a filter by what a test cannot tell apart keeps or loses what the test finds
find_left : {A : Type 0} (test kept : A → Bool) (b : Bool) → ((x : A) → test x ≡ true → kept x ≡ b) → (xs : List A) → find test (filter kept xs) ≡ (if b then find test xs else None)
find_left test kept true same [] = refl
find_left test kept false same [] = refl
find_left test kept true same (x ∷ xs) = elim (cases_Bool (test x)) [
  | inl is ↦ rw (same x is, is) refl
  | inr off ↦ elim (cases_Bool (kept x)) [
    | inl on ↦ rw (on, off) (find_left test kept true same xs)
    | inr gone ↦ rw (gone, off) (find_left test kept true same xs)
  ]
]
find_left test kept false same (x ∷ xs) = elim (cases_Bool (test x)) [
  | inl is ↦ rw (same x is) (find_left test kept false same xs)
  | inr off ↦ elim (cases_Bool (kept x)) [
    | inl on ↦ rw (on, off) (find_left test kept false same xs)
    | inr gone ↦ rw (gone) (find_left test kept false same xs)
  ]
]

-- a node steps to a location as it did, where what is announced comes there
pub step_left : (net : PlainNet) (f : Failures) (t : Survivors) → AreSurvivors net f t → (g : PlainGraph) (n l : ℕ)
    → step_at (left_by net t g) n l ≡ (if carries net f (place_of g n) l then step_at g n l else None)
step_left net f t are g n l =
    ap (option_map (λ (s : ℕ × ℕ). s.1)) (find_left test (steps_by net t g) (carries net f (place_of g n) l) same g.steps) ∙ by (carries net f (place_of g n) l)
  where
    test : ℕ × ℕ → Bool
    test s = s.0 == n && place_of g s.1 == l

    same : (s : ℕ × ℕ) → test s ≡ true → steps_by net t g s ≡ carries net f (place_of g n) l
    same s h =
        let parts = and_parts (s.0 == n) (place_of g s.1 == l) h in
        ap (λ k. carries_by net t (place_of g k) (place_of g s.1)) (eqb-true s.0 n parts.0)
        ∙ ap (carries_by net t (place_of g n)) (eqb-true (place_of g s.1) l parts.1)
        ∙ carries_is net f t are (place_of g n) l

    by : (b : Bool) → option_map (λ (s : ℕ × ℕ). s.1) (if b then find test g.steps else None) ≡ (if b then step_at g n l else None)
    by true = refl
    by false = refl

-- what is left of steps that differ differs
pub left_differ : (net : PlainNet) (t : Survivors) (g : PlainGraph) → StepsDiffer g → StepsDiffer (left_by net t g)
left_differ net t g differ =
    let landing : ℕ × ℕ → ℕ × ℕ = λ (s : ℕ × ℕ). (s.0, place_of g s.1) in
    IsDistinct-from_apart same_pair landing (filter (steps_by net t g) g.steps)
    (Apart-filter (λ (a b : ℕ × ℕ). same_pair (landing a) (landing b) ≡ true) (steps_by net t g) g.steps (Apart-from_distinct same_pair landing g.steps differ))
