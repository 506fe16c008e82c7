-- Where the nodes at each location have one number, the loop rule holds.
use Rattle.std.proofs.Common.{◌≡◌, ℕ, ◌+◌, ◌<◌, ◌&&◌, ◌||◌, true, eqb, leb, not, List, Option, None, Some, length, get_or, refl, sym, ap, ◌∙◌, inl, inr, arith, IsTrue, subst, le-leb, leb-true}
use Rattle.std.proofs.Math.Bool.{or-false}
use Rattle.std.proofs.lemmas.Bool.{and_parts, both_ways, cases_eq, cases_lt, eq-eqb, eqb-true, ne_eqb}
use Rattle.net_base.specs.Network.{PlainNet}
use Rattle.graph_base.specs.Graphs.{PlainGraph, IsGraph}
use Rattle.graph_base.specs.Rules.{KeepsLoop}
use Rattle.graph_base.specs.Runs.{has_step, is_listener, place_of}
use Rattle.graph_base.proofs.StartsAndSteps.{step_nodes}
use Rattle.preference_check.specs.Floods.{HaveOneNumber}
use Rattle.preference_check.specs.Rows.{has_upto, is_upto}

-- the number of each of the first nodes is the one that is noted at its location
abbrev pub AreNoted : PlainGraph → (ℕ → ℕ) → List (Option ℕ) → ℕ → Type 0
AreNoted g number row count = (k v : ℕ) → k < count → has_upto row (place_of g k) v ≡ leb (number k) v

-- what is noted once stays so
abbrev pub KeepsNotes : List (Option ℕ) → List (Option ℕ) → Type 0
KeepsNotes old new = (l v w : ℕ) → IsTrue (has_upto old l w) → has_upto new l v ≡ has_upto old l v

-- a number that is noted already
pub noted_there : (row : List (Option ℕ)) (at other number v : ℕ) → get_or row at None ≡ Some other → IsTrue (eqb other number) → has_upto row at v ≡ leb number v
noted_there row at other number v is same = ap (λ o. is_upto o v) is ∙ ap (λ n. leb n v) (eqb-true other number same)

-- the first one that is noted at a location
module _ (old new : List (Option ℕ)) (at number : ℕ) (none : get_or old at None ≡ None)
    (noted : (p n : ℕ) → has_upto new p n ≡ (has_upto old p n || (eqb at p && leb number n))) where
  pub noted_here : (l v : ℕ) → at ≡ l → has_upto new l v ≡ leb number v
  noted_here l v e =
      ap (λ k. has_upto new k v) (sym e) ∙ noted at v ∙ ap (λ o. is_upto o v || (eqb at at && leb number v)) none ∙ ap (λ b. b && leb number v) (eq-eqb at at refl)

  pub noted_elsewhere : KeepsNotes old new
  noted_elsewhere l v w low = elim (cases_eq at l) [
    | inl e ↦ absurd (both_ways _ (ap (λ k. has_upto old k w) (sym e) ∙ ap (λ o. is_upto o w) none) low)
    | inr ne ↦ noted l v ∙ ap (λ b. has_upto old l v || (b && leb number v)) (ne_eqb at l ne) ∙ or-false (has_upto old l v)
  ]

pub noted_more : (g : PlainGraph) (number : ℕ → ℕ) (old new : List (Option ℕ)) (node : ℕ) → AreNoted g number old node → KeepsNotes old new
    → ((v : ℕ) → has_upto new (place_of g node) v ≡ leb (number node) v)
    → AreNoted g number new (node + 1)
noted_more g number old new node before kept here k v lt = elim (cases_lt k node) [
  | inl less ↦ kept (place_of g k) v (number k) (before k (number k) less ∙ le-leb (number k) (number k) (omega arith)) ∙ before k v less
  | inr past ↦ let same : node ≡ k = omega (arith, lt, past) in subst (λ n. has_upto new (place_of g n) v ≡ leb (number n) v) same (here v)
]

pub noted_one : (g : PlainGraph) (number : ℕ → ℕ) (row : List (Option ℕ)) (count : ℕ) → AreNoted g number row count → HaveOneNumber g number count
noted_one g number row count noted m n in_m in_n place =
    let low : leb (number m) (number n) ≡ true = sym (noted m (number n) in_m) ∙ ap (λ l. has_upto row l (number n)) place ∙ noted n (number n) in_n ∙ le-leb (number n) (number n) (omega arith) in
    let high : leb (number n) (number m) ≡ true = sym (noted n (number m) in_n) ∙ ap (λ l. has_upto row l (number m)) (sym place)
    ∙ noted m (number m) in_m ∙ le-leb (number m) (number m) (omega arith) in
    omega (arith, leb-true (number m) (number n) low, leb-true (number n) (number m) high)

pub keeps_with_one_number : (net : PlainNet) (g : PlainGraph) (number : ℕ → ℕ) → IsGraph g → HaveOneNumber g number (length g.nodes) → (m n : ℕ) → KeepsLoop net g number m n
keeps_with_one_number net g number rules one m n t k over on node at_k reach =
    let step = and_parts (has_step g n t) (not (is_listener g t)) on in
    let same : number k ≡ number t = one k t node (step_nodes g n t rules step.0).1 at_k in
    omega (arith, same)
