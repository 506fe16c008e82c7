-- A path goes over a cut where one of its steps does.
use Rattle.std.proofs.Common.{◌≡◌, ℕ, zero, suc, ◌+◌, ◌-◌, ◌<◌, Bool, true, false, List, [], ◌∷◌, ◌++◌, length, take, get_or, refl, sym, ap, ◌∙◌, arith}
use Rattle.std.specs.Prelude.{◌||◌, ◌==◌, not}
use Rattle.std.specs.List.{list_any}
use Rattle.std.proofs.lemmas.Bool.{and_parts, eq-eqb, eqb-true, not-true, or_right, true≢false}
use Rattle.list_law.specs.Members.{IsIn}
use Rattle.list_law.proofs.Members.{list_any-from_IsIn}
use Rattle.list_law.proofs.Tests.{list_any-same}
use Rattle.list_law.proofs.Truth.{same_tests}
use Rattle.net_base.specs.Network.{joins}
use Rattle.policy_base.specs.Meaning.{some_step}
use Rattle.policy_base.specs.Walks.{is_loop_free}
use Rattle.impact_law.specs.Cuts.{is_cut}
use Rattle.impact_law.specs.declared.impact.Cut.{Cut}
use Rattle.impact_law.specs.declared.impact.Cut.TheVariants.{Link, Router}
use Rattle.drain_report.specs.Uses.{goes_over}
use Rattle.drain_report.proofs.Cutting.{cuts_off}
use Rattle.drain_report.specs.Steps.{steps_of}

-- ---- steps, as a loop comes to them

-- one place more is one step more
pub steps_more : (path : List ℕ) (i : ℕ) → suc i < length path → steps_of (take (suc (suc i)) path) ≡ steps_of (take (suc i) path) ++ (get_or path i 0, get_or path (suc i) 0) ∷ []
steps_more [] i within = absurd (omega (arith, within))
steps_more (x ∷ []) i within = absurd (omega (arith, within))
steps_more (x ∷ y ∷ ls) zero within = refl
steps_more (x ∷ y ∷ ls) (suc i) within = ap (λ steps. (x, y) ∷ steps) (steps_more (y ∷ ls) i (omega (arith, within)))

-- the same, where the places are read
pub steps_next : (path : List ℕ) (place x y : ℕ) → 0 < place → place < length path → x ≡ get_or path (place - 1) 0 → y ≡ get_or path place 0
    → steps_of (take (place + 1) path) ≡ steps_of (take place path) ++ (x, y) ∷ []
steps_next path place x y later within is_x is_y =
    let i = place - 1 in
    let here : suc i ≡ place = omega (arith, later) in
    let next : place + 1 ≡ suc (suc i) = omega (arith, later) in
    let last : get_or path (suc i) 0 ≡ y = ap (λ n. get_or path n 0) here ∙ sym is_y in
    ap (λ n. steps_of (take n path)) next
    ∙ steps_more path i (omega (arith, within, here))
    ∙ (λ k. steps_of (take (here k) path) ++ (sym is_x k, last k) ∷ [])

-- ---- steps over a cut

-- a step over the link, or to the router
abbrev pub over : Cut → ℕ × ℕ → Bool
over (Link a b) e = joins e.0 e.1 (a, b)
over (Router x) e = x == e.1

pub between : (cut : Cut) (l k : ℕ) → over cut (l, k) ≡ true → cuts_off cut l k ≡ true
between (Link a b) l k h = h
between (Router x) l k h = or_right (x == l) (x == k) h

link_steps : (a b : ℕ) (path : List ℕ) → some_step (λ l k. joins l k (a, b)) path ≡ list_any (over (Link a b)) (steps_of path)
link_steps a b [] = refl
link_steps a b (l ∷ []) = refl
link_steps a b (l ∷ k ∷ ls) = ap (λ t. joins l k (a, b) || t) (link_steps a b (k ∷ ls))

router_steps : (x l : ℕ) (rest : List ℕ) → list_any (λ m. x == m) rest ≡ list_any (over (Router x)) (steps_of (l ∷ rest))
router_steps x l [] = refl
router_steps x l (k ∷ ls) = ap (λ t. x == k || t) (router_steps x k ls)

pub path_over : (cut : Cut) (l : ℕ) (rest : List ℕ) → is_cut cut l ≡ false → goes_over cut (l ∷ rest) ≡ list_any (over cut) (steps_of (l ∷ rest))
path_over (Link a b) l rest off = link_steps a b (l ∷ rest)
path_over (Router x) l rest off = ap (λ t. t || list_any (λ m. x == m) rest) off ∙ router_steps x l rest

-- no step of a path without a loop leads to where it begins
pub begins_apart : (cut : Cut) (l : ℕ) (rest : List ℕ) (e : ℕ × ℕ) → is_cut cut l ≡ true → is_loop_free (l ∷ rest) ≡ true → IsIn (steps_of (l ∷ rest)) e → over cut e ≡ true → ⊥
begins_apart (Link a b) l rest e at free in_path h = true≢false (sym at)
begins_apart (Router x) l rest e at free in_path h =
    let met : list_any (λ m. x == m) rest ≡ true = router_steps x l rest ∙ list_any-from_IsIn (over (Router x)) (steps_of (l ∷ rest)) e in_path h in
    let none : list_any (λ k. k == l) rest ≡ false = not-true _ (and_parts (not (list_any (λ k. k == l) rest)) (is_loop_free rest) free).0 in
    let here : x ≡ l = eqb-true x l at in
    true≢false (sym met
    ∙ list_any-same (λ m. x == m) (λ k. k == l) (λ m. same_tests (x == m) (m == l) (λ e. eq-eqb m l (sym (eqb-true x m e) ∙ here)) (λ e. eq-eqb x m (here ∙ sym (eqb-true m l e)))) rest
    ∙ none)
