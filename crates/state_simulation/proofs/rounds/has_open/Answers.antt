use Rattle.std.proofs.Common.{◌≡◌, ◌<◌, ℕ, true, false, ◌||◌, eqb, length, get_or, take, arith, refl, sym, ap, subst, ◌∙◌, inl, inr}
use Rattle.std.proofs.lemmas.Bool.{both_ways, eqb-true, eq-eqb, or_cases, or_left, or_right}
use Rattle.std.proofs.lemmas.List.{take_all}
use Rattle.std.proofs.lemmas.List.Folds.{list_any_at, list_any_more}
use Rattle.bit_rows.specs.Bits.{has}
use Rattle.bit_rows.specs.Tables.{has_at}
use Rattle.graph_base.specs.Runs.{place_of}
use Rattle.reach_prune.specs.Searches.{is_among}
use Rattle.state_simulation.specs.Stages.{asks_later, has_either}
use Rattle.state_simulation.proofs.rounds.has_open.Goals as goal
use Rattle.state_simulation.proofs.rounds.has_open.Goals.{else-not-asks_later-via-then-not-asks_later+then-not-is_set+else-not-get}
use Rattle.state_simulation.proofs.rounds.has_open.Goals.{else-not-asks_later-via-then-not-asks_later+else-not-is_set, else-not-asks_later-via-else-not-asks_later}

pub returns-then-not-get-clause-open : goal.returns-then-not-get-clause-open
returns-then-not-get-clause-open c = λ h.
    let g = c.args.maps.now.graph.now in
    let n = c.args.n in
    let nodes = c.peers-m-items.result.now in
    let i = c.loop-m.m-index in
    let m : ℕ = get_or nodes i 0 in
    let lm : m < length g.nodes = c.peers-m-items.ensures.within i 0 c.loop-m-test.true in
    let place : eqb (place_of g m) (place_of g n) ≡ true = sym (c.peers-m-items.ensures.members m lm) ∙ list_any_at (λ x. eqb x m) nodes i 0 c.loop-m-test.true (eq-eqb m m refl) in
    let one : has_at c.args.left.now n m ≡ false = ap (λ z. has z m) (sym c.row-row.ensures.words) ∙ sym c.if-not-is_set.ensures in
    let other : has_at c.args.left.now m n ≡ false = sym c.if-not-get.ensures in
    (m, record { one = lm; other = c.requires.n; place = eqb-true _ _ place; neither = ap (λ z. z || has_at c.args.left.now m n) one ∙ other })

pub returns-clause-bound : goal.returns-clause-bound
returns-clause-bound c = λ e m lm place first.
    let g = c.args.maps.now.graph.now in
    let nodes = c.peers-m-items.result.now in
    c.loop-m.invariant m (ap (λ l. is_among l m) (take_all c.loop-m.m-index nodes (omega (arith, c.loop-m-test.false)))
    ∙ c.peers-m-items.ensures.members m lm ∙ eq-eqb (place_of g m) (place_of g c.args.n) place) first

pub loop-m-preserved : goal.loop-m-preserved
loop-m-preserved c = λ m is first.
    let left = c.args.left.now in
    let n = c.args.n in
    let nodes = c.peers-m-items.result.now in
    let i = c.loop-m.m-index in
    let k : ℕ = get_or nodes i 0 in
    let asked : asks_later c.args.touched.now k n ≡ false → has_either left k n ≡ true = λ none. elim c.else-not-asks_later.branch [
      | else-not-asks_later-via-then-not-asks_later+then-not-is_set+else-not-get w ↦ or_right (has_at left n k) (has_at left k n) (sym w.get.ensures ∙ w.if-not-get.false)
      | else-not-asks_later-via-then-not-asks_later+else-not-is_set w ↦
          or_left (has_at left n k) (has_at left k n) (ap (λ z. has z k) (sym c.row-row.ensures.words) ∙ sym w.is_set.ensures ∙ w.if-not-is_set.false)
      | else-not-asks_later-via-else-not-asks_later w ↦ absurd (both_ways _ none (sym c.asks_later.ensures ∙ w.if-not-asks_later.false))
    ] in
    elim (or_cases (is_among (take i nodes) m) (eqb k m) (sym (list_any_more (λ x. eqb x m) nodes i 0 c.loop-m-test.true) ∙ is)) [
      | inl before ↦ c.loop-m.invariant m before first
      | inr here ↦ (
          let same : k ≡ m = eqb-true k m here in
          subst (λ x. has_either left x n ≡ true) same (asked (ap (λ x. asks_later c.args.touched.now x n) same ∙ first)))
    ]
