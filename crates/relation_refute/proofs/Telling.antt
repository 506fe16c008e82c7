-- What the cells tell, round by round.
use Rattle.std.proofs.Common.{◌≡◌, ℕ, suc, ◌<◌, ◌≤◌, Bool, true, false, cond, not, ◌&&◌, ◌||◌, eqb, ltb, leb, List, arith, sym, ap, ◌∙◌, inl, inr}
use Rattle.std.proofs.lemmas.Bool.{and_from, and_left, and_right, both_ways, cases_Bool, cases_eq, cases_lt, cond-true, cond-false, eq-eqb, le-leb, le-ltb}
use Rattle.std.proofs.lemmas.Bool.{leb-true, lt-ltb, ne_eqb, false_from_ne_true, or_cases, or_left, or_parts}
use Rattle.std.proofs.Math.Bool.{not-not}
use Rattle.bit_rows.specs.Tables.{PlainRows, has_at}
use Rattle.graph_base.specs.Graphs.{PlainGraph}
use Rattle.net_base.specs.declared.loc.LocSet.{LocSet}
use Rattle.relation_law.specs.Relations.{IsTotal, Pair}
use Rattle.relation_law.specs.Rounds.{fails, gone_after}
use Rattle.relation_law.specs.Views.{View, view_of}
use Rattle.relation_law.proofs.Rounds.{pair_to}
use Rattle.relation_refute.specs.declared.cells.Cells.{Cells}
use Rattle.state_simulation.specs.declared.rounds.Rounds.{Rounds}
use Rattle.relation_refute.specs.Cells.{Tells, marked_round, round_in}
use Rattle.state_simulation.specs.Looked.{shown}
use Rattle.state_simulation.specs.Stages.{AreAt, AreBound, IsOpen, above_in}
use Rattle.state_simulation.specs.Targets.{AreLeft, AtRound, is_touched}
use Rattle.state_simulation.proofs.Staging.{gone_where_clear}

pub tells_first : (v : View) (reach : ℕ → ℕ → Bool) (round_of : ℕ → ℕ → ℕ) → ((m n : ℕ) → round_of m n ≡ 0) → Tells v reach 0 round_of
tells_first v reach round_of none = record {
  most = λ m n p. (let is = none m n in omega (arith, is));
  gone = λ m n r p le. (let first : r ≡ 0 = omega (arith, le) in ap (λ k. gone_after v reach k m n) first ∙ sym (ap (λ k. ltb 0 k && leb k r) (none m n)));
}

pub beyond : (i j : ℕ) → j < i → leb i j ≡ false
beyond i j lt = false_from_ne_true (leb i j) (λ h. (let le = leb-true i j h in absurd (omega (arith, lt, le))))

module _ (v : View) (reach : ℕ → ℕ → Bool) (k : ℕ) (old new : ℕ → ℕ → ℕ) (tells : Tells v reach k old)
    (step : (m n : ℕ) → Pair v m n → new m n ≡ cond (eqb (old m n) 0 && gone_after v reach (suc k) m n) (suc k) (old m n)) where
  -- a pair goes in this round
  now_gone : (m n : ℕ) → Pair v m n → old m n ≡ 0 → gone_after v reach (suc k) m n ≡ true → (new m n ≤ suc k) × ((r : ℕ) → r ≤ suc k → gone_after v reach r m n ≡ (ltb 0 (new m n) && leb (new m n) r))
  now_gone m n p none e =
      let is : new m n ≡ suc k = step m n p ∙ cond-true (eqb (old m n) 0 && gone_after v reach (suc k) m n) (suc k) (old m n) (and_from _ _ (eq-eqb (old m n) 0 none) e) in (
        omega (arith, is),
        λ r le. elim (cases_lt r (suc k)) [
          | inl t ↦
              tells.gone m n r p (omega (arith, t)) ∙ and_left (ltb 0 (old m n)) (leb (old m n) r) (le-ltb 0 (old m n) (omega (arith, none)))
              ∙ sym (and_right (ltb 0 (new m n)) (leb (new m n) r) (beyond (new m n) r (omega (arith, is, t))))
          | inr t ↦ (
              let last : r ≡ suc k = omega (arith, le, t) in
              ap (λ j. gone_after v reach j m n) last ∙ e ∙ sym (and_from _ _ (lt-ltb 0 (new m n) (omega (arith, is))) (le-leb (new m n) r (omega (arith, is, last)))))
        ],
      )

  -- a pair is left
  not_gone : (m n : ℕ) → Pair v m n → old m n ≡ 0 → gone_after v reach (suc k) m n ≡ false → (new m n ≤ suc k) × ((r : ℕ) → r ≤ suc k → gone_after v reach r m n ≡ (ltb 0 (new m n) && leb (new m n) r))
  not_gone m n p none e =
      let is : new m n ≡ old m n = step m n p ∙ cond-false (eqb (old m n) 0 && gone_after v reach (suc k) m n) (suc k) (old m n) (and_right _ _ e) in
      let clear : ltb 0 (new m n) ≡ false = le-ltb 0 (new m n) (omega (arith, is, none)) in (
        omega (arith, is, none),
        λ r le. elim (cases_lt r (suc k)) [
          | inl t ↦
              tells.gone m n r p (omega (arith, t)) ∙ and_left (ltb 0 (old m n)) (leb (old m n) r) (le-ltb 0 (old m n) (omega (arith, none)))
              ∙ sym (and_left (ltb 0 (new m n)) (leb (new m n) r) clear)
          | inr t ↦ (
              let last : r ≡ suc k = omega (arith, le, t) in
              ap (λ j. gone_after v reach j m n) last ∙ e ∙ sym (and_left (ltb 0 (new m n)) (leb (new m n) r) clear))
        ],
      )

  -- a pair has gone before
  long_gone : (m n : ℕ) → Pair v m n → (old m n ≡ 0 → ⊥) → (new m n ≤ suc k) × ((r : ℕ) → r ≤ suc k → gone_after v reach r m n ≡ (ltb 0 (new m n) && leb (new m n) r))
  long_gone m n p some =
      let is : new m n ≡ old m n = step m n p ∙ cond-false (eqb (old m n) 0 && gone_after v reach (suc k) m n) (suc k) (old m n) (and_left _ _ (ne_eqb (old m n) 0 some)) in
      let most = tells.most m n p in
      let over : 0 < old m n = elim (cases_lt 0 (old m n)) [ inl t ↦ t | inr t ↦ absurd (some (omega (arith, t))) ] in (
        omega (arith, is, most),
        λ r le. elim (cases_lt r (suc k)) [
          | inl t ↦ tells.gone m n r p (omega (arith, t)) ∙ ap (λ z. ltb 0 z && leb z r) (sym is)
          | inr t ↦ (
              let last : r ≡ suc k = omega (arith, le, t) in
              let before : gone_after v reach k m n ≡ true = tells.gone m n k p (omega arith) ∙ and_from _ _ (lt-ltb 0 (old m n) over) (le-leb (old m n) k most) in
              ap (λ j. gone_after v reach j m n) last ∙ or_left (gone_after v reach k m n) (fails v reach (gone_after v reach k) m n) before
              ∙ sym (and_from _ _ (lt-ltb 0 (new m n) (omega (arith, is, over))) (le-leb (new m n) r (omega (arith, is, most, last)))))
        ],
      )

  each_tells : (m n : ℕ) → Pair v m n → (new m n ≤ suc k) × ((r : ℕ) → r ≤ suc k → gone_after v reach r m n ≡ (ltb 0 (new m n) && leb (new m n) r))
  each_tells m n p = elim (cases_eq (old m n) 0) [
    | inl none ↦ elim (cases_Bool (gone_after v reach (suc k) m n)) [ inl e ↦ now_gone m n p none e | inr e ↦ not_gone m n p none e ]
    | inr some ↦ long_gone m n p some
  ]

  pub tells_next : Tells v reach (suc k) new
  tells_next = record { most = λ m n p. (each_tells m n p).0; gone = λ m n r p le. (each_tells m n p).1 r le }

-- ---- what is noted of a round

module _ (g : PlainGraph) (claimed : LocSet) (reach : ℕ → ℕ → Bool) where
  abbrev V : View
  V = view_of g claimed

  left_is : (j : ℕ) (rows : PlainRows) → AreLeft V reach j rows → (m n : ℕ) → Pair V m n → has_at rows n m ≡ not (gone_after V reach j m n)
  left_is j rows are m n p = are m n p.left p.right ∙ ap (λ z. z && not (gone_after V reach j m n)) (pair_to V m n p)

  pub marks_next : (k : ℕ) (new_left : PlainRows) (old new : ℕ → ℕ → ℕ) (touched : List Bool) → Tells V reach k old → AreLeft V reach (suc k) new_left →
      ((m n : ℕ) → Pair V m n → is_touched touched n ≡ false → gone_after V reach (suc k) m n ≡ gone_after V reach k m n) →
      ((m n : ℕ) → Pair (shown g) m n → new m n ≡ cond (is_touched touched n) (marked_round (old m n) (has_at new_left n m) (suc k)) (old m n)) →
      (m n : ℕ) → Pair V m n → new m n ≡ cond (eqb (old m n) 0 && gone_after V reach (suc k) m n) (suc k) (old m n)
  marks_next k new_left old new touched tells after quiet marked m n p =
      let pair : Pair (shown g) m n = record { left = p.left; right = p.right; place = p.place } in
      let noted : (x : ℕ) → marked_round x (has_at new_left n m) (suc k) ≡ cond (eqb x 0 && gone_after V reach (suc k) m n) (suc k) x = λ x.
      ap (λ z. cond (eqb x 0 && not z) (suc k) x) (left_is (suc k) new_left after m n p) ∙ ap (λ z. cond (eqb x 0 && z) (suc k) x) (not-not (gone_after V reach (suc k) m n)) in
      elim (cases_Bool (is_touched touched n)) [
        | inl e ↦ marked m n pair ∙ cond-true (is_touched touched n) _ _ e ∙ noted (old m n)
        | inr e ↦ marked m n pair ∙ cond-false (is_touched touched n) _ _ e ∙ elim (cases_eq (old m n) 0) [
          | inl none ↦ (
              let still : gone_after V reach (suc k) m n ≡ false = quiet m n p e ∙ tells.gone m n k p (omega arith)
              ∙ and_left (ltb 0 (old m n)) (leb (old m n) k) (le-ltb 0 (old m n) (omega (arith, none))) in
              sym (cond-false (eqb (old m n) 0 && gone_after V reach (suc k) m n) (suc k) (old m n) (and_right _ _ still)))
          | inr some ↦ sym (cond-false (eqb (old m n) 0 && gone_after V reach (suc k) m n) (suc k) (old m n) (and_left _ _ (ne_eqb (old m n) 0 some)))
        ]
      ]

  -- above a node whose row is as it was nothing goes
  pub quiet_next : (k : ℕ) (left new_left : PlainRows) → AreLeft V reach k left → AreLeft V reach (suc k) new_left → (m n : ℕ) → Pair V m n → has_at new_left n m ≡ has_at left n m
      → gone_after V reach (suc k) m n ≡ gone_after V reach k m n
  quiet_next k left new_left before after m n p same =
      sym (not-not _) ∙ ap not (sym (left_is (suc k) new_left after m n p) ∙ same ∙ left_is k left before m n p) ∙ not-not _

  -- nor in the first round above one whose row has all nodes at its location
  pub quiet_first : (left : PlainRows) → AreLeft V reach 1 left → (m n : ℕ) → Pair V m n → has_at left n m ≡ true → gone_after V reach 1 m n ≡ gone_after V reach 0 m n
  quiet_first left are m n p has = sym (not-not _) ∙ ap not (sym (left_is 1 left are m n p) ∙ has)

  pub bound_gone : (k : ℕ) (left : PlainRows) → AreLeft V reach k left → AreBound g left → (m n : ℕ) → Pair V m n → gone_after V reach k m n ≡ true → gone_after V reach k n m ≡ true → ⊥
  bound_gone k left are bound m n p one other =
      let back : Pair V n m = record { left = p.right; right = p.left; place = sym p.place } in
      elim (or_cases (has_at left n m) (has_at left m n) (bound m n p.left p.right p.place)) [
        | inl e ↦ both_ways _ (left_is k left are m n p ∙ ap not one) e
        | inr e ↦ both_ways _ (left_is k left are n m back ∙ ap not other) e
      ]

  pub bound_same : (k : ℕ) (left other : PlainRows) → AreLeft V reach k left → AreLeft V reach k other → AreBound g left → AreBound g other
  bound_same k left other are are' bound m n lm ln place =
      ap (λ z. z || has_at other m n) (are' m n lm ln ∙ sym (are m n lm ln)) ∙ ap (λ z. has_at left n m || z) (are' n m ln lm ∙ sym (are n m ln lm)) ∙ bound m n lm ln place

pub total_of_bound : (g : PlainGraph) (claimed : LocSet) (left : PlainRows) → AreBound g left → IsTotal (view_of g claimed) (above_in (view_of g claimed) left)
total_of_bound g claimed left bound m n p = elim (or_cases (has_at left n m) (has_at left m n) (bound m n p.left p.right p.place)) [
  | inl e ↦ inl (and_from _ _ (pair_to (view_of g claimed) m n p) e)
  | inr e ↦ inr (and_from _ _ (pair_to (view_of g claimed) n m (record { left = p.right; right = p.left; place = sym p.place })) e)
]

-- ---- how far the rounds and the cells have come

-- the last round left two nodes without a direction, and none before did
abbrev pub HasStopped : View → (ℕ → ℕ → Bool) → ℕ → Type 0
HasStopped v reach last = (before : ℕ) × (last ≡ suc before) × ((m n : ℕ) → Pair v m n → gone_after v reach before m n ≡ true → gone_after v reach before n m ≡ true → ⊥)
    × ((m n : ℕ) × Pair v m n × (gone_after v reach last m n ≡ true) × (gone_after v reach last n m ≡ true))

pub record HasCome (g : PlainGraph) (claimed : LocSet) (onwards : PlainRows) (last : ℕ) (s : Rounds) (c : Cells) (is_open : Bool) : Type 0 where
  pub at : AreAt g claimed (has_at onwards) last s
  pub tells : Tells (view_of g claimed) (has_at onwards) last (round_in c)
  pub bound : is_open ≡ false → AreBound g s.left
  pub stopped : is_open ≡ true → HasStopped (view_of g claimed) (has_at onwards) last

pub open_stops : (g : PlainGraph) (claimed : LocSet) (reach : ℕ → ℕ → Bool) (k last : ℕ) (left next : PlainRows) (touched : ℕ → Bool) → last ≡ suc k
    → ((m n : ℕ) → Pair (view_of g claimed) m n → gone_after (view_of g claimed) reach k m n ≡ true → gone_after (view_of g claimed) reach k n m ≡ true → ⊥) →
    AtRound (view_of g claimed) reach last left next touched → (m n : ℕ) → IsOpen g left m n → HasStopped (view_of g claimed) reach last
open_stops g claimed reach k last left next touched is before at m n are =
    let pair : Pair (view_of g claimed) m n = record { left = are.one; right = are.other; place = are.place } in
    let back : Pair (view_of g claimed) n m = record { left = are.other; right = are.one; place = sym are.place } in
    let clear = or_parts (has_at left n m) (has_at left m n) are.neither in (
      k,
      is,
      before,
      (
        m,
        n,
        pair,
        gone_where_clear g claimed reach last left next touched at m n pair clear.0,
        gone_where_clear g claimed reach last left next touched at n m back clear.1,
      ),
    )
