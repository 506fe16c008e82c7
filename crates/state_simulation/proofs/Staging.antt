-- From the first round to the last.
use Rattle.std.proofs.Common.{◌≡◌, ℕ, ◌<◌, Bool, true, false, ltb, not, ◌&&◌, ◌||◌, List, length, Option, Some, arith, refl, sym, ap, subst, ◌∙◌, inl, inr}
use Rattle.std.specs.Option.{IfSome}
use Rattle.std.proofs.lemmas.Bool.{cases_Bool, and_left, and_parts, le-ltb, ltb-true, not-false, or_cases, or_left, or_parts, or_right}
use Rattle.std.specs.Cmp as cmp
use Rattle.bit_rows.specs.Tables.{PlainRows, has_at}
use Rattle.graph_base.specs.Graphs.{PlainGraph}
use Rattle.graph_base.specs.Runs.{place_of}
use Rattle.net_base.specs.declared.loc.LocSet.{LocSet}
use Rattle.relation_law.specs.Relations.{IsClosed, IsGreatest, IsTotal, Pair}
use Rattle.relation_law.specs.Rounds.{IsReach, TakesNothingMore, gone_after, goes_by, is_pair, left_after}
use Rattle.relation_law.specs.Views.{View, view_of}
use Rattle.relation_law.proofs.Rounds.{IsSound, greatest_between, open_pair, pair_from, pair_to, settled_is_greatest}
use Rattle.state_simulation.specs.declared.rounds.Rounds.{Rounds}
use Rattle.state_simulation.specs.Looked.{shown}
use Rattle.state_simulation.specs.Stages.{AreBound, AreSized, IsOpen, Knows, above_in, asks_later, has_either}
use Rattle.state_simulation.specs.Targets.{AreLeft, AreTold, AtRound, is_touched}

-- ---- what is known of what can be reached

pub told_of : (g : PlainGraph) (s : Rounds) (onwards : PlainRows) → AreSized g s → s.onwards ≡ Some onwards → AreTold g onwards
told_of g s onwards sized e = subst (λ (o : Option PlainRows). IfSome o (AreTold g)) e sized.onwards

pub knows_exact : (g : PlainGraph) (claimed : LocSet) (reach : ℕ → ℕ → Bool) (k : ℕ) (s : Rounds) (onwards : PlainRows)
    → IsReach (view_of g claimed) reach → AreSized g s → s.onwards ≡ Some onwards → Knows g reach k s.onwards
knows_exact g claimed reach k s onwards exact sized e =
    let told = told_of g s onwards sized e in
    subst (Knows g reach k) (sym e)
    (λ a b la lb. cmp.both_ways (has_at onwards a b) (reach a b) (λ h. (exact a b la lb).1 ((told.exact a b la).0 h)) (λ h. (told.exact a b la).1 ((exact a b la lb).0 h)))

pub knows_own : (g : PlainGraph) (k : ℕ) (s : Rounds) (onwards : PlainRows) → s.onwards ≡ Some onwards → Knows g (has_at onwards) k s.onwards
knows_own g k s onwards e = subst (Knows g (has_at onwards) k) (sym e) (λ a b la lb. refl)

pub told_reach : (g : PlainGraph) (claimed : LocSet) (s : Rounds) (onwards : PlainRows) → AreSized g s → s.onwards ≡ Some onwards → IsReach (view_of g claimed) (has_at onwards)
told_reach g claimed s onwards sized e = λ a b la lb. (told_of g s onwards sized e).exact a b la

-- ---- open pairs

module _ (g : PlainGraph) (claimed : LocSet) (reach : ℕ → ℕ → Bool) (k : ℕ) (left next : PlainRows) (touched : ℕ → Bool) (at : AtRound (view_of g claimed) reach k left next touched) where
  pub gone_where_clear : (m n : ℕ) → Pair (view_of g claimed) m n → has_at left n m ≡ false → gone_after (view_of g claimed) reach k m n ≡ true
  gone_where_clear m n pair clear =
      not-false _ (sym (ap (λ z. z && not (gone_after (view_of g claimed) reach k m n)) (pair_to (view_of g claimed) m n pair)) ∙ sym (at.exact m n pair.left pair.right) ∙ clear)

  pub open_is_partial : IsSound (view_of g claimed) reach → (m n : ℕ) → IsOpen g left m n → (r : ℕ → ℕ → Bool) → IsClosed (view_of g claimed) r → IsTotal (view_of g claimed) r → ⊥
  open_is_partial sound m n are r closed total =
      let pair : Pair (view_of g claimed) m n = record { left = are.one; right = are.other; place = are.place } in
      let back : Pair (view_of g claimed) n m = record { left = are.other; right = are.one; place = sym are.place } in
      let clear = or_parts (has_at left n m) (has_at left m n) are.neither in
      open_pair (view_of g claimed) reach r k m n sound closed pair (gone_where_clear m n pair clear.0) (gone_where_clear n m back clear.1) total

-- where each touched row was asked of the nodes that don't ask later themselves, it was asked of all
pub bound_each : (g : PlainGraph) (left : PlainRows) (touched : List Bool) →
    ((n m : ℕ) → n < length g.nodes → m < length g.nodes → is_touched touched n ≡ true → place_of g m ≡ place_of g n → asks_later touched m n ≡ false → has_either left m n ≡ true) →
    (n m : ℕ) → n < length g.nodes → m < length g.nodes → is_touched touched n ≡ true → place_of g m ≡ place_of g n → has_either left m n ≡ true
bound_each g left touched each n m ln lm e place = elim (cases_Bool (asks_later touched m n)) [
  | inl later ↦ (
      let both = and_parts (ltb n m) (is_touched touched m) later in
      let none : asks_later touched n m ≡ false = and_left (ltb m n) (is_touched touched n) (le-ltb m n (omega (arith, ltb-true _ _ both.0))) in
      swapped left n m (each m n lm ln both.1 (sym place) none))
  | inr first ↦ each n m ln lm e place first
]
  where
    swapped : (left : PlainRows) (n m : ℕ) → has_either left n m ≡ true → has_either left m n ≡ true
    swapped left n m h = elim (or_cases (has_at left m n) (has_at left n m) h) [
      | inl one ↦ or_right _ _ one
      | inr other ↦ or_left _ _ other
    ]

pub bound_next : (g : PlainGraph) (old new : PlainRows) (touched : List Bool) → AreBound g old
    → ((n b : ℕ) → n < length g.nodes → b < length g.nodes → is_touched touched n ≡ false → has_at new n b ≡ has_at old n b) →
    ((n m : ℕ) → n < length g.nodes → m < length g.nodes → is_touched touched n ≡ true → place_of g m ≡ place_of g n → has_either new m n ≡ true) → AreBound g new
bound_next g old new touched before quiet bound m n lm ln place = elim (cases_Bool (is_touched touched n)) [
  | inl e ↦ bound n m ln lm e place
  | inr e ↦ elim (cases_Bool (is_touched touched m)) [
    | inl f ↦ elim (or_cases (has_at new m n) (has_at new n m) (bound m n lm ln f (sym place))) [
      | inl one ↦ or_right _ _ one
      | inr other ↦ or_left _ _ other
    ]
    | inr f ↦ ap (λ z. z || has_at new m n) (quiet n m ln lm e) ∙ ap (λ z. has_at old n m || z) (quiet m n lm ln f) ∙ before m n lm ln place
  ]
]

-- where a row that isn't touched has all nodes at its location, it is enough to ask of the touched ones
pub bound_touched : (g : PlainGraph) (left : PlainRows) (touched : List Bool) → ((m n : ℕ) → Pair (shown g) m n → is_touched touched n ≡ false → has_at left n m ≡ true) →
    ((n m : ℕ) → n < length g.nodes → m < length g.nodes → is_touched touched n ≡ true → place_of g m ≡ place_of g n → has_either left m n ≡ true) → AreBound g left
bound_touched g left touched quiet bound m n lm ln place = elim (cases_Bool (is_touched touched n)) [
  | inl e ↦ bound n m ln lm e place
  | inr e ↦ or_left _ _ (quiet m n (record { left = lm; right = ln; place = place }) e)
]

-- ---- back at a round

pub same_at : (v : View) (reach : ℕ → ℕ → Bool) (k : ℕ) (left next left_now next_now : PlainRows) (touched : ℕ → Bool) → AtRound v reach k left next touched
    → ((n b : ℕ) → n < v.size → b < v.size → has_at left_now n b ≡ has_at left n b) →
    ((n b : ℕ) → n < v.size → b < v.size → has_at next_now n b ≡ has_at next n b) → AtRound v reach k left_now next_now touched
same_at v reach k left next left_now next_now touched at lefts nexts = record {
  exact = λ m n lm ln. lefts n m ln lm ∙ at.exact m n lm ln;
  within = λ m n lm ln h. lefts n m ln lm ∙ at.within m n lm ln (sym (nexts n m ln lm) ∙ h);
  goes = λ m n lm ln h. at.goes m n lm ln h ∙ ap (λ z. not z || goes_by v reach (gone_after v reach k) touched m n) (sym (nexts n m ln lm));
}

-- ---- what is left at the end

pub above_left : (g : PlainGraph) (claimed : LocSet) (reach : ℕ → ℕ → Bool) (k : ℕ) (left : PlainRows) → AreLeft (view_of g claimed) reach k left
    → (m n : ℕ) → above_in (view_of g claimed) left m n ≡ left_after (view_of g claimed) reach k m n
above_left g claimed reach k left are m n = elim (cases_Bool (is_pair (view_of g claimed) m n)) [
  | inl e ↦ (let pair = pair_from (view_of g claimed) m n e in ap (λ z. z && has_at left n m) e ∙ are m n pair.left pair.right)
  | inr e ↦ and_left _ _ e ∙ sym (and_left _ _ e)
]

pub greatest_left : (g : PlainGraph) (claimed : LocSet) (reach : ℕ → ℕ → Bool) (k : ℕ) (left : PlainRows) → IsReach (view_of g claimed) reach
    → TakesNothingMore (view_of g claimed) reach k → AreLeft (view_of g claimed) reach k left →
    IsGreatest (view_of g claimed) (above_in (view_of g claimed) left)
greatest_left g claimed reach k left exact settled are =
    subst (IsGreatest (view_of g claimed)) (λ i m n. sym (above_left g claimed reach k left are m n) i)
    (settled_is_greatest (view_of g claimed) reach exact k settled)

-- where the first round takes nothing away, nothing has to be known of what can be reached
pub greatest_first : (g : PlainGraph) (claimed : LocSet) (left : PlainRows)
    → ((reach : ℕ → ℕ → Bool) → TakesNothingMore (view_of g claimed) reach 0 × AreLeft (view_of g claimed) reach 0 left)
    → IsGreatest (view_of g claimed) (above_in (view_of g claimed) left)
greatest_first g claimed left settled =
    let high : ℕ → ℕ → Bool = λ a b. true in
    subst (IsGreatest (view_of g claimed)) (λ i m n. sym (above_left g claimed high 0 left (settled high).1 m n) i)
    (greatest_between (view_of g claimed) (λ a b. false) high 0 (λ a b la lb h. absurd (cc)) (λ a b la lb leads. refl) (settled high).0 (λ m n. refl))
