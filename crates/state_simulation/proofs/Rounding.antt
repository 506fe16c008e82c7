-- From round to round.
use Rattle.std.proofs.Common.{◌≡◌, ℕ, zero, suc, ◌+◌, ◌*◌, ◌/◌, ◌%◌, ◌<◌, ◌≤◌, Bool, true, false, cond, not, ◌&&◌, ◌||◌, ltb, mod-lt, List, Option, None, Some, length}
use Rattle.std.proofs.Common.{arith, refl, sym, ap, subst, ◌∙◌, inl, inr}
use Rattle.std.proofs.lemmas.Bool.{cases_Bool, and_parts, and_from, and_left, and_right, or_left, both_ways, eqb-true, eq-eqb, lt-ltb, not-true, false_from_ne_true}
use Rattle.std.proofs.Math.Nat.{div-lt_iff_lt-mul}
use Rattle.std.proofs.lemmas.List.{with_items_is}
use Rattle.std.proofs.lemmas.Nat.{div-mul-add, mod-mul-add, mul-add-lt}
use Rattle.std.specs.Vec.{with_items}
use Rattle.std.specs.declared.vec.Vec.{Vec}
use Rattle.std.proofs.Math.Bool.{and-true, not-not}
use Rattle.bit_rows.specs.Tables.{PlainRows, has_at}
use Rattle.relation_law.specs.Relations.{Pair}
use Rattle.relation_law.specs.Rounds.{AreTouched, TakesNothingMore, fails, fails_at, gone_after, goes_by, is_pair, left_after, same_place}
use Rattle.relation_law.specs.Views.{View, view_of}
use Rattle.relation_law.proofs.Rounds.{pair_from, pair_to}
use Rattle.relation_law.proofs.Targets.{any_alike, by_targets, fails_alike, fails_by_either}
use Rattle.relation_law.proofs.Tests.{count_le, count_lt}
use Rattle.state_simulation.specs.Stages.{AreAt, AreSized, Knows, bits_set}
use Rattle.state_simulation.proofs.Putting.{same_bit}
use Rattle.state_simulation.specs.Targets.{AreLeft, AreWithin, AtRound, Put, differs, gone_in, is_outranked, is_touched, tells}
use Rattle.state_simulation.specs.Looked.{shown}
use Rattle.state_simulation.specs.declared.rounds.Rounds.{Rounds}
use Rattle.graph_base.specs.Graphs.{PlainGraph}
use Rattle.net_base.specs.declared.loc.LocSet.{LocSet}

positive : (size i : ℕ) → i < size * size → 0 < size
positive zero i lt = absurd (omega (arith, lt))
positive (suc size) i lt = omega arith

module _ (size : ℕ) (old new : PlainRows) (less : (n b : ℕ) → n < size → b < size → has_at new n b ≡ true → has_at old n b ≡ true) where
  less_at : (i : ℕ) → i < size * size → has_at new (i / size) (i % size) ≡ true → has_at old (i / size) (i % size) ≡ true
  less_at i lt = let some : 0 < size = positive size i lt in less (i / size) (i % size) ((div-lt_iff_lt-mul some).1 lt) (mod-lt i some)

  pub no_more : bits_set size new ≤ bits_set size old
  no_more = count_le (size * size) (λ i. has_at new (i / size) (i % size)) (λ i. has_at old (i / size) (i % size)) less_at

  pub fewer : (n b : ℕ) → n < size → b < size → has_at new n b ≡ false → has_at old n b ≡ true → bits_set size new < bits_set size old
  fewer n b ln lb gone was =
      let row : (n * size + b) / size ≡ n = div-mul-add n size b lb in
      let col : (n * size + b) % size ≡ b = mod-mul-add n size b lb in
      count_lt (size * size) (λ i. has_at new (i / size) (i % size)) (λ i. has_at old (i / size) (i % size)) (n * size + b) (mul-add-lt n size b size ln lb)
      (ap (λ k. has_at new k ((n * size + b) % size)) row ∙ ap (has_at new n) col ∙ gone) (ap (λ k. has_at old k ((n * size + b) % size)) row ∙ ap (has_at old n) col ∙ was) less_at

-- ---- before the first round

module _ (v : View) (reach : ℕ → ℕ → Bool) (left next : PlainRows) (touched : ℕ → Bool) (each : (t : ℕ) → t < v.size → touched t ≡ true)
    (all : (m n : ℕ) → m < v.size → n < v.size → has_at left n m ≡ same_place v m n)
    (ranked : (m n : ℕ) → m < v.size → n < v.size → has_at next n m ≡ (same_place v m n && not (is_outranked v m n))) where
  pub at_first : AtRound v reach 0 left next touched
  at_first = record {
    exact =
        λ m n lm ln. all m n lm ln
        ∙ sym (ap (λ z. (z && (ltb n v.size && same_place v m n)) && not false) (lt-ltb _ _ lm)
        ∙ ap (λ z. (z && same_place v m n) && not false) (lt-ltb _ _ ln) ∙ and-true (same_place v m n));
    within = λ m n lm ln h. all m n lm ln ∙ (and_parts _ _ (sym (ranked m n lm ln) ∙ h)).0;
    goes = λ m n lm ln h.
        let pair = pair_from v m n (and_parts (is_pair v m n) (not (gone_after v reach 0 m n)) h).0 in
        let same : same_place v m n ≡ true = eq-eqb _ _ pair.place in
        ap (λ z. is_outranked v m n || z)
        (any_alike v.size (λ t. v.step n t && fails_at v reach (gone_after v reach 0) m t) (λ t. touched t && (v.step n t && fails_at v reach (gone_after v reach 0) m t))
        (λ t lt. sym (ap (λ z. z && (v.step n t && fails_at v reach (gone_after v reach 0) m t)) (each t lt))))
        ∙ ap (λ z. z || goes_by v reach (gone_after v reach 0) touched m n) (sym (ap not (ranked m n lm ln ∙ ap (λ z. z && not (is_outranked v m n)) same) ∙ not-not (is_outranked v m n)));
  }

-- ---- a round

none_of : (p g f : Bool) → (p && not g) ≡ false → (p && not (g || f)) ≡ false
none_of true true f h = refl
none_of true false f h = absurd (cc)
none_of false g f h = refl

pub neither : (x g : Bool) → (x && not g) ≡ not (not x || g)
neither true g = refl
neither false g = refl

kept : (a b : Bool) → a ≡ true → (a && (a && not b)) ≡ false → b ≡ true
kept true true e h = refl
kept true false e h = absurd (cc)
kept false b e h = absurd (cc)

module _ (v : View) (reach : ℕ → ℕ → Bool) (k : ℕ) (left next : PlainRows) (touched : ℕ → Bool) (at : AtRound v reach k left next touched) where
  pub gone_same : (a t : ℕ) → a < v.size → t < v.size → same_place v a t ≡ true → gone_in left a t ≡ gone_after v reach k a t
  gone_same a t la lt same =
      ap not (at.exact a t la lt ∙ ap (λ z. z && not (gone_after v reach k a t)) (pair_to v a t (record { left = la; right = lt; place = eqb-true _ _ same }))) ∙ not-not (gone_after v reach k a t)

  goes_same : (m n : ℕ) → goes_by v reach (gone_in left) touched m n ≡ goes_by v reach (gone_after v reach k) touched m n
  goes_same m n = any_alike v.size (λ t. touched t && (v.step n t && fails_at v reach (gone_in left) m t)) (λ t. touched t && (v.step n t && fails_at v reach (gone_after v reach k) m t))
      (λ t lt. ap (λ z. touched t && (v.step n t && z)) (fails_alike v reach (gone_after v reach k) (gone_in left) t (λ a la same. gone_same a t la lt same) m))

  -- a test of what can be reached that tells the same of what has gone
  pub goes_told : (by : ℕ → ℕ → Bool)
      → ((a m t : ℕ) → a < v.size → m < v.size → t < v.size → same_place v a t ≡ true → (by a m && gone_in left a t) ≡ (reach a m && gone_in left a t))
      → (m n : ℕ) → m < v.size →
      goes_by v by (gone_in left) touched m n ≡ goes_by v reach (gone_in left) touched m n
  goes_told by same m n lm = any_alike v.size (λ t. touched t && (v.step n t && fails_at v by (gone_in left) m t)) (λ t. touched t && (v.step n t && fails_at v reach (gone_in left) m t))
      (λ t lt. ap (λ z. touched t && (v.step n t && z)) (fails_by_either v by reach (gone_in left) m t (λ a la e. same a m t la lm lt e)))

module _ (v : View) (reach : ℕ → ℕ → Bool) (k : ℕ) (left next new : PlainRows) (touched : ℕ → Bool) (at : AtRound v reach k left next touched)
    (taken : (n m : ℕ) → n < v.size → m < v.size → has_at new n m ≡ (has_at next n m && not (goes_by v reach (gone_in left) touched m n))) where
  -- what is taken is what goes in the round
  pub taken_left : AreLeft v reach (suc k) new
  taken_left m n lm ln = elim (cases_Bool (left_after v reach k m n)) [
    | inl e ↦ (
        let p = and_parts (is_pair v m n) (not (gone_after v reach k m n)) e in
        taken n m ln lm ∙ ap (λ z. has_at next n m && not z) (goes_same v reach k left next touched at m n)
        ∙ neither (has_at next n m) (goes_by v reach (gone_after v reach k) touched m n) ∙ ap not (sym (at.goes m n lm ln e))
        ∙ sym (ap (λ z. z && not (gone_after v reach k m n || fails v reach (gone_after v reach k) m n)) p.0 ∙ ap (λ z. not (z || fails v reach (gone_after v reach k) m n)) (not-true _ p.1)))
    | inr e ↦ (
        let none : has_at next n m ≡ false = false_from_ne_true _ (λ h. both_ways _ (at.exact m n lm ln ∙ e) (at.within m n lm ln h)) in
        taken n m ln lm ∙ and_left _ _ none ∙ sym (none_of (is_pair v m n) (gone_after v reach k m n) (fails v reach (gone_after v reach k) m n) e))
  ]

  -- a pair of rows that don't differ stays
  stays : (m n : ℕ) → Pair v m n → differs left new n m ≡ false → gone_after v reach k m n ≡ false → gone_after v reach (suc k) m n ≡ false
  stays m n pair same g =
      let is = pair_to v m n pair in
      let was : has_at left n m ≡ true = at.exact m n pair.left pair.right ∙ and_from _ _ is (ap not g) in
      not-true _ (and_parts (is_pair v m n) (not (gone_after v reach (suc k) m n)) (sym (taken_left m n pair.left pair.right) ∙ kept (has_at left n m) (has_at new n m) was same)).1

  pub settled_where_same : ((n b : ℕ) → n < v.size → differs left new n b ≡ false) → TakesNothingMore v reach k
  settled_where_same same m n pair now = elim (cases_Bool (gone_after v reach k m n)) [
    | inl g ↦ g
    | inr g ↦ absurd (both_ways _ (stays m n pair (same n m pair.right) g) now)
  ]

  pub left_where_same : ((n b : ℕ) → n < v.size → differs left new n b ≡ false) → AreLeft v reach k new
  left_where_same same m n lm ln = taken_left m n lm ln ∙ elim (cases_Bool (left_after v reach k m n)) [
    | inl e ↦ (
        let p = and_parts (is_pair v m n) (not (gone_after v reach k m n)) e in
        ap (λ z. is_pair v m n && not z) (stays m n (pair_from v m n p.0) (same n m ln) (not-true _ p.1)) ∙ ap (λ z. z && true) p.0 ∙ sym e)
    | inr e ↦ none_of (is_pair v m n) (gone_after v reach k m n) (fails v reach (gone_after v reach k) m n) e ∙ sym e
  ]

  -- no bit is new
  pub less : (n m : ℕ) → n < v.size → m < v.size → has_at new n m ≡ true → has_at left n m ≡ true
  less n m ln lm h = at.within m n lm ln (and_parts (has_at next n m) _ (sym (taken n m ln lm) ∙ h)).0

  module _ (after : PlainRows) (marked : ℕ → Bool) (rows : (n b : ℕ) → n < v.size → has_at after n b ≡ has_at new n b)
      (quiet : (t b : ℕ) → t < v.size → marked t ≡ false → differs left new t b ≡ false) where
    are_touched : AreTouched v reach k marked
    are_touched t a lt la none same = elim (cases_Bool (gone_after v reach k a t)) [
      | inl g ↦ or_left _ _ g ∙ sym g
      | inr g ↦ stays a t (record { left = la; right = lt; place = eqb-true _ _ same }) (quiet t a lt none) g ∙ sym g
    ]

    pub at_next : AtRound v reach (suc k) after new marked
    at_next = record {
      exact = λ m n lm ln. rows n m ln ∙ taken_left m n lm ln;
      within = λ m n lm ln h. rows n m ln ∙ h;
      goes = λ m n lm ln h.
          let g : gone_after v reach (suc k) m n ≡ false = not-true _ (and_parts (is_pair v m n) (not (gone_after v reach (suc k) m n)) h).1 in
          by_targets v reach k marked are_touched m n g ∙ sym (ap (λ z. not z || goes_by v reach (gone_after v reach (suc k)) marked m n) (taken_left m n lm ln ∙ h));
    }

-- ---- a round over the rows of a graph

-- what is known of what can be reached tells the next round all that it asks
known : (g : PlainGraph) (claimed : LocSet) (reach : ℕ → ℕ → Bool) (k : ℕ) (left next : PlainRows) (touched : ℕ → Bool)
    → AtRound (view_of g claimed) reach k left next touched → (onwards : Option PlainRows) → Knows g reach k onwards →
    (a m t : ℕ) → a < length g.nodes → m < length g.nodes → t < length g.nodes → same_place (shown g) a t ≡ true → (tells onwards a m && gone_in left a t) ≡ (reach a m && gone_in left a t)
known g claimed reach k left next touched at None first a m t la lm lt same =
    let none : gone_in left a t ≡ false = gone_same (view_of g claimed) reach k left next touched at a t la lt same ∙ ap (λ z. gone_after (view_of g claimed) reach z a t) first in
    sym (and_right (reach a m) (gone_in left a t) none)
known g claimed reach k left next touched at (Some onwards) told a m t la lm lt same = ap (λ z. z && gone_in left a t) (told a m la lm)

-- what is taken away leaves no new bit
pub taken_within : (size : ℕ) (left next new : PlainRows) (goes : ℕ → ℕ → Bool) → AreWithin size next left
    → ((n m : ℕ) → n < size → m < size → has_at new n m ≡ (has_at next n m && not (goes n m))) → AreWithin size new left
taken_within size left next new goes within taken n b ln lb h = within n b ln lb (and_parts (has_at next n b) _ (sym (taken n b ln lb) ∙ h)).0

-- what the next round takes away from what there was, and puts there
pub record Advances (g : PlainGraph) (old : Rounds) (new after : PlainRows) (marked : List Bool) (changed : Bool) : Type 0 where
  pub taken : (n m : ℕ) → n < length g.nodes → m < length g.nodes
      → has_at new n m ≡ (has_at old.next n m && not (goes_by (shown g) (tells old.onwards) (gone_in old.left) (is_touched old.touched.items) m n))
  pub put : Put (length g.nodes) new old.left after marked changed

-- as it is told with the marks that are lent for it
pub advances : (g : PlainGraph) (old : Rounds) {new after : PlainRows} {marked read lent : List Bool} {changed : Bool}
    → read ≡ old.touched.items → lent ≡ old.touched.items → length old.touched.items ≡ length g.nodes
    → ((n m : ℕ) → n < length g.nodes → m < length g.nodes
    → has_at new n m ≡ (has_at old.next n m && not (goes_by (shown g) (tells old.onwards) (gone_in old.left) (is_touched read) m n)))
    → Put (length lent) new old.left after marked changed → Advances g old new after marked changed
advances g old {new} {after} {marked} {read} {lent} {changed} same is size taken put = record {
  taken = λ n m ln lm. taken n m ln lm ∙ ap (λ l. has_at old.next n m && not (goes_by (shown g) (tells old.onwards) (gone_in old.left) (is_touched l) m n)) same;
  put = subst (λ (n : ℕ). Put n new old.left after marked changed) (ap length is ∙ size) put;
}

-- what is lent of a vector stands in it afterwards
pub lent_back : {A Z : Type 0} (v : Vec A Z) {lent now : List A} → lent ≡ v.items → length now ≡ length lent → (with_items v now).items ≡ now
lent_back v {lent} {now} value len = let same = ap length value in with_items_is v now (omega (arith, len, same, v.ok.0))

module _ {g : PlainGraph} {old : Rounds} {new after : PlainRows} {marked : List Bool} {changed : Bool} (by : Advances g old new after marked changed) where
  module _ (claimed : LocSet) (reach : ℕ → ℕ → Bool) (k : ℕ) (knows : Knows g reach k old.onwards) (at : AreAt g claimed reach k old) where
    taken_told : (n m : ℕ) → n < length g.nodes → m < length g.nodes
        → has_at new n m ≡ (has_at old.next n m && not (goes_by (view_of g claimed) reach (gone_in old.left) (is_touched old.touched.items) m n))
    taken_told n m ln lm = by.taken n m ln lm
        ∙ ap (λ z. has_at old.next n m && not z) (goes_told (view_of g claimed) reach k old.left old.next (is_touched old.touched.items) at (tells old.onwards)
        (known g claimed reach k old.left old.next (is_touched old.touched.items) at old.onwards knows) m n lm)

    pub advanced : AtRound (view_of g claimed) reach (suc k) after new (is_touched marked)
    advanced = at_next (view_of g claimed) reach k old.left old.next new (is_touched old.touched.items) at taken_told after (is_touched marked) by.put.rows by.put.quiet

    pub advanced_settled : changed ≡ false → TakesNothingMore (view_of g claimed) reach k × AreLeft (view_of g claimed) reach k after
    advanced_settled e =
        let same : (n b : ℕ) → n < length g.nodes → differs old.left new n b ≡ false = by.put.same e in
        let rows : AreLeft (view_of g claimed) reach k new = left_where_same (view_of g claimed) reach k old.left old.next new (is_touched old.touched.items) at taken_told same in
        (settled_where_same (view_of g claimed) reach k old.left old.next new (is_touched old.touched.items) at taken_told same, λ m n lm ln. by.put.rows n m ln ∙ rows m n lm ln)

  module _ (sized : AreSized g old) where
    within : AreWithin (length g.nodes) new old.left
    within = taken_within (length g.nodes) old.left old.next new (λ n m. goes_by (shown g) (tells old.onwards) (gone_in old.left) (is_touched old.touched.items) m n) sized.within by.taken

    -- a row that isn't touched is as it was
    pub advanced_quiet : (n b : ℕ) → n < length g.nodes → b < length g.nodes → is_touched marked n ≡ false → has_at after n b ≡ has_at old.left n b
    advanced_quiet n b ln lb none = by.put.rows n b ln ∙ sym (same_bit (has_at old.left n b) (has_at new n b) (within n b ln lb) (by.put.quiet n b ln none))

    pub advanced_fewer : bits_set (length g.nodes) after + cond changed 1 0 ≤ bits_set (length g.nodes) old.left
    advanced_fewer =
        let lower : (n b : ℕ) → n < length g.nodes → b < length g.nodes → has_at after n b ≡ true → has_at old.left n b ≡ true =
        λ n b ln lb h. within n b ln lb (sym (by.put.rows n b ln) ∙ h) in
        elim (cases_Bool changed) [
          | inl e ↦ (
              let x = by.put.lost e in
              let lb : x.1 < length g.nodes = omega (arith, x.3, sized.left.bits) in
              let both = and_parts (has_at old.left x.0 x.1) (has_at old.left x.0 x.1 && not (has_at new x.0 x.1)) x.4 in
              let gone : has_at after x.0 x.1 ≡ false = by.put.rows x.0 x.1 x.2 ∙ not-true _ (and_parts (has_at old.left x.0 x.1) (not (has_at new x.0 x.1)) both.1).1 in
              let strict : bits_set (length g.nodes) after < bits_set (length g.nodes) old.left = fewer (length g.nodes) old.left after lower x.0 x.1 x.2 lb gone both.0 in
              let one : ◌≡◌ {A = ℕ} (cond changed 1 0) 1 = ap (λ z. cond z 1 0) e in
              omega (arith, strict, one))
          | inr e ↦ (
              let most : bits_set (length g.nodes) after ≤ bits_set (length g.nodes) old.left = no_more (length g.nodes) old.left after lower in
              let none : ◌≡◌ {A = ℕ} (cond changed 1 0) 0 = ap (λ z. cond z 1 0) e in
              omega (arith, most, none))
        ]
