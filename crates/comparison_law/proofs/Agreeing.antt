-- The rows of a place agree exactly where the place differs in no words.
use Rattle.std.proofs.Common.{◌≡◌, ℕ, ◌≤◌, Bool, true, false, List, Option, Some, None, refl, sym, ◌∙◌, arith, inl, inr, ◌↔◌}
use Rattle.std.specs.Prelude.{◌&&◌, ◌||◌, ◌≢◌, IsTrue, is_some, nat_lt}
use Rattle.std.proofs.lemmas.Bool.{cases_lt, lt-ltb, le-ltb, ltb-true, true≢false, false≢true}
use Rattle.list_law.proofs.Options.{cases_Option}
use Rattle.list_law.proofs.Truth.{same_tests}
use Rattle.net_base.specs.Network.{PlainNet}
use Rattle.net_base.specs.Prefixes.{PlainPrefix}
use Rattle.policy_base.specs.Policies.{PlainPolicy}
use Rattle.compare_base.specs.declared.rows.Place.{Place}
use Rattle.compare_base.specs.declared.rows.Row.{Row}
use Rattle.compare_base.specs.declared.rows.Words.{Words}
use Rattle.compare_base.specs.Ranks.{HasRow}
use Rattle.compare_law.specs.Laws.{RowsAgree}
use Rattle.pair_rows.specs.Rows.{AreRows}
use Rattle.row_words.specs.Agreeing.{Agree, AreRows as AreSome}
use Rattle.row_words.specs.Clashes.{apart, clashes, is_common, ranks_differ}
use Rattle.row_words.specs.WordsOfRows.{shown_rows, words_of}
use Rattle.row_words.proofs.Agreements.{from_agree, to_agree}
use Rattle.pair_changes.specs.Changes.{Differs, IsPlace}
use Rattle.comparison_law.proofs.Places.{have_rows}

-- ---- order

-- two tests of which neither holds without the other
same_from_apart : (a b : Bool) → apart a b ≡ false → a ≡ b
same_from_apart true true is = refl
same_from_apart true false is = absurd cc
same_from_apart false true is = absurd cc
same_from_apart false false is = refl

apart_from_same : (a b : Bool) → a ≡ b → apart a b ≡ false
apart_from_same true true is = refl
apart_from_same true false is = absurd cc
apart_from_same false true is = absurd cc
apart_from_same false false is = refl

neither : (a b : Bool) → (a || b) ≡ false → (a ≡ false) × (b ≡ false)
neither true b is = absurd cc
neither false b is = (refl, is)

no_later : (a b c d : ℕ) → nat_lt b a ≡ nat_lt d c → a ≤ b → c ≤ d
no_later a b c d same le = elim (cases_lt d c) [
  | inl less ↦ absurd (true≢false (sym (same ∙ lt-ltb d c less) ∙ le-ltb b a le))
  | inr le_cd ↦ le_cd
]

-- two walks are ordered alike exactly where they don't clash
alike_from : (a c b d : ℕ) → ranks_differ a c b d ≡ false → (a ≤ b) ↔ (c ≤ d)
alike_from a c b d is =
    let same = same_from_apart (nat_lt b a) (nat_lt d c) (neither (apart (nat_lt a b) (nat_lt c d)) (apart (nat_lt b a) (nat_lt d c)) is).1 in
    (no_later a b c d same, no_later c d a b (sym same))

same_less : (a b c d : ℕ) → (b ≤ a) ↔ (d ≤ c) → nat_lt a b ≡ nat_lt c d
same_less a b c d alike = same_tests (nat_lt a b) (nat_lt c d) (λ less. to c d (λ le. off a b less (alike.1 le))) (λ less. to a b (λ le. off c d less (alike.0 le)))
  where
    to : (m n : ℕ) → (n ≤ m → ⊥) → nat_lt m n ≡ true
    to m n never = elim (cases_lt m n) [
      | inl less ↦ lt-ltb m n less
      | inr le ↦ absurd (never le)
    ]

    off : (m n : ℕ) → nat_lt m n ≡ true → n ≤ m → ⊥
    off m n less le = absurd (omega (arith, ltb-true m n less, le))

both_false : (a b : Bool) → a ≡ false → b ≡ false → (a || b) ≡ false
both_false true b one other = absurd cc
both_false false b one other = other

from_alike : (a c b d : ℕ) → (a ≤ b) ↔ (c ≤ d) → (b ≤ a) ↔ (d ≤ c) → ranks_differ a c b d ≡ false
from_alike a c b d one other =
    both_false (apart (nat_lt a b) (nat_lt c d)) (apart (nat_lt b a) (nat_lt d c)) (apart_from_same (nat_lt a b) (nat_lt c d) (same_less a b c d other))
    (apart_from_same (nat_lt b a) (nat_lt d c) (same_less b a d c one))

-- ---- rows

both_or_neither : (old new : Option ℕ) → (is_some old && is_some new) ≡ true → is_some old ≡ is_some new
both_or_neither (Some i) (Some j) is = refl
both_or_neither (Some i) None is = absurd cc
both_or_neither None new is = absurd cc

common_from : (row : Row) → row ≢ record { old = None; new = None } → is_some row.old ≡ is_some row.new → is_common row ≡ true
common_from row some same = by row.old row.new refl refl same
  where
    by : (old new : Option ℕ) → row.old ≡ old → row.new ≡ new → is_some old ≡ is_some new → is_common row ≡ true
    by (Some i) (Some j) e f h = rw (e, f) refl
    by (Some i) None e f h = absurd cc
    by None (Some j) e f h = absurd cc
    by None None e f h = absurd (some (λ i. record { old = e i; new = f i }))

some_rank : (row : Row) → row ≢ record { old = None; new = None } → IsTrue (is_some row.old || is_some row.new)
some_rank row some = by row.old row.new refl refl
  where
    by : (old new : Option ℕ) → row.old ≡ old → row.new ≡ new → IsTrue (is_some row.old || is_some row.new)
    by (Some i) new e f = rw e refl
    by None (Some j) e f = rw (e, f) refl
    by None None e f = absurd (some (λ i. record { old = e i; new = f i }))

clash_is : (x y : Row) (a b c d : ℕ) → x.old ≡ Some a → y.old ≡ Some b → x.new ≡ Some c → y.new ≡ Some d → clashes x y ≡ ranks_differ a c b d
clash_is x y a b c d e f g h = rw (e, f, g, h) refl

module _ (net : PlainNet) (old new : PlainPolicy) (p : PlainPrefix) (place : Place) where
  module _ (rows : List Row) (are : AreRows net old new p place rows) where
    some_of_each : AreSome rows
    some_of_each row at = some_rank row ((are.those row).0 at).3

    agree_there : Agree rows → RowsAgree net old new p place.router place.peer
    agree_there agree = record {
      both = λ row has. both_or_neither row.old row.new (agree.common row ((are.those row).1 has));
      order = λ x y a b c d one other at_a at_b at_c at_d.
          alike_from a c b d (sym (clash_is x y a b c d at_a at_b at_c at_d) ∙ agree.ordered x y ((are.those x).1 one) ((are.those y).1 other));
    }

    agree_here : RowsAgree net old new p place.router place.peer → Agree rows
    agree_here agree = record {
      common = λ row at. let has = (are.those row).0 at in common_from row has.3 (agree.both row has);
      ordered = λ x y at there. ordered x y ((are.those x).0 at) ((are.those y).0 there);
    }
      where
        ordered : (x y : Row) → HasRow net old new p place.router place.peer x → HasRow net old new p place.router place.peer y → clashes x y ≡ false
        ordered x y one other = by x.old x.new y.old y.new refl refl refl refl
          where
            by : (a c b d : Option ℕ) → x.old ≡ a → x.new ≡ c → y.old ≡ b → y.new ≡ d → clashes x y ≡ false
            by None c b d e f g h = rw e refl
            by (Some a) None b d e f g h = rw (e, f) refl
            by (Some a) (Some c) None d e f g h = rw (e, f, g) refl
            by (Some a) (Some c) (Some b) None e f g h = rw (e, f, g, h) refl
            by (Some a) (Some c) (Some b) (Some d) e f g h =
                clash_is x y a b c d e g f h
                ∙ from_alike a c b d (agree.order x y a b c d one other e g f h) (agree.order y x b a d c other one g e h f)

  -- ---- where no words tell of the place

  module _ (is_place : IsPlace net old new p place) (silent : (words : Words) (shown : List Row) → ¬ Differs net old new p words shown place) where
    agree_by : (rows : List Row) → AreRows net old new p place rows → RowsAgree net old new p place.router place.peer
    agree_by rows are = elim (cases_Option (words_of rows)) [
      | inl none ↦ agree_there rows are (to_agree rows (some_of_each rows are) none)
      | inr some ↦ absurd (silent some.0 (shown_rows rows) (record { is_place = is_place; rows = rows; are_rows = are; in_words = some.1; are_shown = refl }))
    ]

    not_without : ¬ RowsAgree net old new p place.router place.peer → ⊥
    not_without never = have_rows net old new p place (λ rows. never (agree_by rows.0 rows.1))

    same_or_not : (a b : Bool) → (¬ (a ≡ b) → ⊥) → a ≡ b
    same_or_not true true never = refl
    same_or_not true false never = absurd (never (λ is. true≢false is))
    same_or_not false true never = absurd (never (λ is. false≢true is))
    same_or_not false false never = refl

    no_less : (m n : ℕ) → (¬ (m ≤ n) → ⊥) → m ≤ n
    no_less m n never = elim (cases_lt n m) [
      | inl less ↦ absurd (never (λ le. absurd (omega (arith, less, le))))
      | inr le ↦ le
    ]

    pub rows_agree : RowsAgree net old new p place.router place.peer
    rows_agree = record {
      both = λ row has. same_or_not (is_some row.old) (is_some row.new) (λ never. not_without (λ agree. never (agree.both row has)));
      order = λ x y a b c d one other at_a at_b at_c at_d. (
        λ le. no_less c d (λ never. not_without (λ agree. never ((agree.order x y a b c d one other at_a at_b at_c at_d).0 le))),
        λ le. no_less a b (λ never. not_without (λ agree. never ((agree.order x y a b c d one other at_a at_b at_c at_d).1 le))),
      );
    }

  -- ---- and where some do

  pub rows_differ : (words : Words) (shown : List Row) → Differs net old new p words shown place → ¬ RowsAgree net old new p place.router place.peer
  rows_differ words shown differs agree =
      let none = from_agree differs.rows (agree_here differs.rows differs.are_rows agree) in
      let clash : Some words ≡ None = sym differs.in_words ∙ none in
      absurd cc
