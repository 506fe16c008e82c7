-- When a kind is of places that differ so: it has the same words and rows.
use Rattle.std.proofs.Common.{◌≡◌, Bool, true, false, List, [], ◌∷◌, refl, ap, ap₂, ◌∙◌, Option, Some, None}
use Rattle.std.specs.Prelude.{◌&&◌}
use Rattle.std.proofs.Math.Bool.{beq}
use Rattle.std.proofs.lemmas.Bool.{and_from, and_parts, false≢true}
use lib.Pointwise.{pointwise}
use Rattle.compare_base.specs.declared.rows.Kind.{Kind}
use Rattle.compare_base.specs.declared.rows.Row.{Row}
use Rattle.compare_base.specs.declared.rows.Words.{Words}
use Rattle.compare_base.specs.declared.rows.Words.TheVariants.{Partly, Unclaimed, Claimed, Replaced}
use Rattle.compare_base.specs.Same.{same_row, same_words}
use Rattle.place_rows.proofs.Order.{row_is, row_same}
use Rattle.pair_changes.specs.declared.ways.Way.{Way}
use Rattle.pair_changes.specs.Kinds.{differs_so, is_of}

beq_is : (a b : Bool) → beq a b ≡ true → a ≡ b
beq_is true true is = refl
beq_is true false is = absurd (false≢true is)
beq_is false true is = absurd (false≢true is)
beq_is false false is = refl

beq_same : (a : Bool) → beq a a ≡ true
beq_same true = refl
beq_same false = refl

words_are : (a b : Words) → same_words a b ≡ true → a ≡ b
words_are (Partly l g r) (Partly l' g' r') is =
    let first = and_parts (beq l l') (beq g g' && beq r r') is in
    let second = and_parts (beq g g') (beq r r') first.1 in
    λ i. Partly (beq_is l l' first.0 i) (beq_is g g' second.0 i) (beq_is r r' second.1 i)
words_are (Partly l g r) Unclaimed is = absurd (false≢true is)
words_are (Partly l g r) Claimed is = absurd (false≢true is)
words_are (Partly l g r) Replaced is = absurd (false≢true is)
words_are Unclaimed (Partly l g r) is = absurd (false≢true is)
words_are Unclaimed Unclaimed is = refl
words_are Unclaimed Claimed is = absurd (false≢true is)
words_are Unclaimed Replaced is = absurd (false≢true is)
words_are Claimed (Partly l g r) is = absurd (false≢true is)
words_are Claimed Unclaimed is = absurd (false≢true is)
words_are Claimed Claimed is = refl
words_are Claimed Replaced is = absurd (false≢true is)
words_are Replaced (Partly l g r) is = absurd (false≢true is)
words_are Replaced Unclaimed is = absurd (false≢true is)
words_are Replaced Claimed is = absurd (false≢true is)
words_are Replaced Replaced is = refl

words_same : (a : Words) → same_words a a ≡ true
words_same (Partly l g r) = and_from _ _ (beq_same l) (and_from _ _ (beq_same g) (beq_same r))
words_same Unclaimed = refl
words_same Claimed = refl
words_same Replaced = refl

rows_are : (xs ys : List Row) → pointwise same_row xs ys ≡ true → xs ≡ ys
rows_are [] [] is = refl
rows_are [] (y ∷ ys) is = absurd (false≢true is)
rows_are (x ∷ xs) [] is = absurd (false≢true is)
rows_are (x ∷ xs) (y ∷ ys) is =
    let parts = and_parts (same_row x y) (pointwise same_row xs ys) is in
    let first = row_is x y parts.0 in
    let rest = rows_are xs ys parts.1 in
    λ i. first i ∷ rest i

rows_same : (xs : List Row) → pointwise same_row xs xs ≡ true
rows_same [] = refl
rows_same (x ∷ xs) = and_from _ _ (row_same x x refl refl) (rows_same xs)

pub of_parts : (w : Way) (kind : Kind) → is_of w kind ≡ true → (kind.words ≡ w.words) × (kind.rows ≡ w.rows)
of_parts w kind is =
    let parts = and_parts (same_words kind.words w.words) (pointwise same_row kind.rows w.rows) is in
    (words_are kind.words w.words parts.0, rows_are kind.rows w.rows parts.1)

pub of_from : (w : Way) (kind : Kind) → kind.words ≡ w.words → kind.rows ≡ w.rows → is_of w kind ≡ true
of_from w kind words rows =
    and_from _ _ (ap (λ (x : Words). same_words x w.words) words ∙ words_same w.words) (ap (λ (xs : List Row). pointwise same_row xs w.rows) rows ∙ rows_same w.rows)

-- kinds with the same words and rows are of the same places
pub differs_alike : (a b : Kind) → a.words ≡ b.words → a.rows ≡ b.rows → (o : Option Way) → differs_so a o ≡ differs_so b o
differs_alike a b words rows None = refl
differs_alike a b words rows (Some w) = ap₂ (λ (x : Words) (xs : List Row). same_words x w.words && pointwise same_row xs w.rows) words rows

-- a place that differs so differs in some way, of which the kind is
pub so_parts : (a : Kind) (o : Option Way) → differs_so a o ≡ true → (w : Way) × (o ≡ Some w) × (is_of w a ≡ true)
so_parts a None on = absurd (false≢true on)
so_parts a (Some w) on = (w, refl, on)
