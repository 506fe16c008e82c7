use Rattle.std.proofs.Common.{◌≡◌, length, ap, ◌∙◌, arith, take, ◌++◌, length-append, length-set, List, ℕ, Bor}
use Rattle.std.specs.Prelude.{◌==◌, min}
use Rattle.std.specs.List.{slice_split}
use Rattle.std.proofs.lemmas.List.{length-map, length-take}
use Rattle.std.proofs.lemmas.List.Splits.{length-slice_split}
use Rattle.config_lines.proofs.KeptWords.{texts, left_over, cut_once, kept, all_kept}
use Rattle.config_lines.proofs.words.Words.of.Goals as goal

pub returns-then-count-eq-MOST_WORDS-clause-none : goal.returns-then-count-eq-MOST_WORDS-clause-none
returns-then-count-eq-MOST_WORDS-clause-none c =
    let before = c.loop-left.invariant in
    let n = c.loop-left.count in
    let places = c.loop-left.places in
    let kept_length : length (texts (take n places)) ≡ min n (length places) = length-map (take n places) (λ (p : Bor (List ℕ)). p.now) ∙ length-take n places in
    let left : length (left_over 32 c.loop-left.left) ≡ length (slice_split (λ b. b == 32) c.in-Some.bytes.now) = ap (λ o. length (left_over 32 o)) c.in-Some.is in
    let whole : length (texts (take n places) ++ left_over 32 c.loop-left.left) ≡ length (slice_split (λ b. b == 32) c.args.line.now) = ap length before.whole in
    omega (
      arith,
      kept_length,
      left,
      whole,
      length-append (texts (take n places)) (left_over 32 c.loop-left.left),
      length-slice_split (λ b. b == 32) c.in-Some.bytes.now,
      before.room,
      c.if-count-eq-MOST_WORDS.true,
    )

pub offset_bounds-places-count : goal.offset_bounds-places-count
offset_bounds-places-count c = omega (arith, c.loop-left.invariant.count)

pub bounds-places-count : goal.bounds-places-count
bounds-places-count c = omega (arith, c.loop-left.invariant.count, c.if-count-eq-MOST_WORDS.false)

pub overflow_add-count : goal.overflow_add-count
overflow_add-count c = omega (arith, c.loop-left.invariant.count)

pub loop-left-smaller : goal.loop-left-smaller
loop-left-smaller c =
    let cut = cut_once 32 c.loop-left.left c.in-Some.bytes c.first_part.result.0 c.first_part.result.1 c.in-Some.is c.first_part.ensures in
    omega (arith, ap length cut)

pub loop-left-preserved : goal.loop-left-preserved
loop-left-preserved c =
    let before = c.loop-left.invariant in
    let cut = cut_once 32 c.loop-left.left c.in-Some.bytes c.first_part.result.0 c.first_part.result.1 c.in-Some.is c.first_part.ensures in
    record {
      count = omega (arith, before.count, c.if-count-eq-MOST_WORDS.false);
      room = length-set c.loop-left.places c.loop-left.count c.first_part.result.0 ∙ before.room;
      whole =
          kept c.loop-left.places c.loop-left.count c.first_part.result.0 (left_over 32 c.loop-left.left) (left_over 32 c.first_part.result.1) _
          (omega (arith, before.count, before.room, c.if-count-eq-MOST_WORDS.false)) cut before.whole;
    }

pub returns-clause-some : goal.returns-clause-some
returns-clause-some c = all_kept 32 c.loop-left.places c.loop-left.count c.loop-left.left _ c.in_default.is c.loop-left.invariant.whole
