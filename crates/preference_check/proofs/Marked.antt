-- A search comes to one node after another.
use Rattle.std.proofs.Common.{◌≡◌, ℕ, Bool, true, false, not, ◌&&◌, ◌||◌, eqb, leb, refl, sym, ap, ◌∙◌}
use Rattle.std.proofs.Math.Bool.{or-false, or_assoc}
use Rattle.reach_prune.specs.Searches.{is_among}
use Rattle.preference_check.specs.Floods.{Marks, has_mark}
use Rattle.preference_check.specs.Rows.{has_upto}
use Rattle.preference_check.specs.declared.flood.Flood.{Flood}

-- what is low, marked, among some, or the next one
low_twice : (u m x y v : Bool) → ((u || (x && (not m && v))) || (y && (not (m || x) && v))) ≡ (u || ((x || y) && (not m && v)))
low_twice true m x y v = refl
low_twice false true true true v = refl
low_twice false true true false v = refl
low_twice false true false y v = refl
low_twice false false true true true = refl
low_twice false false true true false = refl
low_twice false false true false true = refl
low_twice false false true false false = refl
low_twice false false false y v = refl

waits_twice : (w m x y : Bool) → ((w || (x && not m)) || (y && not (m || x))) ≡ (w || ((x || y) && not m))
waits_twice true m x y = refl
waits_twice false true true true = refl
waits_twice false true true false = refl
waits_twice false true false y = refl
waits_twice false false true y = refl
waits_twice false false false y = refl

-- it has come to none
pub marks_none : (number : ℕ) (f : Flood) → Marks number (λ n. false) f f
marks_none number f = record {
  size = refl;
  marked = λ n. sym (or-false (has_mark f.marks.items n));
  marks = λ n v. sym (or-false (has_upto f.marks.items n v));
  waiting = λ n. sym (or-false (is_among f.waiting.items n));
  left = refl;
}

-- and comes to one more
pub marks_more : (number : ℕ) (some all : ℕ → Bool) (node : ℕ) (a b c : Flood) → ((n : ℕ) → all n ≡ (some n || eqb node n)) → Marks number some a b → Marks number (λ n. eqb node n) b c
    → Marks number all a c
marks_more number some all node a b c is before next = record {
  size = next.size ∙ before.size;
  marked = λ n. next.marked n ∙ ap (λ x. x || eqb node n) (before.marked n) ∙ or_assoc (had n) (some n) (eqb node n) ∙ ap (λ x. had n || x) (sym (is n));
  marks = λ n v.
      next.marks n v
      ∙ ap (λ x. x || (eqb node n && (not (has_mark b.marks.items n) && leb number v))) (before.marks n v)
      ∙ ap (λ x. (has_upto a.marks.items n v || (some n && (not (had n) && leb number v))) || (eqb node n && (not x && leb number v))) (before.marked n)
      ∙ low_twice (has_upto a.marks.items n v) (had n) (some n) (eqb node n) (leb number v)
      ∙ ap (λ x. has_upto a.marks.items n v || (x && (not (had n) && leb number v))) (sym (is n));
  waiting = λ n.
      next.waiting n
      ∙ ap (λ x. x || (eqb node n && not (has_mark b.marks.items n))) (before.waiting n)
      ∙ ap (λ x. (is_among a.waiting.items n || (some n && not (had n))) || (eqb node n && not x)) (before.marked n)
      ∙ waits_twice (is_among a.waiting.items n) (had n) (some n) (eqb node n)
      ∙ ap (λ x. is_among a.waiting.items n || (x && not (had n))) (sym (is n));
  left = next.left ∙ before.left;
}
  where
    had : ℕ → Bool
    had n = has_mark a.marks.items n
