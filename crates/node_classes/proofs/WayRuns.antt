-- In ascending ways those of one node are a run.
use Rattle.std.proofs.Common.{◌≡◌, ℕ, zero, suc, ◌+◌, ◌-◌, ◌<◌, ◌≤◌, Bool, true, false, List, [], ◌∷◌, length, get_or, take, drop, arith}
use Rattle.std.specs.Prelude.{nat_lt, nat_le, filter}
use Rattle.std.specs.List.{AllByRecursion}
use Rattle.std.specs.List.Sorted.{IsPartitionedBy, IsPartitionPoint}
use Rattle.std.proofs.lemmas.Bool.{ltb-true, ltb-false, leb-true, leb-false, lt-ltb, le-leb, eqb-true, eq-eqb, false_from_ne_true}
use Rattle.list_law.proofs.SortedRuns.{points_ordered, run_between}
use Rattle.node_classes.specs.declared.way.Way.{Way}
use Rattle.node_classes.specs.Ways.{IsAbove, Ascend, BeginsAt, comes_from}

above_at : (v : Way) (ws : List Way) (j : ℕ) (d : Way) → AllByRecursion (IsAbove v) ws → j < length ws → v.from ≤ (get_or ws j d).from
above_at v [] j d all lt = absurd (omega (arith, lt))
above_at v (w ∷ ws) zero d all lt = all.0.0
above_at v (w ∷ ws) (suc j) d all lt = above_at v ws j d all.1 (omega (arith, lt))

from_up : (ws : List Way) (i j : ℕ) (d : Way) → Ascend ws → i ≤ j → j < length ws → (get_or ws i d).from ≤ (get_or ws j d).from
from_up [] i j d up le lt = absurd (omega (arith, lt))
from_up (w ∷ ws) zero zero d up le lt = omega arith
from_up (w ∷ ws) zero (suc j) d up le lt = above_at w ws j d up.0 (omega (arith, lt))
from_up (w ∷ ws) (suc i) zero d up le lt = absurd (omega (arith, le))
from_up (w ∷ ws) (suc i) (suc j) d up le lt = from_up ws i j d up.1 (omega (arith, le)) (omega (arith, lt))

abbrev pub below_node : ℕ → Way → Bool
below_node n w = nat_lt w.from n

abbrev pub upto_node : ℕ → Way → Bool
upto_node n w = nat_le w.from n

module _ (n : ℕ) (ws : List Way) (up : Ascend ws) where
  pub below_parts : IsPartitionedBy (below_node n) ws
  below_parts i j d le within holds = lt-ltb _ n (omega (arith, from_up ws i j d up le within, ltb-true _ n holds))

  pub upto_parts : IsPartitionedBy (upto_node n) ws
  upto_parts i j d le within holds = le-leb _ n (omega (arith, from_up ws i j d up le within, leb-true _ n holds))

more : (n : ℕ) (w : Way) → below_node n w ≡ true → upto_node n w ≡ true
more n w h = le-leb w.from n (omega (arith, ltb-true w.from n h))

early : (n : ℕ) (w : Way) → below_node n w ≡ true → comes_from n w ≡ false
early n w h = false_from_ne_true _ (λ g. omega (arith, ltb-true w.from n h, eqb-true w.from n g))

late : (n : ℕ) (w : Way) → upto_node n w ≡ false → comes_from n w ≡ false
late n w h = false_from_ne_true _ (λ g. omega (arith, leb-false w.from n h, eqb-true w.from n g))

inside : (n : ℕ) (w : Way) → below_node n w ≡ false → upto_node n w ≡ true → comes_from n w ≡ true
inside n w h u = eq-eqb w.from n (omega (arith, ltb-false w.from n h, leb-true w.from n u))

module _ (n : ℕ) (ws : List Way) (i j : ℕ) (short : i ≤ length ws) (start : IsPartitionPoint (λ x. below_node n x ≡ true) (λ x. below_node n x ≡ false) ws i)
    (end : IsPartitionPoint (λ x. upto_node n x ≡ true) (λ x. upto_node n x ≡ false) ws j) where
  none : Way
  none = record { from = 0; at = 0; to = 0 }

  pub ways_ordered : i ≤ j
  ways_ordered = points_ordered (below_node n) (upto_node n) (comes_from n) (more n) (early n) (late n) (inside n) ws i j short start end none

  pub ways_run : take (j - i) (drop i ws) ≡ filter (comes_from n) ws
  ways_run = run_between (below_node n) (upto_node n) (comes_from n) (more n) (early n) (late n) (inside n) ws i j short start end ways_ordered

-- ---- runs between two places

module _ (n : ℕ) (ws : List Way) (i j : ℕ) (start : BeginsAt ws n i) (end : BeginsAt ws (n + 1) j) where
  start_point : IsPartitionPoint (λ x. below_node n x ≡ true) (λ x. below_node n x ≡ false) ws i
  start_point = (λ k d le lt. lt-ltb _ n (start.before k d lt), λ k d le lt. false_from_ne_true _ (λ h. omega (arith, ltb-true _ n h, start.behind k d le lt)))

  end_point : IsPartitionPoint (λ x. upto_node n x ≡ true) (λ x. upto_node n x ≡ false) ws j
  end_point = (λ k d le lt. le-leb _ n (omega (arith, end.before k d lt)), λ k d le lt. false_from_ne_true _ (λ h. omega (arith, leb-true _ n h, end.behind k d le lt)))

  pub begins_ordered : i ≤ j
  begins_ordered = ways_ordered n ws i j start.within start_point end_point

  pub begins_run : take (j - i) (drop i ws) ≡ filter (comes_from n) ws
  begins_run = ways_run n ws i j start.within start_point end_point

-- where a way comes from no lesser node, the ways of the lesser ones end
pub begins_next : (ws : List Way) (n i : ℕ) → Ascend ws → i ≤ length ws → ((j : ℕ) (d : Way) → j < i → (get_or ws j d).from < n)
    → ((d : Way) → i < length ws → n ≤ (get_or ws i d).from) → BeginsAt ws n i
begins_next ws n i up within before next = record {
  within = within;
  before = before;
  behind = λ j d le lt. omega (arith, next d (omega (arith, le, lt)), from_up ws i j d up le lt);
}
