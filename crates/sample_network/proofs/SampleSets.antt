-- The sets of the sample's policy.
use Rattle.std.proofs.Common.{◌≡◌, ℕ, ◌/◌, ◌%◌, ◌≤◌, ◌<◌, ◌^◌, Bool, true, ◌||◌, ◌&&◌, List, refl, sym, ap, ◌∙◌, arith, inl, inr, eq-eqb, true≢false}
use Rattle.std.specs.Prelude.{◌==◌, bit_or, count_ones, nat_le, nat_lt, replicate, slice_index}
use Rattle.std.proofs.Math.Pow.{pow-lt}
use Rattle.std.proofs.lemmas.Bool.{and_parts, cases_lt, lt-ltb}
use Rattle.std.proofs.lemmas.List.Folds.{sum_by-replicate}
use Rattle.std.proofs.lemmas.List.Sums.{sum_by-set}
use Rattle.std.proofs.lemmas.Nat.{or_lt, ones-le, ones_le_self}
use Rattle.net_base.specs.SetOperations.{no_location, size_of}
use Rattle.net_base.proofs.HeldSets.{one_held}
use Rattle.net_base.proofs.SetLaws.{IsWords-none, holds-none, holds-with}
use Rattle.net_base.proofs.SetOf.{holds-set_of, holds-set_of_past}
use Rattle.policy_text.specs.Printable.{HoldsOnly, HoldsSome}
use Rattle.sample_network.specs.SamplePolicy.{alone, leaves}

-- ---- one location

pub alone_only : (test : ℕ → Bool) (l : ℕ) → test l ≡ true → HoldsOnly test (alone l)
alone_only test l is m on = ap test (one_held l m on) ∙ is

pub alone_some : (l : ℕ) → l < 768 → HoldsSome (alone l)
alone_some l low = (l, holds-with no_location l l low IsWords-none ∙ ap (λ (b : Bool). b || l == l) (holds-none l low) ∙ eq-eqb l l refl)

-- it has at most as many bits as a word
pub alone_size : (l : ℕ) → l < 768 → size_of (alone l) ≤ 64
alone_size l low =
    let zeros : List ℕ = replicate 12 0 in
    let place : l / 64 < 12 = omega (arith, low) in
    let bit : l % 64 < 64 = omega arith in
    let word : ℕ = bit_or (slice_index zeros (l / 64)) (2 ^ (l % 64)) in
    let fits : word < 2 ^ 64 = or_lt 64 (slice_index zeros (l / 64)) (2 ^ (l % 64)) (IsWords-none.fit (l / 64)) (pow-lt bit) in
    let none : count_ones 0 ≤ 0 = ones_le_self 0 in
    omega (arith, sum_by-set count_ones zeros (l / 64) word 0 place, sum_by-replicate count_ones 12 0, ones-le 64 word fits, none)

-- ---- the leaves

pub leaves_only : (test : ℕ → Bool) (n : ℕ) → ((l : ℕ) → nat_lt l n ≡ true → test l ≡ true) → HoldsOnly test (leaves n)
leaves_only test n is l on = elim (cases_lt l 768) [
  | inl low ↦ is l (and_parts (nat_le 0 l) (nat_lt l n) (sym (holds-set_of (λ l. nat_le 0 l && nat_lt l n) l low) ∙ on)).1
  | inr high ↦ absurd (true≢false (sym on ∙ holds-set_of_past (λ l. nat_le 0 l && nat_lt l n) l high))
]

pub leaves_some : (n : ℕ) → 0 < n → HoldsSome (leaves n)
leaves_some n some = (0, holds-set_of (λ l. nat_le 0 l && nat_lt l n) 0 (omega arith) ∙ lt-ltb 0 n some)
