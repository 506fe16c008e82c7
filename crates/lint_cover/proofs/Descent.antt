-- Going down by halves with what is around.
use Rattle.std.proofs.Common.{◌≡◌, ℕ, zero, suc, ◌+◌, ◌-◌, ◌<◌, ◌≤◌, Bool, true, false, List, refl, sym, ap, ◌∙◌, arith}
use Rattle.std.specs.Prelude.{◌&&◌, ◌||◌, nat_lt, max}
use Rattle.std.specs.List.{AllByRecursion}
use Rattle.std.proofs.lemmas.Bool.{lt-ltb, le-ltb}
use Rattle.net_base.specs.Prefixes.{PlainPrefix, PlainPattern, IsPrefix, IsPattern}
use Rattle.lint_cover.specs.Covered.{depth_at, exact_at, low_half, high_half, covered_below}
use Rattle.lint_cover.proofs.Halves.{low_half-IsPrefix, high_half-IsPrefix, high_agree}
use Rattle.lint_cover.proofs.Decision.{inside_whole}
use Rattle.lint_cover.proofs.Tables.{depth_at-next}

next_low : (qs : List PlainPattern) (p : PlainPrefix) → AllByRecursion IsPattern qs → IsPrefix p → p.len + 1 ≤ 32
    → max (depth_at qs p) (exact_at qs (low_half p)) ≡ depth_at qs (low_half p)
next_low qs p all lawful below =
    sym (depth_at-next qs p (low_half p) all (low_half-IsPrefix p lawful below) refl (inside_whole p (low_half p) (record { least = omega arith; agree = refl })))

next_high : (qs : List PlainPattern) (p : PlainPrefix) → AllByRecursion IsPattern qs → IsPrefix p → p.len + 1 ≤ 32
    → max (depth_at qs p) (exact_at qs (high_half p)) ≡ depth_at qs (high_half p)
next_high qs p all lawful below =
    sym (depth_at-next qs p (high_half p) all (high_half-IsPrefix p lawful below) refl (inside_whole p (high_half p) (record { least = omega arith; agree = high_agree p lawful below })))

-- what the descent is told to be around a half is what is
around_half : (qs : List PlainPattern) (p half next : PlainPrefix) (around most end : ℕ) → around ≡ depth_at qs p → half ≡ next → end ≡ exact_at qs half → most ≡ max around end
    → max (depth_at qs p) (exact_at qs next) ≡ depth_at qs next → most ≡ depth_at qs half
around_half qs p half next around most end is same ends at found = at ∙ rw ends (rw is (rw same found))

pub around_low : (qs : List PlainPattern) (p half : PlainPrefix) (around most end : ℕ) → AllByRecursion IsPattern qs → IsPrefix p → p.len + 1 ≤ 32
    → around ≡ depth_at qs p → half ≡ low_half p → end ≡ exact_at qs half → most ≡ max around end → most ≡ depth_at qs half
around_low qs p half around most end all lawful below is same ends at = around_half qs p half (low_half p) around most end is same ends at (next_low qs p all lawful below)

pub around_high : (qs : List PlainPattern) (p half : PlainPrefix) (around most end : ℕ) → AllByRecursion IsPattern qs → IsPrefix p → p.len + 1 ≤ 32
    → around ≡ depth_at qs p → half ≡ high_half p → end ≡ exact_at qs half → most ≡ max around end → most ≡ depth_at qs half
around_high qs p half around most end all lawful below is same ends at = around_half qs p half (high_half p) around most end is same ends at (next_high qs p all lawful below)

same_and : (a b c : Bool) → a ≡ true → b ≡ false → (a && (b || c)) ≡ c
same_and a b c x y = rw x (rw y refl)

-- what is covered to some depth, and not below all, is covered where both halves are
halves : (qs : List PlainPattern) (p : PlainPrefix) (more : ℕ) → p.len < depth_at qs p → depth_at qs p ≤ p.len + more
    → (covered_below qs (low_half p) (more - 1) && covered_below qs (high_half p) (more - 1)) ≡ covered_below qs p more
halves qs p zero deep short = absurd (omega arith)
halves qs p (suc more) deep short =
    let e : suc more - 1 ≡ more = omega arith in
    rw e (sym (same_and (nat_lt p.len (depth_at qs p)) (nat_lt (p.len + suc more) (depth_at qs p)) _ (lt-ltb _ _ deep) (le-ltb _ _ short)))

-- where the first half isn't covered nothing more is asked,
pub first_off : (qs : List PlainPattern) (p : PlainPrefix) (more : ℕ) (low : Bool) → p.len < depth_at qs p → depth_at qs p ≤ p.len + more
    → low ≡ covered_below qs (low_half p) (more - 1) → low ≡ false → low ≡ covered_below qs p more
first_off qs p more low deep short is off = off ∙ sym (ap (λ b. b && covered_below qs (high_half p) (more - 1)) (sym is ∙ off)) ∙ halves qs p more deep short

-- and where it is, the second one decides
pub second_decides : (qs : List PlainPattern) (p : PlainPrefix) (more : ℕ) (low high : Bool) → p.len < depth_at qs p → depth_at qs p ≤ p.len + more
    → low ≡ covered_below qs (low_half p) (more - 1) → low ≡ true → high ≡ covered_below qs (high_half p) (more - 1) → high ≡ covered_below qs p more
second_decides qs p more low high deep short is on then =
    then ∙ sym (ap (λ b. b && covered_below qs (high_half p) (more - 1)) (sym is ∙ on)) ∙ halves qs p more deep short
