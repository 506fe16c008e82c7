-- The first bits of a prefix.
use Rattle.std.proofs.Common.{◌≡◌, ℕ, ◌+◌, ◌-◌, ◌*◌, ◌/◌, ◌^◌, ◌<◌, ◌≤◌, List, refl, ap, sym, ◌∙◌, arith}
use Rattle.std.specs.Prelude.{max, true}
use Rattle.std.specs.List.{AllByRecursion}
use Rattle.std.proofs.lemmas.Nat.{shr_split, shl-shr}
use Rattle.std.proofs.Math.Nat.{mul-mod_left, div-mul-le_self}
use Rattle.net_base.specs.Prefixes.{PlainPrefix, PlainPattern, IsPrefix, IsPattern, is_inside}
use Rattle.net_base.proofs.PrefixLemmas.{fewer_bits}
use Rattle.lint_cover.specs.Covered.{depth_at, exact_at}
use Rattle.lint_cover.specs.Tables.{cut_at}
use Rattle.lint_cover.proofs.Decision.{inside_whole}
use Rattle.lint_cover.proofs.Tables.{depth_at-next}

pub cut_at-IsPrefix : (p : PlainPrefix) (k : ℕ) → p.bits < 2 ^ 32 → k ≤ 32 → IsPrefix (cut_at p k)
cut_at-IsPrefix p k wide most = record {
  wide = omega (arith, div-mul-le_self p.bits (2 ^ (32 - k)), wide);
  within = most;
  clean = mul-mod_left (p.bits / 2 ^ (32 - k)) (2 ^ (32 - k));
}

cut_inside : (p : PlainPrefix) (k : ℕ) → k + 1 ≤ 32 → is_inside (cut_at p k) (cut_at p (k + 1)) ≡ true
cut_inside p k below = inside_whole (cut_at p k) (cut_at p (k + 1)) (record {
  least = omega arith;
  agree = fewer_bits (p.bits / 2 ^ (32 - (k + 1)) * 2 ^ (32 - (k + 1))) k (k + 1) (omega arith) below
      ∙ ap (λ n. n / 2 ^ (k + 1 - k)) (shl-shr (p.bits / 2 ^ (32 - (k + 1))) (32 - (k + 1)))
      ∙ sym (fewer_bits p.bits k (k + 1) (omega arith) below)
      ∙ sym (shl-shr (p.bits / 2 ^ (32 - k)) (32 - k));
})

pub depth_at-cut : (qs : List PlainPattern) (p : PlainPrefix) (k : ℕ) → AllByRecursion IsPattern qs → p.bits < 2 ^ 32 → k + 1 ≤ 32
    → max (depth_at qs (cut_at p k)) (exact_at qs (cut_at p (k + 1))) ≡ depth_at qs (cut_at p (k + 1))
depth_at-cut qs p k all wide below =
    sym (depth_at-next qs (cut_at p k) (cut_at p (k + 1)) all (cut_at-IsPrefix p (k + 1) wide below) refl (cut_inside p k below))

pub cut_none : (p : PlainPrefix) → p.bits < 2 ^ 32 → cut_at p 0 ≡ record { bits = 0; len = 0 }
cut_none p wide = ap (λ n. record { bits = n; len = 0 }) (omega (arith, wide))

pub cut_all : (p : PlainPrefix) → IsPrefix p → cut_at p p.len ≡ p
cut_all p lawful = ap (λ n. record { bits = n; len = p.len }) (omega (arith, shr_split p.bits (32 - p.len), lawful.clean))
