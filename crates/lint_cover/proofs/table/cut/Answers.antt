use Rattle.std.proofs.Common.{◌≡◌, ℕ, ◌-◌, ◌*◌, ◌/◌, ◌%◌, ◌^◌, ◌<◌, ◌≤◌, ◌∙◌, arith}
use Rattle.std.proofs.lemmas.Nat.{shl_whole, shr_le}
use Rattle.lint_cover.proofs.Cuts.{cut_at-IsPrefix}
use Rattle.lint_cover.proofs.table.cut.Goals as goal

fits : (x y r : ℕ) → x ≡ y → y < 2 ^ 32 → r ≤ 32 → x / 2 ^ r * 2 ^ r % 18446744073709551616 ≡ y / 2 ^ r * 2 ^ r
fits x y r e wide most = rw e (shl_whole (y / 2 ^ r) 32 r 64 (omega (arith, shr_le y r, wide)) (omega (arith, most)))

pub new-requires : goal.new-requires
new-requires c =
    rw (fits c.from.result c.args.prefix.bits (32 - c.args.len) (c.from.ensures ∙ c.bits.ensures.bits) c.bits.ensures.rules.wide (omega arith))
    (cut_at-IsPrefix c.args.prefix c.args.len c.bits.ensures.rules.wide c.requires)
