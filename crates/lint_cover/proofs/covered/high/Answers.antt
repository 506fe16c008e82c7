use Rattle.std.proofs.Common.{◌≡◌, ℕ, ◌+◌, ◌-◌, ◌*◌, ◌%◌, ◌^◌, ◌≤◌, refl, ap, ◌∙◌, arith, rules}
use Rattle.std.proofs.lemmas.Nat.{one_shl}
use Rattle.lint_cover.proofs.Halves.{high_half-IsPrefix, high_wide}
use Rattle.lint_cover.proofs.covered.high.Goals as goal

shifted : (bits len b l : ℕ) → bits ≡ b → len ≡ l → l + 1 ≤ 32 → bits + 1 * 2 ^ (31 - len) % 4294967296 ≡ b + 2 ^ (31 - l)
shifted bits len b l e f below = rw e (rw f (ap (λ n. b + n) (one_shl (31 - l) 32 (omega arith))))

pub overflow_add-bits : goal.overflow_add-bits
overflow_add-bits c =
    rw (shifted c.bits.result c.len-len.result c.args.prefix.bits c.args.prefix.len c.bits.ensures.bits c.len-len.ensures.len c.requires)
    (search (rules, high_wide c.args.prefix c.bits.ensures.rules c.requires))

pub new-requires : goal.new-requires
new-requires c =
    rw (shifted c.bits.result c.len-len.result c.args.prefix.bits c.args.prefix.len c.bits.ensures.bits c.len-len.ensures.len c.requires)
    (rw c.len-len.ensures.len (high_half-IsPrefix c.args.prefix c.bits.ensures.rules c.requires))

pub returns : goal.returns
returns c =
    c.new.ensures ∙ rw (shifted c.bits.result c.len-len.result c.args.prefix.bits c.args.prefix.len c.bits.ensures.bits c.len-len.ensures.len c.requires)
    (rw c.len-len.ensures.len refl)
