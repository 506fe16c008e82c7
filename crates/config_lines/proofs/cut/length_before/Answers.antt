use Rattle.std.proofs.Common.{sym, arith, rules}
use Rattle.std.specs.Prelude.{◌==◌}
use Rattle.std.proofs.lemmas.List.Sums.{position_or_len_is}
use Rattle.config_lines.proofs.cut.length_before.Goals as goal

pub returns-then-bytes-i-clause-place : goal.returns-then-bytes-i-clause-place
returns-then-bytes-i-clause-place c =
    sym (position_or_len_is (λ b. b == c.args.sign) c.args.bytes.now c.loop-i.i 0 c.loop-i.invariant.0 c.loop-i.invariant.1 (λ within. search rules))

pub returns-clause-place : goal.returns-clause-place
returns-clause-place c =
    sym (position_or_len_is (λ b. b == c.args.sign) c.args.bytes.now c.loop-i.i 0 c.loop-i.invariant.0 c.loop-i.invariant.1 (λ within. absurd (omega arith)))
