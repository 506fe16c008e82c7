use Rattle.std.proofs.Common.{ℕ, List, w64, get_or, ap, ◌∙◌}
use Rattle.std.specs.Prelude.{bit_and}
use Rattle.std.specs.Int.{bit_not}
use Rattle.std.specs.Simd.Lanes.{chunk, put_chunk}
use Rattle.bit_rows.proofs.Lanes.{lanes_before, lanes_here, lanes_behind, zip2-map}
use Rattle.bit_rows.proofs.kernels.clear_lanes.Goals as goal

without : ℕ → ℕ → ℕ
without x y = bit_and x (bit_not w64 y)

pub returns-clause-before : goal.returns-clause-before
unfolding without
returns-clause-before c = λ j lt.
    ap (λ (l : List ℕ). get_or (put_chunk c.args.at c.args.row.now l) j 0) (zip2-map bit_and (bit_not w64) (chunk c.args.at 4 c.args.row.now) (chunk c.args.at 4 c.args.other.now))
    ∙ lanes_before without c.args.at c.args.row.now c.args.other.now c.requires.len c.requires.room j lt

pub returns-clause-here : goal.returns-clause-here
unfolding without
returns-clause-here c = λ j le lt.
    ap (λ (l : List ℕ). get_or (put_chunk c.args.at c.args.row.now l) j 0) (zip2-map bit_and (bit_not w64) (chunk c.args.at 4 c.args.row.now) (chunk c.args.at 4 c.args.other.now))
    ∙ lanes_here without c.args.at c.args.row.now c.args.other.now c.requires.len c.requires.room j le lt

pub returns-clause-behind : goal.returns-clause-behind
unfolding without
returns-clause-behind c = λ j le.
    ap (λ (l : List ℕ). get_or (put_chunk c.args.at c.args.row.now l) j 0) (zip2-map bit_and (bit_not w64) (chunk c.args.at 4 c.args.row.now) (chunk c.args.at 4 c.args.other.now))
    ∙ lanes_behind without c.args.at c.args.row.now c.args.other.now c.requires.len c.requires.room j le
