use Rattle.lint_cover.proofs.Halves.{low_half-IsPrefix}
use Rattle.lint_cover.proofs.covered.low.Goals as goal

pub new-requires : goal.new-requires
new-requires c = rw c.bits.ensures.bits (rw c.len.ensures.len (low_half-IsPrefix c.args.prefix c.bits.ensures.rules c.requires))
