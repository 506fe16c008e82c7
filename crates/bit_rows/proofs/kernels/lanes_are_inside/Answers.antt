use Rattle.std.proofs.lemmas.Bool.{eq-eqb, eqb-true}
use Rattle.bit_rows.proofs.Lanes.{clear_lanes, lanes_clear}
use Rattle.bit_rows.proofs.kernels.lanes_are_inside.Goals as goal

pub returns : goal.returns
returns c = (
  λ h. lanes_clear c.args.at c.args.a.now c.args.b.now c.args.c.now c.requires.b c.requires.c c.requires.room (eqb-true _ _ h),
  λ h. eq-eqb _ _ (clear_lanes c.args.at c.args.a.now c.args.b.now c.args.c.now c.requires.b c.requires.c c.requires.room h),
)
