use Rattle.std.proofs.Common.{◌≡◌, Bool, true, false, not, refl, ap, ◌∙◌}
use Rattle.std.specs.Prelude.{◌&&◌, if◌then◌else◌}
use Rattle.std.proofs.Math.Bool.{beq}
use Rattle.config_base.proofs.blocks.is_wanted.Goals as goal

pub returns-then-is_same : goal.returns-then-is_same
returns-then-is_same c = by c.args.block.now.peer c.args.peer ∙ ap (λ same. same && (if c.args.block.now.peer then c.args.peer else not c.args.peer)) c.if-is_same.ensures
  where
    by : (k p : Bool) → beq k p ≡ (if k then p else not p)
    by true true = refl
    by true false = refl
    by false true = refl
    by false false = refl
