use Rattle.std.proofs.Common.{[], ◌∷◌, subst, sym}
use Rattle.path_exprs.specs.Parts.{expression_of, Puts}
use Rattle.path_exprs.specs.Shared.{values}
use Rattle.path_exprs.proofs.Numbers.{puts-one}
use Rattle.constraint_expand.proofs.ranked.alone.Goals as goal

pub returns : goal.returns
returns c =
    let old = values c.args.parts.now in
    let new = values c.add.new.self in
    let e = expression_of old c.args.part in
    subst (λ ns. Puts old new ns (e ∷ [])) (sym c.in_ok-vec.ensures.items) (puts-one old new e c.in_ok-number.number c.in_ok-number.ensures.added c.in_ok-number.ensures.number)
