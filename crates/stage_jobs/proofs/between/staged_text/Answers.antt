use Rattle.std.proofs.Common.{sym, subst, inr}
use Rattle.stage_maker.specs.Laws.{MayJoin}
use Rattle.stage_check.proofs.Free.{cells_serve}
use Rattle.stage_jobs.proofs.Saying.{staged}
use Rattle.stage_jobs.proofs.between.staged_text.Goals as goal

pub stage_between-requires-clause-may : goal.stage_between-requires-clause-may
stage_between-requires-clause-may c =
    subst (λ cs. MayJoin cs c.args.old.now c.args.new.now) (sym c.requires.cells) (cells_serve c.args.old.now c.args.new.now c.requires.old c.requires.new c.requires.free)

pub returns : goal.returns
returns c =
    inr (staged c.args.which c.args.old.now c.args.new.now c.in_ok-print_config.field-0.items c.in_ok-stage.stage c.requires.old c.requires.new c.requires.free
    c.in_ok-stage.ensures c.in_ok-print_config.ensures.spells)
