use Rattle.std.proofs.Common.{sym, ap, ◌∙◌}
use Rattle.event_state.specs.States.{state}
use Rattle.event_core.specs.Changes.{changed, undone}
use Rattle.event_core.proofs.Undoing.{undone_last}
use Rattle.event_core.proofs.changing.Changing.rewind.Goals as goal

pub loop-change-preserved : goal.loop-change-preserved
loop-change-preserved c =
    let net = c.args.self.now.world.now.net.now in
    let now = c.loop-change.self.world.now in
    record {
      same = c.loop-change.invariant.same;
      setting = c.undo.ensures.setting ∙ c.loop-change.invariant.setting;
      left =
          ap (undone net c.pop.new.self.items) (c.undo.ensures.world ∙ ap (λ s. changed s.0 c.in-Some.change (state now)) c.loop-change.invariant.setting)
          ∙ sym (undone_last net c.pop.new.self.items c.in-Some.change (state now))
          ∙ ap (λ cs. undone net cs (state now)) (sym c.in-Some.ensures.items)
          ∙ c.loop-change.invariant.left;
    }
