use Rattle.std.proofs.Common.{[], ◌∷◌, ◌++◌, refl, ap, ◌∙◌}
use Rattle.event_state.specs.States.{state}
use Rattle.event_core.specs.declared.change.Change.TheVariants.{TakenBack}
use Rattle.event_core.proofs.Restoring.{taken_back}
use Rattle.event_core.proofs.Undoing.{follows_made}
use Rattle.event_core.proofs.changing.Changing.post.Goals as goal

pub returns : goal.returns
returns c = record {
  ok = c.in_ok-post.ensures.ok;
  follows =
      follows_made c.args.self.now _ (TakenBack c.args.from c.args.to) refl c.post.ensures.setting
      (c.push_reserved.ensures.items ∙ ap (λ cs. cs ++ TakenBack c.args.from c.args.to ∷ []) c.reserve.ensures.items)
      c.requires
      (taken_back (state c.args.self.now.world.now) (state c.post.new.self) c.args.from c.args.to c.args.message c.in_ok-post.ensures.ok);
}
