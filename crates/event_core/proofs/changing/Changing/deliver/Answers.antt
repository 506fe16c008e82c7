use Rattle.std.proofs.Common.{ap, ◌∙◌}
use Rattle.event_base.specs.World.{choose_again}
use Rattle.event_state.specs.Changes.{with_heard}
use Rattle.event_state.specs.States.{speakers, state}
use Rattle.event_core.proofs.Delivered.{delivered_last, linked_apart, waiting_first}
use Rattle.event_core.proofs.Making.{makes_then}
use Rattle.event_core.proofs.changing.Changing.deliver.Goals as goal

pub returns : goal.returns
returns c =
    let kept = c.args.self.now.world.now in
    let w = state kept in
    let a = c.args.from in
    let b = c.args.to in
    let first = waiting_first (w.queue a b) c.requires.waits in
    let heard = makes_then c.in_ok-make.ensures c.in_ok-choose_again.ensures in
    record {
      ok =
          c.pop.ensures.world
          ∙ delivered_last (speakers kept) a b (linked_apart kept.net.now a b c.known_net.ensures c.requires.linked) first.0 first.1 w (state c.choose_again.new.self.world.now) first.2
          (heard.ok ∙ ap (λ m. choose_again (speakers kept) b (with_heard a b m w)) (c.in_ok-message.ensures first.0 first.1 first.2));
      same = heard.follows.same;
      setting = c.pop.ensures.setting ∙ heard.follows.setting;
      err = tt;
    }
