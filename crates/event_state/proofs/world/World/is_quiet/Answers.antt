use Rattle.std.proofs.Common.{rules, tests}
use Rattle.std.proofs.lemmas.Iterator.{YieldsList-from_slice}
use Rattle.std.proofs.lemmas.Iterator.Search.{all_from_yields_List}
use Rattle.event_state.proofs.Idleness.{is_idle_link, queue, quiet_where}
use Rattle.event_state.proofs.world.World.is_quiet.Goals as goal

pub returns : goal.returns
returns c =
    let w = c.args.self.now in
    quiet_where w.net.now w.queues.items c.all.result (all_from_yields_List (is_idle_link (queue w.net.now w.queues.items)) _ _ c.all.result
    c.all.ensures.ran (YieldsList-from_slice w.net.now.links cc) (λ x b q k. search (rules, tests)))
