use Rattle.event_state.specs.States.{state}
use Rattle.event_core.proofs.Restoring.{cut_back, down_back, heard_back, queue_back, queued_back, route_back, silence_back}
use Rattle.event_core.proofs.change.put.Goals as goal

pub returns-in-Down-clause-back : goal.returns-in-Down-clause-back
returns-in-Down-clause-back c =
    λ s. down_back (state c.args.world.now) (state c.set_down.new.self) c.in-Down.at c.in-Down.down c.is_down-before.result c.set_down.ensures.world
    c.is_down-before.ensures

pub returns-in-Cut-clause-back : goal.returns-in-Cut-clause-back
returns-in-Cut-clause-back c =
    λ s. cut_back (state c.args.world.now) (state c.set_cut.new.self) c.in-Cut.a c.in-Cut.b c.in-Cut.cut c.is_cut-before.result
    c.set_cut.ensures.world c.is_cut-before.ensures

pub returns-in-Silent-clause-back : goal.returns-in-Silent-clause-back
returns-in-Silent-clause-back c =
    λ s. silence_back (state c.args.world.now) (state c.set_silent.new.self) c.in-Silent.router c.in-Silent.peer c.in-Silent.silent
    c.is_silent-before.result c.set_silent.ensures.world c.is_silent-before.ensures

pub returns-in-Holds-clause-back : goal.returns-in-Holds-clause-back
returns-in-Holds-clause-back c =
    λ s. route_back (state c.args.world.now) (state c.swap_route.new.self) c.in-Holds.at c.in-Holds.route c.swap_route.new.route
    c.swap_route.ensures.world c.swap_route.ensures.route

pub returns-in-Heard-clause-back : goal.returns-in-Heard-clause-back
returns-in-Heard-clause-back c =
    λ s. heard_back (state c.args.world.now) (state c.swap_heard.new.self) c.in-Heard.from c.in-Heard.to c.in-Heard.message c.swap_heard.new.message
    c.swap_heard.ensures.world c.swap_heard.ensures.message

pub returns-in-Queued-clause-back : goal.returns-in-Queued-clause-back
returns-in-Queued-clause-back c =
    λ s. queued_back (state c.args.world.now) (state c.swap_queued.new.self) c.in-Queued.from c.in-Queued.to c.in-Queued.message
    c.swap_queued.new.message c.swap_queued.ensures.world c.swap_queued.ensures.message

pub returns-in-Waiting-clause-back : goal.returns-in-Waiting-clause-back
returns-in-Waiting-clause-back c =
    λ s. queue_back (state c.args.world.now) (state c.swap_queue.new.self) c.in-Waiting.from c.in-Waiting.to c.in-Waiting.queue c.swap_queue.new.queue
    c.swap_queue.ensures.world c.swap_queue.ensures.queue
